-- What the reads of a header come to.
use Rattle.std.proofs.Common.{◌≡◌, ◌≢◌, ◌<◌, ◌≤◌, ◌++◌, length, Result, Ok, Err, sym, ap, subst, ◌∙◌, arith, append_assoc, length-take}
use Rattle.std.proofs.lemmas.List.{take_all}
use Rattle.std.specs.IoError.{error_kind}
use Rattle.std.specs.declared.io.Error.{Error}
use Rattle.std.specs.declared.io.ErrorKind.TheVariants.{Interrupted}
use Rattle.tokio.specs.Io.Moved.{FillFails, Passes, PassesInOrder}
use Rattle.ttrpc_proto.specs.declared.framing.header.MessageHeader.{MessageHeader}
use Rattle.ttrpc_proto.specs.Framing.Header.{header_of}
use Rattle.ttrpc_polled_frames.specs.declared.headers.ReadHeader.{ReadHeader}
use Rattle.ttrpc_polled_frames.specs.Heading.{came_of, FillsHeader, IsHeading, WillHead}

pub fills_more : {S : Type 0} (reads : Passes S) → PassesInOrder reads → (a b c : ReadHeader S) → FillsHeader reads a b → FillsHeader reads b c → FillsHeader reads a c
fills_more reads order a b c x y = (x.0 ++ y.0, order a.reader x.0 b.reader y.0 c.reader x.1 y.1, y.2 ∙ ap (λ r. r ++ y.0) x.2 ∙ append_assoc (came_of a) x.0 y.0)

pub heads_later : {S : Type 0} (reads : Passes S) → PassesInOrder reads → (ends : S → Type 0) (fails : S → Error → Type 0) (a b : ReadHeader S) (r : Result MessageHeader Error) → FillsHeader reads a b → WillHead reads ends fails b r → WillHead reads ends fails a r
heads_later reads order ends fails a b r x w = (
  x.0 ++ w.0,
  w.1,
  order a.reader x.0 b.reader w.0 w.1 x.1 w.2,
  subst (λ bytes. IsHeading ends fails r bytes w.1) (ap (λ s. s ++ w.0) x.2 ∙ append_assoc (came_of a) x.0 w.0) w.3,
)

-- it ends with so many bytes
pub heads_short : {S : Type 0} (reads : Passes S) (ends : S → Type 0) (fails : S → Error → Type 0) (a b : ReadHeader S) (e : Error) → FillsHeader reads a b → b.filled < 10 → FillFails fails ends b.reader e → error_kind e ≢ Interrupted → WillHead reads ends fails a (Err e)
heads_short reads ends fails a b e x less why lasting =
    let size : length (came_of a ++ x.0) ≡ length (came_of b) = ap length (sym x.2) in
    (x.0, b.reader, x.1, (omega (arith, size, length-take b.filled b.bytes, less), why, lasting))

-- it is whole
pub heads_whole : {S : Type 0} (reads : Passes S) (ends : S → Type 0) (fails : S → Error → Type 0) (a b : ReadHeader S) (h : MessageHeader) → FillsHeader reads a b → 10 ≤ b.filled → length b.bytes ≡ 10 → h ≡ header_of b.bytes → WillHead reads ends fails a (Ok h)
heads_whole reads ends fails a b h x more ten is =
    let same : b.bytes ≡ came_of a ++ x.0 = sym (take_all b.filled b.bytes (omega (arith, ten, more))) ∙ x.2 in
    (x.0, b.reader, x.1, (sym (ap length same) ∙ ten, is ∙ ap header_of same))
