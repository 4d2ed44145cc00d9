-- What the pieces of a frame come to that are read one after the other.
use Rattle.std.proofs.Common.{◌≡◌, ℕ, ◌+◌, ◌<◌, ◌≤◌, List, [], ◌∷◌, ◌++◌, length, take, drop, Option, Some, None, IfSome, IfNone, Result, Ok, Err, nat_lt, false, ◌-◌, sym, ap, subst, ◌∙◌, arith, append_assoc, length-append}
use Rattle.std.proofs.lemmas.Bool.{le-ltb}
use Rattle.std.proofs.lemmas.List.{append-nil, length-take-le, take-append-drop, take_all}
use Rattle.std.specs.declared.io.Error.{Error}
use Rattle.futures.specs.declared.task.Poll.{Poll}
use Rattle.futures.specs.declared.task.Poll.TheVariants.{Ready}
use Rattle.tokio.specs.Io.Moved.{bytes_moved, Passes, PassesInOrder, PassesNothing}
use Rattle.ttrpc_proto.specs.declared.framing.header.MessageHeader.{MessageHeader}
use Rattle.ttrpc_proto.specs.declared.framing.failure.StreamFailure.{StreamFailure}
use Rattle.ttrpc_proto.specs.declared.framing.failure.StreamFailure.TheVariants.{Io, NoMemory}
use Rattle.ttrpc_proto.specs.declared.framing.frame.Incoming.{Incoming}
use Rattle.ttrpc_proto.specs.declared.framing.reading.Found.{Found}
use Rattle.ttrpc_proto.specs.declared.framing.reading.Found.TheVariants.{Whole, HeaderCut, BodyCut, OversizeCut}
use Rattle.ttrpc_proto.specs.Framing.Frames.{Fed, Grows, given, Held, Holds, IsFrame, nothing, wanted}
use Rattle.ttrpc_proto.specs.Framing.Header.{header_of}
use Rattle.ttrpc_proto.specs.Framing.Streaming.{IfCut, IsFound}
use Rattle.ttrpc_proto.proofs.Cuts.{held_is}
use Rattle.ttrpc_proto.proofs.Frames.{exact, header_front}
use Rattle.ttrpc_polled_frames.specs.Reading.{Continues, IsTaken, Makes, Takes, WillTell}

-- ---- one piece

-- the frame isn't whole with it
pub fed_more : (old new : Held) (piece : List ℕ) → Fed old piece [] new → (before : List ℕ) → Holds old before → Holds new (before ++ piece)
fed_more old new piece fed before h =
    let f = fed before h in
    subst (Holds new) (sym f.1) f.2

-- the frame is whole with it, and the piece ends there
pub fed_whole : (old new : Held) (piece : List ℕ) (i : Incoming) → Fed old piece (i ∷ []) new → new ≡ nothing → (before : List ℕ) → Holds old before → Makes (Ok (Whole i)) (before ++ piece)
fed_whole old new piece i fed none before h =
    let f = fed before h in
    let split = f.1 in
    let back : split.1 ≡ [] = split.4 ∙ exact [] f.0 (subst (λ x. Holds x f.0) none f.2) in
    let same : before ++ piece ≡ split.0 = split.2 ∙ ap (λ b. split.0 ++ b) back ∙ append-nil split.0 in
    subst (IsFrame i) (sym same) split.3

-- the same of what a decoder gave, which took all of the piece
all_of : (piece : List ℕ) (n : ℕ) → n ≡ length piece → take n piece ≡ piece
all_of piece n is = take_all n piece (omega (arith, is))

pub gave_none : (old new : Held) (piece : List ℕ) (n : ℕ) (r : Option Incoming) → r ≡ None → n ≡ length piece → Fed old (take n piece) (given r) new
    → (before : List ℕ) → Holds old before → Holds new (before ++ piece)
gave_none old new piece n r none all fed =
    fed_more old new piece (subst (λ g. Fed old piece (given g) new) none (subst (λ p. Fed old p (given r) new) (all_of piece n all) fed))

pub gave_one : (old new : Held) (piece : List ℕ) (n : ℕ) (r : Option Incoming) (i : Incoming) → r ≡ Some i → n ≡ length piece → Fed old (take n piece) (given r) new → new ≡ nothing
    → (before : List ℕ) → Holds old before → Makes (Ok (Whole i)) (before ++ piece)
gave_one old new piece n r i one all fed =
    fed_whole old new piece i (subst (λ g. Fed old piece (given g) new) one (subst (λ p. Fed old p (given r) new) (all_of piece n all) fed))

-- a header stays in front, whatever follows
header_stays : (bytes more : List ℕ) → 10 ≤ length bytes → header_of (bytes ++ more) ≡ header_of bytes
header_stays bytes more long =
    let ten : length (take 10 bytes) ≡ 10 = length-take-le 10 bytes long in
    let whole : take 10 bytes ++ drop 10 bytes ≡ bytes = take-append-drop 10 bytes in
    let grown : bytes ++ more ≡ take 10 bytes ++ (drop 10 bytes ++ more) = ap (λ b. b ++ more) (sym whole) ∙ append_assoc (take 10 bytes) (drop 10 bytes) more in
    ap header_of grown ∙ header_front (take 10 bytes) (drop 10 bytes ++ more) ten ∙ sym (ap header_of (sym whole) ∙ header_front (take 10 bytes) (drop 10 bytes) ten)

-- room for it was refused
pub fed_refused : (old : Held) (piece : List ℕ) → Grows old piece → length piece ≤ wanted old → (before : List ℕ) → Holds old before → Makes (Err NoMemory) (before ++ piece)
fed_refused old piece grows fits before h =
    let i = held_is old before h in
    let t : nat_lt (length old.bytes) 10 ≡ false = le-ltb (length old.bytes) 10 grows.whole in
    let more : length piece ≤ 10 + (header_of old.bytes).length - (length old.bytes + old.counted) = rw t at fits in
    let long : 10 ≤ length before = omega (arith, i.size, grows.whole) in
    let size : length (before ++ piece) ≡ length before + length piece = length-append before piece in
    let same : header_of (before ++ piece) ≡ header_of old.bytes = header_stays before piece long ∙ i.header long in
    let stated : (header_of (before ++ piece)).length ≡ (header_of old.bytes).length = ap MessageHeader.length same in
    let rest : length before < 10 + (header_of before).length = h.1 long in
    let of_before : (header_of before).length ≡ (header_of old.bytes).length = ap MessageHeader.length (i.header long) in
    record {
      whole = omega (arith, size, long);
      kept = omega (arith, stated, grows.short);
      within = omega (arith, size, stated, i.size, more, rest, of_before);
    }

-- ---- one read

-- none came
pub continues_none : {S : Type 0} (reads : Passes S) → PassesNothing reads → (s : S) (held : Held) → Continues reads s held s held
continues_none reads none s held = record { came = []; read = none s; holds = λ before h. subst (Holds held) (sym (append-nil before)) h }

pub continues_by : {S : Type 0} (reads : Passes S) (old new : S) (held now : Held) (piece : List ℕ) → reads old piece new → ((before : List ℕ) → Holds held before → Holds now (before ++ piece)) → Continues reads old held new now
continues_by reads old new held now piece read holds = record { came = piece; read = read; holds = holds }

by_read : {S : Type 0} (reads : Passes S) (old new : S) (buf piece : List ℕ) (n : ℕ) (polled : Poll (Result ℕ Error)) → polled ≡ Ready (Ok n) → reads old (bytes_moved polled buf) new → piece ≡ take n buf → reads old piece new
by_read reads old new buf piece n polled is read same = subst (λ p. reads old p new) (sym same) (subst (λ q. reads old (bytes_moved q buf) new) is read)

-- what a piece makes is what is taken
made : {S : Type 0} (ends : S → Type 0) (fails : S → Error → Type 0) (took : Result Found StreamFailure) (bytes : List ℕ) (last : S) → Makes took bytes → IsTaken ends fails took bytes last
made ends fails (Ok (Whole i)) bytes last m = (m, tt)
made ends fails (Ok (HeaderCut n)) bytes last m = absurd m
made ends fails (Ok (BodyCut h n)) bytes last m = absurd m
made ends fails (Ok (OversizeCut h)) bytes last m = absurd m
made ends fails (Err (Io e)) bytes last m = absurd m
made ends fails (Err NoMemory) bytes last m = m

pub takes_piece : {S : Type 0} (reads : Passes S) (ends : S → Type 0) (fails : S → Error → Type 0) (old new : S) (held : Held) (piece : List ℕ) (took : Result Found StreamFailure)
    → reads old piece new → ((before : List ℕ) → Holds held before → Makes took (before ++ piece)) → Takes reads ends fails old held took new
takes_piece reads ends fails old new held piece took read makes = record {
  came = piece;
  read = read;
  taken = λ before h. made ends fails took (before ++ piece) new (makes before h);
}

-- the same where a read gave it
pub gives_some : {S : Type 0} (reads : Passes S) (ends : S → Type 0) (fails : S → Error → Type 0) (old new : S) (held : Held) (buf piece : List ℕ) (n : ℕ) (polled : Poll (Result ℕ Error)) (r : Option (Result Found StreamFailure))
    → polled ≡ Ready (Ok n) → reads old (bytes_moved polled buf) new → piece ≡ take n buf → IfSome r (λ took. (before : List ℕ) → Holds held before → Makes took (before ++ piece)) → IfSome r (λ took. Takes reads ends fails old held took new)
gives_some reads ends fails old new held buf piece n polled None is read same makes = tt
gives_some reads ends fails old new held buf piece n polled (Some took) is read same makes = takes_piece reads ends fails old new held piece took (by_read reads old new buf piece n polled is read same) makes

pub gives_none : {S : Type 0} (reads : Passes S) (old new : S) (held now : Held) (buf piece : List ℕ) (n : ℕ) (polled : Poll (Result ℕ Error)) (r : Option (Result Found StreamFailure))
    → polled ≡ Ready (Ok n) → reads old (bytes_moved polled buf) new → piece ≡ take n buf → IfNone r ((before : List ℕ) → Holds held before → Holds now (before ++ piece)) → IfNone r (Continues reads old held new now)
gives_none reads old new held now buf piece n polled None is read same more = continues_by reads old new held now piece (by_read reads old new buf piece n polled is read same) more
gives_none reads old new held now buf piece n polled (Some took) is read same more = tt

cut_if : (found : Found) (P : Type 0) → P → IfCut found P
cut_if (Whole i) P p = tt
cut_if (HeaderCut n) P p = p
cut_if (BodyCut h n) P p = p
cut_if (OversizeCut h) P p = p

-- the reader is at its end
pub takes_end : {S : Type 0} (reads : Passes S) (ends : S → Type 0) (fails : S → Error → Type 0) (old new : S) (held : Held) (buf : List ℕ) (polled : Poll (Result ℕ Error)) (found : Found)
    → polled ≡ Ready (Ok 0) → reads old (bytes_moved polled buf) new → ends new → ((rest : List ℕ) → Holds held rest → IsFound found rest) → Takes reads ends fails old held (Ok found) new
takes_end reads ends fails old new held buf polled found none read over is = record {
  came = [];
  read = subst (λ q. reads old (bytes_moved q buf) new) none read;
  taken = λ before h. (subst (IsFound found) (sym (append-nil before)) (is before h), cut_if found (ends new) over);
}

-- ---- one read behind others

pub continues_more : {S : Type 0} (reads : Passes S) → PassesInOrder reads → (a b c : S) (held mid now : Held) → Continues reads a held b mid → Continues reads b mid c now → Continues reads a held c now
continues_more reads order a b c held mid now x y = record {
  came = x.came ++ y.came;
  read = order a x.came b y.came c x.read y.read;
  holds = λ before h. subst (Holds now) (append_assoc before x.came y.came) (y.holds (before ++ x.came) (x.holds before h));
}

pub takes_later : {S : Type 0} (reads : Passes S) → PassesInOrder reads → (ends : S → Type 0) (fails : S → Error → Type 0) (a b c : S) (held mid : Held) (took : Result Found StreamFailure)
    → Continues reads a held b mid → Takes reads ends fails b mid took c → Takes reads ends fails a held took c
takes_later reads order ends fails a b c held mid took x y = record {
  came = x.came ++ y.came;
  read = order a x.came b y.came c x.read y.read;
  taken = λ before h. subst (λ bytes. IsTaken ends fails took bytes c) (append_assoc before x.came y.came) (y.taken (before ++ x.came) (x.holds before h));
}

pub tells_later : {S T : Type 0} (reads : Passes S) → PassesInOrder reads → (ends : S → Type 0) (fails : S → Error → Type 0) (tells : T → Result Found StreamFailure → Type 0) (a b : S) (held mid : Held) (r : T)
    → Continues reads a held b mid → WillTell reads ends fails tells b mid r → WillTell reads ends fails tells a held r
tells_later reads order ends fails tells a b held mid r x w = (w.0, w.1, takes_later reads order ends fails a b w.1 held mid w.0 x w.2, w.3)
