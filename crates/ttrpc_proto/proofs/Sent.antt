-- Calls of a writer that send a frame.
use Rattle.std.proofs.Common.{◌≡◌, ℕ, List, ◌++◌, take, drop, Option, Result, Err, ap, ◌∙◌, subst, take-append-drop, append_assoc}
use Rattle.std.specs.Io.KnownBytes.{Appends}
use Rattle.std.specs.declared.io.ErrorKind.{ErrorKind}
use Rattle.ttrpc_proto.specs.Framing.Streams.{AppendsFront, Called, Flushes, Makes, Then, Writes}
use Rattle.ttrpc_proto.proofs.Calls.{then_fails}
use Rattle.ttrpc_proto.specs.declared.framing.failure.StreamFailure.{StreamFailure}
use Rattle.ttrpc_proto.specs.declared.framing.failure.StreamFailure.TheVariants.{Io, NoMemory as Refused}
use Rattle.ttrpc_proto.specs.Framing.Streaming.{Went, WritesFrame}
use Rattle.ttrpc_proto.specs.declared.framing.header.MessageHeader.{MessageHeader}

-- the header and the first bytes, and then the rest, are the frame
pub parts_of_frame : (header payload first second part : List ℕ) (n : ℕ) → part ≡ header ++ first → first ≡ take n payload → second ≡ drop n payload → part ++ second ≡ header ++ payload
parts_of_frame header payload first second part n is front behind =
    ap (λ t. t ++ second) is ∙ append_assoc header first second ∙ ap (λ t. header ++ (t ++ second)) front ∙ ap (λ t. header ++ (take n payload ++ t)) behind ∙ ap (λ t. header ++ t) (take-append-drop n payload)

-- where the first thing failed, or memory was refused, nothing came behind it
pub went_no_further : (a b : Option (List Called)) (P Q : List Called → Option ErrorKind → Type 0) (failure : StreamFailure)
    → Makes a b (λ (calls : List Called). Went P calls (Err failure)) → Makes a b (λ (calls : List Called). Went (Then P Q) calls (Err failure))
went_no_further a b P Q (Io e) p = then_fails a b P Q _ p
went_no_further a b P Q Refused p = p

-- so these two parts are what writes the frame
pub sent_parts : (a b : Option (List Called)) (header payload first second part : List ℕ) (failure : Option ErrorKind)
    → part ≡ header ++ first → first ≡ take 4086 payload → second ≡ drop 4086 payload
    → Makes a b (λ (calls : List Called). Then (Writes part) (Writes second) calls failure)
    → Makes a b (λ (calls : List Called). Then (Writes (header ++ take 4086 payload)) (Writes (drop 4086 payload)) calls failure)
sent_parts a b header payload first second part failure is front behind p =
    let same : part ≡ header ++ take 4086 payload = is ∙ ap (λ t. header ++ t) front in
    subst (λ (s : List ℕ). Makes a b (λ (calls : List Called). Then (Writes (header ++ take 4086 payload)) (Writes s) calls failure)) behind
    (subst (λ (f : List ℕ). Makes a b (λ (calls : List Called). Then (Writes f) (Writes second) calls failure)) same p)

pub appends_parts : (a b : Option (List ℕ)) (header payload first second part : List ℕ)
    → part ≡ header ++ first → first ≡ take 4086 payload → second ≡ drop 4086 payload → Appends a b (part ++ second) → Appends a b (header ++ payload)
appends_parts a b header payload first second part is front behind p = subst (λ t. Appends a b t) (parts_of_frame header payload first second part 4086 is front behind) p

pub appends_front_parts : (a b : Option (List ℕ)) (header payload first second part : List ℕ)
    → part ≡ header ++ first → first ≡ take 4086 payload → second ≡ drop 4086 payload → AppendsFront a b (part ++ second) → AppendsFront a b (header ++ payload)
appends_front_parts a b header payload first second part is front behind p = subst (λ t. AppendsFront a b t) (parts_of_frame header payload first second part 4086 is front behind) p

pub sent_as : (a b : Option (List Called)) (h : MessageHeader) (payload same : List ℕ) (wrote : Result (Unit {0}) StreamFailure) → payload ≡ same
    → Makes a b (λ (calls : List Called). Went (Then (WritesFrame h payload) Flushes) calls wrote) → Makes a b (λ (calls : List Called). Went (Then (WritesFrame h same) Flushes) calls wrote)
sent_as a b h payload same wrote is p = subst (λ (t : List ℕ). Makes a b (λ (calls : List Called). Went (Then (WritesFrame h t) Flushes) calls wrote)) is p
