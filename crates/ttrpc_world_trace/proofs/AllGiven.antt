-- Where a receiver has nothing yet, and nothing is under way to it, it was given all that was put in. What was put in and
-- never comes is a close at most, which is no item.
use Rattle.ttrpc_world_trace.proofs.StoryWords.{[], ActiveJob, Body, Flying, answer_of, ap, append-nil, false, got, heard_down, heard_up, inl, inr, is_stream, IsInOrder, items, length, List, Mail, map, None, Open, Option, put_down, put_up, Receiver, Receives, ReceivesAt, refl, Some, StreamState, StreamBody, subst, sym, MailboxEntry, ThingItem, true, Word, ℕ, ◌++◌, ◌∙◌, ◌∷◌, ◌≡◌, arith, has_end, Fresh}
use Rattle.std.proofs.Common.{◌+◌, length-append}
use Rattle.std.proofs.lemmas.List.{nil_from_length}
use Rattle.ttrpc_world_trace.proofs.Here.{Birth, Born, Here, Origin, Unborn, Work}
use Rattle.ttrpc_world_trace.proofs.Reading.{got_append, items_append}
use Rattle.ttrpc_world_trace.proofs.Flowing.{Flowing, Follows}
use Rattle.ttrpc_world_trace.proofs.Upward.{box_of, thing_up}
use Rattle.ttrpc_world_trace.proofs.Downward.{box_down, thing_down, wants}
use Rattle.ttrpc_world_trace.proofs.Place.{Around, Holds, InRest, InRun, InWait, Known}

-- ---- one direction

open_empty : (r : Receiver) (xs : List MailboxEntry) → None ≡ answer_of r xs → (r ≡ Open) × (xs ≡ [])
open_empty Open [] h = (refl, refl)
open_empty Open (ThingItem b ∷ xs) h = cc
open_empty r xs h = cc

-- a receiver that has nothing yet is open, and its mailbox is empty
found_nothing : (m left : Mail) → Receives None m None left → (m.receiver ≡ Open) × (m.things ≡ [])
found_nothing m left (inl r) = open_empty m.receiver m.things r.0
found_nothing m left (inr r) = let bad = r.0 in cc

no_items : (rest : List MailboxEntry) → Follows rest [] → items rest ≡ []
no_items rest (inl none) = ap items none
no_items rest (inr close) = ap items close

given_all : {put : List MailboxEntry} {told : List Word} {m : Mail} {flight : List MailboxEntry} → m.receiver ≡ Open → m.things ≡ [] → flight ≡ [] → Flowing put told m flight → got told ≡ items put
given_all {m = m} {flight = flight} is_open empty none f =
    let c = f.cut in
    let left : items c.rest ≡ [] = no_items c.rest (subst (λ (way : List MailboxEntry). Follows c.rest way) (ap (λ (xs : List MailboxEntry). xs ++ flight) empty ∙ none) (f.linked is_open)) in
    sym c.reading.items_are ∙ sym (append-nil (items c.seen)) ∙ ap (λ ys. items c.seen ++ ys) (sym left) ∙ sym (ap items c.all ∙ items_append c.seen c.rest)

-- ---- both ways of an id

boxed_given : {put : List MailboxEntry} {told : List Word} {ups : List Flying} (j : ActiveJob) (m left : Mail) → j.body ≡ StreamBody m → Receives None m None left → ups ≡ [] → Flowing put told (box_of j.body) (map thing_up ups) → got told ≡ items put
boxed_given j m left is r none f =
    let found = found_nothing m left r in
    given_all (ap (λ (b : Body). (box_of b).receiver) is ∙ found.0) (ap (λ (b : Body). (box_of b).things) is ∙ found.1) (ap (map thing_up) none) f

-- The server's receiver of the only job of this id has nothing yet.
pub all_given_up : {w : Around} {k : ℕ} {h : Here} {b : Birth} (job : ActiveJob) (m left : Mail) → Holds w k h b job → job.body ≡ StreamBody m → Receives None m None left → h.ups ≡ [] → got (heard_up h.flows) ≡ items (put_up h.flows)
all_given_up job m left (InWait n) is r none = boxed_given job m left is r none n.up.is.flowing
all_given_up job m left (InRun n) is r none = boxed_given job m left is r none n.up.is.flowing
all_given_up job m left (InRest response n) is r none = let bad : true ≡ false = sym (ap is_stream is) ∙ n.server.is_work.2 in cc

-- The client's has.
pub all_given_down : {w : Around} {k : ℕ} {h : Here} (o : Origin) (p : Work) (st st2 : Option StreamState) → h.stream ≡ st → Known w k h o p → ReceivesAt None st None st2 → h.downs ≡ []
    → got (heard_down h.flows) ≡ items (put_down w.set.rules w.set.limit h.flows)
all_given_down o p None st2 is n r none = let bad = r.0.2 in cc
all_given_down Unborn p (Some s) st2 is n r none = let bad : Some s ≡ None = sym is ∙ n.client.1 in cc
all_given_down {h = h} (Born b) p (Some s) st2 is n r none =
    let found = found_nothing s.mailbox r.0 r.1 in
    given_all (ap (λ (x : Option StreamState). (box_down x).receiver) is ∙ found.0) (ap (λ (x : Option StreamState). (box_down x).things) is ∙ found.1) (ap (map (thing_down (wants h.stream))) none) n.down.is.flowing

-- ---- in order

-- An end is told behind all of it.
pub given_by_end : {put : List MailboxEntry} {told : List Word} → IsInOrder put told → has_end Fresh told ≡ true → got told ≡ items put
given_by_end {told = told} o e = sym (append-nil (got told)) ∙ ap (λ ys. got told ++ ys) (sym (o.whole e).0) ∙ sym o.beginning

-- Where all was given and nothing more was put in, nothing more can be given.
pub given_still : (put put2 : List MailboxEntry) (told told2 more : List Word) → items put2 ≡ items put → told2 ≡ told ++ more → IsInOrder put2 told2 → got told ≡ items put → got told2 ≡ items put2
given_still put put2 told told2 more same grows o all =
    let whole : got told2 ≡ items put2 ++ got more = ap got grows ∙ got_append told more ∙ ap (λ ys. ys ++ got more) (all ∙ sym same) in
    let long : length (items put2) ≡ length (items put2 ++ got more) + length o.rest = ap length o.beginning ∙ length-append (got told2) o.rest ∙ ap (λ ys. length ys + length o.rest) whole in
    let parts : length (items put2 ++ got more) ≡ length (items put2) + length (got more) = length-append (items put2) (got more) in
    whole ∙ ap (λ ys. items put2 ++ ys) (nil_from_length (got more) (omega (arith, long, parts))) ∙ append-nil (items put2)
