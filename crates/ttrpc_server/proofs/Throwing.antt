-- No frame of a server is thrown away, so that those that depart are those that were queued, in order.
use Rattle.ttrpc_server.proofs.Words.{◌≡◌, inl, inr, ◌∙◌, List, [], ◌∷◌, ◌++◌, arith, length, refl, sym, ap, Queued, Queue, Happening, OutboundTransform, Connection, Server, Served, Answered, Responded, Ticked, served, serving}
use Rattle.ttrpc_server.specs.Calls.{Ended, SentItem}
use Rattle.std.specs.List.Sorted.{IsPermutation}
use Rattle.std.proofs.lemmas.List.Sorted.{length_permutation}
use Rattle.ttrpc_proto.specs.Framing.Queue.{departing, IsMerge, placed, thrown}
use Rattle.ttrpc_proto.proofs.Departures.{all_are_accounted}
use Rattle.ttrpc_connection.specs.Calls.{Call, Runs}
use Rattle.ttrpc_connection.proofs.Words.{InboundTransform}
use Rattle.ttrpc_connection.proofs.Throwing.{none_placed, run_throws_not}
use Rattle.ttrpc_server.proofs.Calls.{served_is_lawful}

-- ---- nothing is thrown away

call_throws_nothing : {O I : Type 0} (out : OutboundTransform O) (a : Served) (s : Server) (old : Connection O I) (hs : List Happening) (t : Server) (new : Connection O I) → served out a s old hs t new
    → thrown old.outbox.queue hs ≡ []
call_throws_nothing out (Answered id response) s old hs t new call = ap (thrown old.outbox.queue) call.1.2.3
call_throws_nothing out (Responded k response) s old hs t new call = ap (thrown old.outbox.queue) call.1.3
call_throws_nothing out (SentItem id item ticket) s old hs t new call = ap (thrown old.outbox.queue) call.1.2.3
call_throws_nothing out (Ended id end) s old hs t new call = ap (thrown old.outbox.queue) call.1.2.3
call_throws_nothing out (Ticked now) s old hs t new call = ap (thrown old.outbox.queue) call.1.3 ∙ none_placed call.1.0 old.outbox.queue
call_throws_nothing out a s old hs t new call = ap (thrown old.outbox.queue) call.1

pub run_throws_nothing : {O I : Type 0} (out : OutboundTransform O) (in_ : InboundTransform I) (cs : List (Call Served)) (s : Server) (old : Connection O I) (hs : List Happening) (t : Server) (new : Connection O I)
    → Runs (serving out in_) (served out) s old cs hs t new → thrown old.outbox.queue hs ≡ []
run_throws_nothing out in_ cs s old hs t new run =
    run_throws_not (serving out in_) (served out) (served_is_lawful out) (λ (s : Server). Unit {0}) (λ c s old hs t new _ call. tt)
    (λ a s old hs t new _ call. call_throws_nothing out a s old hs t new call) cs s old hs t new tt run

-- ---- so all depart

empty : {X : Type 0} (xs : List X) → length xs ≡ 0 → xs ≡ []
empty [] none = refl
empty (x ∷ xs) none = absurd (omega (arith, none))

merged_with_none : {X : Type 0} (xs ys zs : List X) → ys ≡ [] → IsMerge xs ys zs → xs ≡ zs
merged_with_none xs ys [] none merge = merge.0
merged_with_none xs ys (z ∷ zs) none (inl merge) = merge.1 ∙ ap (λ l. z ∷ l) (merged_with_none merge.0 ys zs none merge.2)
merged_with_none xs ys (z ∷ zs) none (inr merge) = let bad : z ∷ merge.0 ≡ [] = sym merge.1 ∙ none in cc

pub all_depart : (q : Queue) (hs : List Happening) → thrown q hs ≡ [] → departing q hs ≡ q.frames ++ placed hs
all_depart q hs none =
    let accounts : (away : List Queued) × IsMerge (departing q hs) away (q.frames ++ placed hs) × IsPermutation away (thrown q hs) = all_are_accounted hs q in
    let away : accounts.0 ≡ [] = empty accounts.0 (sym (length_permutation accounts.0 (thrown q hs) accounts.2) ∙ ap length none) in
    merged_with_none (departing q hs) accounts.0 (q.frames ++ placed hs) away accounts.1
