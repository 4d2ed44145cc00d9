-- Where no other call of a core throws a frame away, none is thrown away.
use Rattle.ttrpc_connection.proofs.Words.{◌≡◌, List, [], ◌∷◌, ◌++◌, map, refl, sym, ap, ◌∙◌, append_assoc, Queued, Queue, Happening, Placed, after, after_all, with_frame, Connection, Ways, Call, Gave, Lent, Reported, Failed, Did, Others, AreLawful, Calls, Runs}
use Rattle.ttrpc_proto.specs.Framing.Queue.{thrown, thrown_by}
use Rattle.ttrpc_connection.proofs.Leaving.{call_goes}

thrown_both : (xs ys : List Happening) (q : Queue) → thrown q (xs ++ ys) ≡ thrown q xs ++ thrown (after_all q xs) ys
thrown_both [] ys q = refl
thrown_both (x ∷ xs) ys q =
    ap (λ fs. thrown_by q x ++ fs) (thrown_both xs ys (after q x)) ∙ sym (append_assoc (thrown_by q x) (thrown (after q x) xs) (thrown (after_all (after q x) xs) ys))

pub none_placed : (fs : List Queued) (q : Queue) → thrown q (map Placed fs) ≡ []
none_placed [] q = refl
none_placed (f ∷ fs) q = none_placed fs (with_frame q f)

module _ {A S O I : Type 0} (w : Ways S O I) (others : Others A S O I) where
  call_throws_not : (c : Call A) (s : S) (old : Connection O I) (hs : List Happening) (t : S) (new : Connection O I)
      → ((a : A) → others a s old hs t new → thrown old.outbox.queue hs ≡ []) → Calls w others s old c hs t new → thrown old.outbox.queue hs ≡ []
  call_throws_not (Gave piece at) s old hs t new none call = ap (thrown old.outbox.queue) call.1.2 ∙ none_placed call.1.0 old.outbox.queue
  call_throws_not (Lent n) s old hs t new none call = ap (thrown old.outbox.queue) call.4
  call_throws_not (Reported n) s old hs t new none call = ap (thrown old.outbox.queue) call.3
  call_throws_not Failed s old hs t new none call = ap (thrown old.outbox.queue) call.2
  call_throws_not (Did a) s old hs t new none call = none a call

  -- what each call leaves true is true all along, and where it is no other call throws a frame away
  pub run_throws_not : AreLawful others → (P : S → Type 0)
      → ((c : Call A) (s : S) (old : Connection O I) (hs : List Happening) (t : S) (new : Connection O I) → P s → Calls w others s old c hs t new → P t)
      → ((a : A) (s : S) (old : Connection O I) (hs : List Happening) (t : S) (new : Connection O I) → P s → others a s old hs t new → thrown old.outbox.queue hs ≡ [])
      → (cs : List (Call A)) (s : S) (old : Connection O I) (hs : List Happening) (t : S) (new : Connection O I) → P s → Runs w others s old cs hs t new
      → thrown old.outbox.queue hs ≡ []
  run_throws_not lawful P still none [] s old hs t new so run = ap (thrown old.outbox.queue) run.0
  run_throws_not lawful P still none (c ∷ cs) s old hs t new so run =
      let goes = call_goes w others lawful c s old run.2 run.0 run.1 run.4 in
      let first = call_throws_not c s old run.2 run.0 run.1 (λ a call. none a s old run.2 run.0 run.1 so call) run.4 in
      let later = run_throws_not lawful P still none cs run.0 run.1 run.3 t new (still c s old run.2 run.0 run.1 so run.4) run.6 in
      ap (thrown old.outbox.queue) run.5 ∙ thrown_both run.2 run.3 old.outbox.queue ∙ ap (λ fs. fs ++ thrown (after_all old.outbox.queue run.2) run.3) first
      ∙ ap (λ q. thrown q run.3) (sym goes.after) ∙ later
