-- Where requests may not be thrown away, none is.
use Rattle.ttrpc_client.proofs.Words.{and_right, cond_both, ◌≡◌, ◌&&◌, not, ℕ, List, [], is_some, Bool, false, refl, ap, ◌∙◌, Queue, Happening, thrown, OutboundTransform, InboundTransform, Connection, ACall, Called, Asked, Dropped, Ticked, Opened, SentOn, called, core, thrown_if, Client, throws, calling, takes_back, Runs}
use Rattle.ttrpc_connection.proofs.Throwing.{run_throws_not}
use Rattle.ttrpc_client.proofs.Calls.{called_is_lawful}
use Rattle.ttrpc_client.proofs.Turning.{call_leaves}

none_thrown : (b : Bool) (ids : ℕ → Bool) (q : Queue) → b ≡ false → thrown q (thrown_if b ids) ≡ []
none_thrown b ids q e = rw e refl

module _ {O I : Type 0} (out : OutboundTransform O) (in_ : InboundTransform I) (seals : Bool) where
  call_throws_nothing : (a : Called) (s : Client) (old : Connection O I) (hs : List Happening) (t : Client) (new : Connection O I) → throws s.kind seals ≡ false → called out seals a s old hs t new
      → thrown old.outbox.queue hs ≡ []
  call_throws_nothing (Asked request now id) s old hs t new e call = ap (thrown old.outbox.queue) call.1.3
  call_throws_nothing (Opened request streaming_client streaming_server id) s old hs t new e call = ap (thrown old.outbox.queue) call.1.3
  call_throws_nothing (SentOn id flags plain sender ticket) s old hs t new e call = ap (thrown old.outbox.queue) call.1.3
  call_throws_nothing (Dropped id) s old hs t new e call =
      ap (thrown old.outbox.queue) call.1 ∙ none_thrown (takes_back seals (core s old) id) _ old.outbox.queue (rw e (cond_both (is_some old.failure) false false (λ b. b ≡ false) (λ _. refl) (λ _. refl)))
  call_throws_nothing (Ticked now) s old hs t new e call =
      ap (thrown old.outbox.queue) call.1 ∙ none_thrown (not (is_some old.failure) && throws s.kind seals) _ old.outbox.queue (and_right (not (is_some old.failure)) (throws s.kind seals) e)
  call_throws_nothing a s old hs t new e call = ap (thrown old.outbox.queue) call.1

  pub run_throws_nothing : (cs : List (ACall Called)) (s : Client) (old : Connection O I) (hs : List Happening) (t : Client) (new : Connection O I) → throws s.kind seals ≡ false
      → Runs (calling out in_) (called out seals) s old cs hs t new → thrown old.outbox.queue hs ≡ []
  run_throws_nothing cs s old hs t new e run =
      run_throws_not (calling out in_) (called out seals) (called_is_lawful out seals) (λ (s : Client). throws s.kind seals ≡ false)
      (λ c s old hs t new e call. ap (λ k. throws k seals) (call_leaves out in_ seals c s old hs t new call).kind ∙ e) call_throws_nothing cs s old hs t new e run
