-- What holds of the state of a server through each call holds through any list of calls.
use Rattle.ttrpc_server.proofs.Words.{◌≡◌, inl, inr, ℕ, List, [], ◌∷◌, ◌++◌, Option, Some, None, sym, subst, OutboundTransform, Connection, Happening, ActiveJob, Arrived, Async, Sync, Failure, Job, Rules, Sent, EndsOne, HandsOne, IsJob, Server, with_list, ExpireAll, Passes, serves, serving, Served, Answered, AskedExpired, Responded, served, Ticked, Took, Outbox, Drained, true}
use Rattle.ttrpc_connection.specs.Calls.{Call, Calls, Gave, Did, Gives, Runs}
use Rattle.ttrpc_connection.specs.Feeds.{ActsAll, Scene, scene}
use Rattle.ttrpc_connection.proofs.Words.{InboundTransform, Incoming}
use Rattle.ttrpc_server.specs.declared.server.ServerCore.{ServerCore}
use Rattle.std.proofs.Common.{Result}
use Rattle.ttrpc_connection.specs.Mail.{without_receiver}
use Rattle.ttrpc_server.specs.Types.{Error, Mail}
use Rattle.ttrpc_server.specs.State.{on_mail}
use Rattle.ttrpc_server.specs.Streaming.{ReceivesBy}
use Rattle.ttrpc_server.specs.Calls.{AskedHeard, Dropped, Ended, Finished, Performs, Received, ReceiverDropped, SentItem, core}
use Rattle.ttrpc_server.proofs.Kept.{as_job}

-- it holds of a state after a frame, a job that is handed out, one that is gone, whoever is told of, and draining, if it held before
pub record Lasts {O : Type 0} (out : OutboundTransform O) (P : Server → Type 0) : Type 0 where
  pub frame : (old : Server) (o : O) (a : Arrived) (sent : List Sent) (new : Server) → serves out old o a sent new → P old → P new
  pub hands : (old : Server) (handed : Job) (list : List ActiveJob) → HandsOne old.jobs.list handed list → P old → P (with_list old list)
  pub ends : (old : Server) (id : ℕ) (job : ActiveJob) (at : IsJob old.jobs.list id job) → P old → P (with_list old (at.front ++ at.back))
  pub told : (old : Server) (expired : List ℕ) → P old → P (record old { expired = expired })
  pub drains : (old : Server) → P old → P (record old { draining = true })
  pub mails : (old : Server) (id : ℕ) (change : Mail → Mail) → P old → P (with_list old (on_mail id change old.jobs.list))
  pub hears : (old : Server) (heard : List ℕ) → P old → P (record old { heard = heard })

module _ {O I : Type 0} (out : OutboundTransform O) (in_ : InboundTransform I) (P : Server → Type 0) (lasts : Lasts out P) where
  acts_last : (at : ℕ) (fs : List Incoming) (old new : Scene Server O I) → ActsAll (serving out in_) at old fs new → P old.state → P new.state
  acts_last at [] old new same p = subst (λ (x : Scene Server O I). P x.state) (sym same) p
  acts_last at (f ∷ fs) old new acts p = acts_last at fs acts.0 new acts.2 (lasts.frame old.state _ _ acts.1.sent acts.0.state acts.1.reacts p)

  gives_last : (s : Server) (old : Connection O I) (piece : List ℕ) (at : ℕ) (t : Server) (new : Connection O I) → Gives (serving out in_) s old piece at t new → P s → P t
  gives_last s old piece at t new (inl feeds) p = acts_last at feeds.frames (scene s old) (scene t new) feeds.acts p
  gives_last s old piece at t new (inr (inl breaks)) p = let b = breaks.1 in subst P (sym b.state) (acts_last at b.frames (scene s old) b.mid b.acts p)
  gives_last s old piece at t new (inr (inr failed)) p = subst P (sym failed.1) p

  pub expire_last : (js : List ActiveJob) (old : Server) (from : Outbox O) (new : Server) (to : Outbox O) → ExpireAll out old from js new to → P old → P new
  expire_last [] old from new to same p = subst P (sym same.0) p
  expire_last (j ∷ js) old from new to all p =
      let one = all.2 in
      expire_last js all.0 all.1 new to all.3 (subst P (sym one.state) (lasts.told (with_list old (one.at.front ++ one.at.back)) _ (lasts.ends old j.id j one.at p)))

  passes_last : (rules : Rules) (failure : Option Failure) (old : ServerCore O I) (now : ℕ) (new : ServerCore O I) → Passes out rules failure old now new → P old.state → P new.state
  passes_last Sync failure old now new same p = subst (λ (c : ServerCore O I). P c.state) (sym same) p
  passes_last Async None old now new ticks p = expire_last ticks.expired old.state old.connection.outbox new.state new.connection.outbox ticks.expire p
  passes_last Async (Some failure) old now new same p = subst (λ (c : ServerCore O I). P c.state) (sym same) p

  ended_last : (old : Server) (id : ℕ) (job : ActiveJob) (list : List ActiveJob) → EndsOne old.jobs.list id job list → P old → P (with_list old list)
  ended_last old id job list ends p = subst (λ l. P (with_list old l)) (sym ends.jobs) (lasts.ends old id job (as_job ends.at) p)

  state_is : (old new : ServerCore O I) → new ≡ old → P old.state → P new.state
  state_is old new same p = subst (λ (c : ServerCore O I). P c.state) (sym same) p

  received_last : (rules : Rules) (failure : Option Failure) (old : Server) (id : ℕ) (given : Option (Result (List ℕ) Error)) (list : List ActiveJob) → ReceivesBy rules failure old id given list → P old → P (with_list old list)
  received_last Sync failure old id given list own p = subst (λ l. P (with_list old l)) (sym own.1) p
  received_last Async failure old id given list (inl own) p = subst (λ l. P (with_list old l)) (sym own.4) (lasts.mails old id (λ _. own.1) p)
  received_last Async failure old id given list (inr own) p = subst (λ l. P (with_list old l)) (sym own.1) p

  pub performs_last : (a : Served) (old new : ServerCore O I) → Performs out a old new → P old.state → P new.state
  performs_last (Took None) old new did p = state_is old new did.0 p
  performs_last (Took (Some job)) old new did p = state_is _ new did.same (lasts.hands old.state job new.state.jobs.list did.hands p)
  performs_last (Answered id response) old new did p = state_is _ new did.same (ended_last old.state id did.job new.state.jobs.list did.ends p)
  performs_last (Dropped id) old new did p = state_is _ new did.same (ended_last old.state id did.job new.state.jobs.list did.ends p)
  performs_last (Responded k response) old new did p = state_is _ new did.same p
  performs_last (Finished id) old new did p = state_is _ new did.same (ended_last old.state id did.job new.state.jobs.list did.ends p)
  performs_last (Ticked now) old new did p = passes_last old.state.rules old.connection.failure old now new did p
  performs_last (AskedExpired id) old new did p = state_is _ new did.same (lasts.told old.state new.state.expired p)
  performs_last Drained old new did p = state_is _ new did (lasts.drains old.state p)
  performs_last (SentItem id item ticket) old new did p = state_is _ new did.same p
  performs_last (Received id given) old new did p = state_is _ new did.same (received_last old.state.rules old.connection.failure old.state id given new.state.jobs.list did.own p)
  performs_last (ReceiverDropped id) old new did p = state_is _ new did (lasts.hears (with_list old.state (on_mail id without_receiver old.state.jobs.list)) _ (lasts.mails old.state id without_receiver p))
  performs_last (Ended id end) old new did p = state_is _ new did.same (lasts.hears (with_list old.state new.state.jobs.list) _ (ended_last old.state id did.job new.state.jobs.list did.ends p))
  performs_last (AskedHeard id) old new did p = state_is _ new did.same (lasts.hears old.state new.state.heard p)

  pub call_lasts : (c : Call Served) (s : Server) (old : Connection O I) (hs : List Happening) (t : Server) (new : Connection O I) → Calls (serving out in_) (served out) s old c hs t new → P s → P t
  call_lasts (Gave piece at) s old hs t new call p = gives_last s old piece at t new call.0 p
  call_lasts (Did a) s old hs t new call p = performs_last a (core s old) (core t new) call.0 p
  call_lasts c s old hs t new call p = subst P (sym call.0) p

  pub run_lasts : (cs : List (Call Served)) (s : Server) (old : Connection O I) (hs : List Happening) (t : Server) (new : Connection O I) → Runs (serving out in_) (served out) s old cs hs t new → P s → P t
  run_lasts [] s old hs t new run p = subst P (sym run.1) p
  run_lasts (c ∷ cs) s old hs t new run p = run_lasts cs run.0 run.1 run.3 t new run.6 (call_lasts c s old run.2 run.0 run.1 run.4 p)
