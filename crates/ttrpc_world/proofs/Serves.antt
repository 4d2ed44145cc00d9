-- What frames do to a side, one after the other; what a moment does to a server, one job after the other; and what an answer
-- leaves of it.
use Rattle.ttrpc_world.proofs.Words.{[], ActiveJob, ActsAll, Answers, AnswersBy, AnswersError, ap, AsyncRules, Bool, Drops, EndsOne, Err, Error, ExpireAll, ExpiresOne, Failure, Halves, Incoming, inl, inr, List, None, Ok, Option, OutboundTransform, Outbox, refl, Response, Result, Rules, Scene, Server, ServerCore, ServerPasses, Some, subst, sym, SyncRules, Ways, ℕ, ◌∷◌, ◌≡◌, ◌⊎◌}

-- Holds of all frames that come, if it holds when nothing changes, and of a frame that acts with what comes after it.
pub acts_so : {S O I : Type 0} (w : Ways S O I) (now : ℕ) (P : Scene S O I → Scene S O I → Type 0) → ((x : Scene S O I) → P x x)
    → ((f : Incoming) (fs : List Incoming) (old new : Scene S O I) → (a : ActsAll w now old (f ∷ fs) new) → P a.0 new → P old new) → (fs : List Incoming) (old new : Scene S O I) → ActsAll w now old fs new → P old new
acts_so w now P none one [] old new same = subst (P old) (sym same) (none old)
acts_so w now P none one (f ∷ fs) old new a = one f fs old new a (acts_so w now P none one fs a.0 new a.2)

-- Of a server's state and its outbox: what holds where nothing changes, and of a job that expires and what comes behind it, holds
-- of all that a moment does.
module _ {O : Type 0} (out : OutboundTransform O) (P : Server → Outbox O → Server → Outbox O → Type 0) (none : (s : Server) (b : Outbox O) → P s b s b)
    (one : (old mid new : Server) (from between to : Outbox O) (job : ActiveJob) → ExpiresOne out old from job mid between → P mid between new to → P old from new to) where
  pub expired_so : (jobs : List ActiveJob) (old : Server) (from : Outbox O) (new : Server) (to : Outbox O) → ExpireAll out old from jobs new to → P old from new to
  expired_so [] old from new to e = subst (λ (s : Server). P old from s to) (sym e.0) (subst (λ (b : Outbox O). P old from old b) (sym e.1) (none old from))
  expired_so (j ∷ js) old from new to e = one old e.0 new from e.1 to j e.2 (expired_so js e.0 e.1 new to e.3)

  pub passes_so : {I : Type 0} (r : Rules) (failure : Option Failure) (old : ServerCore O I) (now : ℕ) (new : ServerCore O I) → ServerPasses out r failure old now new → P old.state old.connection.outbox new.state new.connection.outbox
  passes_so AsyncRules None old now new t = expired_so t.expired old.state old.connection.outbox new.state new.connection.outbox t.expire
  passes_so AsyncRules (Some why) old now new same = subst (λ (x : ServerCore _ _). P old.state old.connection.outbox x.state x.connection.outbox) (sym same) (none old.state old.connection.outbox)
  passes_so SyncRules failure old now new same = subst (λ (x : ServerCore _ _). P old.state old.connection.outbox x.state x.connection.outbox) (sym same) (none old.state old.connection.outbox)

-- WHAT AN ANSWER LEAVES: a response was sent; or a handler gave an error under sync rules, none was sent, and the side fails.
abbrev pub IsAnswered : {O I : Type 0} → OutboundTransform O → ServerCore O I → ℕ → Result Response Error → ServerCore O I → Type 0
IsAnswered out old id result new = ((r : Response) × Answers out old id r new) ⊎ ((e : Error) × (result ≡ Err e) × Drops old id new)

by_error : {O I : Type 0} (out : OutboundTransform O) (r : Rules) (old : ServerCore O I) (id : ℕ) (e : Error) (new : ServerCore O I) → AnswersError out r old id e new → IsAnswered out old id (Err e) new
by_error out AsyncRules old id e new a = inl (a.0, a.2)
by_error out SyncRules old id e new d = inr (e, refl, d)

module _ {CO CI SO SI : Type 0} (c : Halves CO CI) (s : Halves SO SI) (seals : Bool) where
  pub answered : (old : ServerCore SO SI) (id : ℕ) (result : Result Response Error) (new : ServerCore SO SI) → AnswersBy c s seals old id result new → IsAnswered s.out old id result new
  answered old id (Ok r) new p = inl (r, p.1)
  answered old id (Err e) new p = by_error s.out old.state.rules old id e new p

  -- Either way there is one job less, and the rest of the state is the same.
  pub one_less : (old : ServerCore SO SI) (id : ℕ) (result : Result Response Error) (new : ServerCore SO SI) → AnswersBy c s seals old id result new
      → (job : ActiveJob) × EndsOne old.state.jobs.list id job new.state.jobs.list × (new.state ≡ record old.state { jobs = record old.state.jobs { list = new.state.jobs.list } })
  one_less old id result new p = elim (answered old id result new p) [
    | inl a ↦ (a.1.job, a.1.ends, ap (λ (x : ServerCore SO SI). x.state) a.1.same)
    | inr d ↦ (d.2.job, d.2.ends, ap (λ (x : ServerCore SO SI). x.state) d.2.same)
  ]
