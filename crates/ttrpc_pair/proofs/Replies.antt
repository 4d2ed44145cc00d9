-- Why a piece was refused, and what an answer comes to by what the core says of it.
use Rattle.ttrpc_pair.proofs.Words.{◌≡◌, ◌++◌, ◌∙◌, ◌∷◌, ◌⊎◌, [], ActiveJob, Answers, AnswersBy, AnswersError, ap, arith, AsyncRules, Bool, cases_Bool, Connection, Err, Error, error_of, Failure, false, Halves, has_response, inl, inr, IsEnd, IsFailed, IsResponse, IsTaken, IsTold, IsUnknown, List, Net, None, Ok, Option, refl, RespondsTo, Response, Result, Rules, ServerCore, Some, subst, sym, SyncRules, Ways, with_server, ℕ}
use Rattle.std.specs.Prelude.{◌≤◌, ◌<◌, length, min, take}
use Rattle.std.proofs.lemmas.List.{length-take-le, take-take}
use Rattle.ttrpc_connection.specs.Feeds.{Feeds, is_open}
use Rattle.ttrpc_connection.specs.OneEnd.{AreTaken, Drains, Takes, TakesOrDrains}
use Rattle.ttrpc_pair.specs.Pipes.{Pipe, is_over}
use Rattle.ttrpc_server.specs.State.{IsNoUnary}
use Rattle.ttrpc_server.specs.Protocol.{QueuesResponse, RefusesFinish, RefusesResponse}
use Rattle.ttrpc_pair.specs.Steps.{Delivers, Hears, RefusesRespond, taken_from}

-- what a piece does to a core that is open, and to one that isn't
pub by_taking : {S O I : Type 0} (w : Ways S O I) (s : S) (old : Connection O I) (piece : List ℕ) (at : ℕ) (result : Result ℕ Error) (t : S) (new : Connection O I) → TakesOrDrains w s old piece at result t new
    → Takes w s old piece at result t new ⊎ ((is_open w s old.outbox ≡ false) × Drains s old result t new)
by_taking w s old piece at result t new fed = elim (cases_Bool (is_open w s old.outbox)) [ inl takes ↦ inl (fed.takes takes) | inr drains ↦ inr (drains, fed.drains drains) ]

-- a front of what was offered was taken
pub delivers : {S O I : Type 0} (w : Ways S O I) (s : S) (old : Connection O I) (pipe : Pipe) (now n k : ℕ) (piece : List ℕ) (t : S) (mid new : Connection O I) → piece ≡ take (min n (length pipe.bytes)) pipe.bytes
    → AreTaken w piece k t mid → Feeds w s old (take k piece) now t mid → Hears (is_over (taken_from pipe k)) mid new → Delivers w s old pipe now n k t new
delivers w s old pipe now n k piece t mid new is taken feeds hears =
    let offered = min n (length pipe.bytes) in
    let size : length piece ≡ offered = rw is (length-take-le offered pipe.bytes (omega arith)) in
    let count : k ≤ offered = omega (arith, size, taken.count) in
    let front : take k piece ≡ take k pipe.bytes = ap (take k) is ∙ take-take k offered pipe.bytes count in
    record {
      count = count;
      mid = mid;
      does = subst (λ bytes. Feeds w s old bytes now t mid) front feeds;
      short = λ less. taken.short (omega (arith, size, less));
      hears = hears;
    }

pub breaks_or_failed : (Breaks Same : Type 0) (failure : Option Failure) (told : Error) → (failure ≡ None → Breaks) → ((f : Failure) → failure ≡ Some f → IsTold (error_of f) told × Same)
    → Breaks ⊎ (IsFailed failure told × Same)
breaks_or_failed Breaks Same None told fails failed = inl (fails refl)
breaks_or_failed Breaks Same (Some why) told fails failed = let f = failed why refl in inr (record { why = why; is = refl; is_told = f.0 }, f.1)

unknown_between : (front back : List ActiveJob) (id : ℕ) (job : ActiveJob) → job.id ≡ id → job.request ≡ None → IsUnknown (front ++ job ∷ back) id → ⊥
unknown_between [] back id job is taken none = none.0 is taken
unknown_between (j ∷ front) back id job is taken none = unknown_between front back id job is taken none.1

pub answers_by : {CO CI SO SI : Type 0} (c : Halves CO CI) (s : Halves SO SI) (seals : Bool) (old : ServerCore SO SI) (id : ℕ) (given : Result Response Error) (new : ServerCore SO SI)
    → ((r : Response) → given ≡ Ok r → IsResponse r) → ((r : Response) → given ≡ Ok r → Answers s.out old id r new) → ((e : Error) → given ≡ Err e → AnswersError s.out old.state.rules old id e new)
    → AnswersBy c s seals old id given new
answers_by c s seals old id (Ok r) new known answers drops = (known r refl, answers r refl)
answers_by c s seals old id (Err e) new known answers drops = drops e refl

-- under sync rules the end of a job that was taken is refused for a failure alone
pub refuses_finish : {O I : Type 0} (old : ServerCore O I) (id : ℕ) (job : ActiveJob) (told : Error) → old.state.rules ≡ SyncRules → IsTaken old.state.jobs.list id job → RefusesFinish old id told → IsFailed old.connection.failure told
refuses_finish old id job told sync at (inl failed) = failed
refuses_finish old id job told sync at (inr (inl other)) = let bad : SyncRules ≡ AsyncRules = sym sync ∙ other.rules in cc
refuses_finish old id job told sync at (inr (inr none)) =
    let unknown = subst (λ (r : Rules). IsNoUnary r old.state.jobs.list id) none.0 none.1.unknown in
    absurd (unknown_between at.front at.back id job at.is_job at.taken (subst (λ js. IsUnknown js id) at.is unknown))

-- a response was queued for a job that awaits one
pub responds_to : {CO CI SO SI : Type 0} (c : Halves CO CI) (s : Halves SO SI) (seals : Bool) (old : Net CO CI SO SI) (id k : ℕ) (response : Response) (job : ActiveJob) (server : ServerCore SO SI) (responded : List ℕ)
    → IsResponse response → old.server.state.rules ≡ SyncRules → IsTaken old.server.state.jobs.list id job → k ≡ job.header.stream_id → has_response old id ≡ false
    → QueuesResponse s.out old.server k response server → responded ≡ old.responded ++ id ∷ []
    → RespondsTo c s seals old id response (record (with_server old server) { responded = responded })
responds_to c s seals old id k response job server responded is rules at stream none queues more = record {
  is_response = is;
  rules = rules;
  awaits = record { job = job; at = at; none_yet = none };
  does = subst (λ n. QueuesResponse s.out old.server n response server) stream queues;
  only = ap (λ xs. record (with_server old server) { responded = xs }) more;
}

-- or refused as the core refuses it
pub refuses_respond : {CO CI SO SI : Type 0} (c : Halves CO CI) (s : Halves SO SI) (seals : Bool) (old : Net CO CI SO SI) (id k : ℕ) (response : Response) (job : ActiveJob) (told : Error)
    → old.server.state.rules ≡ SyncRules → IsTaken old.server.state.jobs.list id job → k ≡ job.header.stream_id → has_response old id ≡ false → RefusesResponse s.out old.server k response told → RefusesRespond c s seals old id response told
refuses_respond c s seals old id k response job told rules at stream none refuses = record {
  rules = rules;
  awaits = record { job = job; at = at; none_yet = none };
  does = subst (λ n. RefusesResponse s.out old.server n response told) stream refuses;
}

-- what a handler ended a stream by is a value of its type
pub end_is : {CO CI SO SI : Type 0} (c : Halves CO CI) (s : Halves SO SI) (seals : Bool) (end : Result (Option Response) Error) → ((r : Response) → end ≡ Ok (Some r) → IsResponse r) → IsEnd c s seals end
end_is c s seals (Ok (Some r)) known = known r refl
end_is c s seals (Ok None) known = tt
end_is c s seals (Err e) known = tt
