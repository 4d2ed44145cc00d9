-- What was sent, why a response wasn't, and how an answer ends its job.
use Rattle.ttrpc_server.proofs.Words.{◌≡◌, ◌<◌, ◌≤◌, ◌+◌, ◌∙◌, ◌&&◌, Bool, true, arith, nat_lt, length, ℕ, List, [], ◌∷◌, refl, sym, ap, subst, Option, inl, inr, None, Error, MessageHeader, Response, Queued, OutboundTransform, Outbox, Failure, HandlerError, IsTold, first_failure, MESSAGE_LENGTH_MAX, SendsOne, safe_limit, ActiveJob, EndsOne, fit_to_limit, fitted, response_size, response_bytes, IsResponseFrame, IsStatusResponse, SendsOwnAnswer, Responds, Server, with_list, IsUnsent, Row, SendCode, Rules, Answers, Does, Drops, Finishes, QueuesResponse, with_jobs, IsUnsentFor, SendsAnswer, SendsSome, TellsUnsent, IsErrorResponse, Async, Sync, IsTaken}
use Rattle.std.specs.Prelude.{◌⊎◌, false, suc, zero, Result, Ok, Err, Some}
use Rattle.std.proofs.lemmas.Bool.{and_parts, cases_lt, le-ltb, lt-ltb, ltb-true}
use Rattle.ttrpc_proto.specs.declared.framing.header.TheConstants.{MESSAGE_HEADER_LENGTH}
use Rattle.ttrpc_proto.specs.Framing.Queue.{free}
use Rattle.ttrpc_secure.specs.Sends.{needed}
use Rattle.ttrpc_wire.specs.Varint.{digits, varint}
use Rattle.std.specs.Fmt.{digits as decimal_digits}
use Rattle.ttrpc_connection.specs.Feeds.{IsFailed}
use Rattle.ttrpc_server.specs.Protocol.{AnswersError, HasNoJob, HasUnsent, HasUnsentResponse, LacksRoom, RefusesAnswer, advice, fit_to_message, limit_text, response_room, timeout_response, timeout_room}
use Rattle.ttrpc_server.specs.Inside.{HasRoom, IsUnfit}
use Rattle.ttrpc_server.specs.State.{is_stream}
use Rattle.ttrpc_server.specs.Table.{answer_row, status_response}
use Rattle.ttrpc_proto.specs.ErrorText.{error_text}
use Rattle.ttrpc_wire.specs.declared.values.code.Code.TheVariants.{INVALID_ARGUMENT, UNKNOWN}
use Rattle.ttrpc_wire.specs.declared.values.code.Code.{Code}
use Rattle.ttrpc_proto.specs.declared.error.Error.TheVariants.{NoMemory as NoMemoryError, Others}
use Rattle.ttrpc_server.specs.declared.replies.Unsent.{Unsent}
use Rattle.ttrpc_server.specs.declared.replies.Unsent.TheVariants.{AboveLimit, NoRoom, Unsealed, NoMemory}
use Rattle.ttrpc_server.specs.declared.server.ServerCore.{ServerCore}
use Rattle.ttrpc_secure.specs.Context.Texts.{unsafe_payload_text}

-- ---- what was sent

pub sent_one : {O : Type 0} (rules : Rules) (out : OutboundTransform O) (old : Outbox O) (k : ℕ) (r : Response) (f : Queued) (bytes : List ℕ) (new : Outbox O)
    → bytes ≡ response_bytes (fitted rules (safe_limit out old.half) r) → response_size (fitted rules (safe_limit out old.half) r) ≤ safe_limit out old.half → IsResponseFrame k f
    → SendsOne out old f bytes new → SendsSome out old (Responds rules (safe_limit out old.half) k r) new
sent_one rules out old k r f bytes new written small framed sends = (
  record { frame = f; plain = response_bytes (fitted rules (safe_limit out old.half) r) } ∷ [],
  record { frame = f; is_frame = framed; fits = small; is = refl },
  (new, rw (← written) sends, refl),
)

pub refers_none : {O : Type 0} (rules : Rules) (out : OutboundTransform O) (old : Outbox O) (k : ℕ) (r : Response) (u : Unsent) (new : Outbox O)
    → HasRoom rules out old r → new ≡ old → IsUnsentFor rules out old k r u → (u ≡ NoMemory → ⊥) → SendsSome out old (SendsOwnAnswer rules out old.half k r) new
refers_none rules out old k r (AboveLimit n) new roomy same why other = ([], inr (refl, inl why.1), same)
refers_none rules out old k r NoRoom new roomy same why other = absurd (let enough = roomy why.0 in let lacks = why.1 in omega (arith, enough, lacks))
refers_none rules out old k r (Unsealed text) new roomy same why other = ([], inr (refl, inr (text, why.1)), same)
refers_none rules out old k r NoMemory new roomy same why other = absurd (other refl)

-- what was written is as long as it is said to be, since that is below the limit
size_is : {O : Type 0} (out : OutboundTransform O) (o : O) (r : Response) (bytes : List ℕ) → bytes ≡ response_bytes r → response_size r ≤ safe_limit out o → length bytes ≡ response_size r
size_is out o r bytes is small = rw is (omega (arith, small))

pub lacks_room : {O : Type 0} (rules : Rules) (out : OutboundTransform O) (old : Outbox O) (r : Response) (bytes : List ℕ) → bytes ≡ response_bytes (fitted rules (safe_limit out old.half) r)
    → response_size (fitted rules (safe_limit out old.half) r) ≤ safe_limit out old.half → free old.queue < needed out old.half bytes → LacksRoom rules out old r
lacks_room rules out old r bytes is small lacks = let size = size_is out old.half (fitted rules (safe_limit out old.half) r) bytes is small in (small, omega (arith, size, lacks))

pub is_roomy : {O : Type 0} (rules : Rules) (out : OutboundTransform O) (old : Outbox O) (r : Response) (bytes : List ℕ) → bytes ≡ response_bytes (fitted rules (safe_limit out old.half) r)
    → response_size (fitted rules (safe_limit out old.half) r) ≤ safe_limit out old.half → needed out old.half bytes ≤ free old.queue → response_room rules out old.half r ≤ free old.queue
is_roomy rules out old r bytes is small room = let size = size_is out old.half (fitted rules (safe_limit out old.half) r) bytes is small in omega (arith, size, room)

-- ---- when there is room for what the core answers by itself

-- for the longest message, and so for any
pub has_room_for_all : {O : Type 0} (rules : Rules) (out : OutboundTransform O) (old : Outbox O) (r : Response) → out.overhead old.half ≤ MESSAGE_LENGTH_MAX → MESSAGE_HEADER_LENGTH + MESSAGE_LENGTH_MAX ≤ free old.queue → HasRoom rules out old r
has_room_for_all rules out old r small enough = λ fits. omega (arith, small, enough, fits)

-- whether all numbers below this one are such
abbrev are_all : ℕ → (ℕ → Bool) → Bool
are_all zero p = true
are_all (suc n) p = p n && are_all n p

one_of_all : (n : ℕ) (p : ℕ → Bool) → are_all n p ≡ true → (k : ℕ) → k < n → p k ≡ true
one_of_all zero p all k less = absurd (omega (arith, less))
one_of_all (suc n) p all k less = elim (cases_lt k n) [
  | inl below ↦ one_of_all n p (and_parts (p n) (are_all n p) all).1 k below
  | inr above ↦ let same : n ≡ k = omega (arith, less, above) in subst (λ i. p i ≡ true) same (and_parts (p n) (are_all n p) all).0
]

-- how long `timeout` is
timeout_fits : fit_to_message Async timeout_response ≡ timeout_response
unfolding varint digits
timeout_fits = refl

pub timeout_size : response_size timeout_response ≡ 13
unfolding varint digits
timeout_size = refl

-- the answer in its place is as much too long where `timeout` doesn't fit
long_instead : (limit : ℕ) → limit < 13 → nat_lt limit (response_size (status_response INVALID_ARGUMENT (limit_text 13 limit))) ≡ true
unfolding varint digits decimal_digits
long_instead limit less = one_of_all 13 (λ k. nat_lt k (response_size (status_response INVALID_ARGUMENT (limit_text 13 k)))) refl limit less

pub has_room_for_timeout : {O : Type 0} (out : OutboundTransform O) (old : Outbox O) → timeout_room out old.half ≤ free old.queue → HasRoom Async out old timeout_response
has_room_for_timeout out old enough = λ fits.
    let limit = safe_limit out old.half in
    elim (cases_lt limit 13) [
      | inl less ↦
          let above : nat_lt limit (response_size timeout_response) ≡ true = rw timeout_size (lt-ltb _ _ less) in
          let is : fitted Async limit timeout_response ≡ status_response INVALID_ARGUMENT (limit_text 13 limit) = ap (fit_to_limit limit) timeout_fits ∙ rw (above, timeout_size) refl in
          let long = ltb-true limit _ (long_instead limit less) in
          let short = subst (λ (x : Response). response_size x ≤ limit) is fits in
          absurd (omega (arith, long, short))
      | inr wide ↦
          let below : nat_lt limit (response_size timeout_response) ≡ false = rw timeout_size (le-ltb _ _ wide) in
          let is : fitted Async limit timeout_response ≡ timeout_response = ap (fit_to_limit limit) timeout_fits ∙ rw below refl in
          subst (λ (x : Response). MESSAGE_HEADER_LENGTH + response_size x + out.overhead old.half ≤ free old.queue) (sym is) enough
    ]

-- a row that answers, or doesn't
pub answers : {O : Type 0} (out : OutboundTransform O) (row : Row) (s : Server) (header : MessageHeader) (now : ℕ) (r : Option Response) (old new : Outbox O) → row ≡ answer_row r
    → SendsSome out old (SendsAnswer s.rules out old.half header.stream_id r) new → SendsSome out old (λ sent. Does out row s old.half header now sent s) new
answers out row s header now None old new is some = (some.0, rw is (refl, some.1), some.2)
answers out row s header now (Some r) old new is some = (some.0, rw is (refl, some.1), some.2)

pub tells_of : {O : Type 0} (out : OutboundTransform O) (row : Row) (s : Server) (header : MessageHeader) (now : ℕ) (code : Code) (r : Response) (old new : Outbox O) → row ≡ SendCode code → IsStatusResponse code r
    → SendsSome out old (SendsOwnAnswer s.rules out old.half header.stream_id r) new → SendsSome out old (λ sent. Does out row s old.half header now sent s) new
tells_of out row s header now code r old new is status some = (some.0, rw is (refl, (r, status, some.1)), some.2)

-- ---- why a response wasn't sent

-- a response that stands for another, as it is longer than a message may be, isn't written for the same reason
pub unfit_as : (limit : ℕ) (r x : Response) (u : Unsent) → x ≡ fit_to_message Async r → IsUnfit Sync limit x u → IsUnfit Async limit r u
unfit_as limit r x (AboveLimit n) is h = subst (λ (y : Response). (n ≡ response_size (fit_to_limit limit y)) × (limit < response_size (fit_to_limit limit y))) is h
unfit_as limit r x NoRoom is h = h
unfit_as limit r x (Unsealed why) is h = h
unfit_as limit r x NoMemory is h = h

-- what is told of a response that wasn't sent
pub told_unsent : {O : Type 0} (rules : Rules) (out : OutboundTransform O) (o : Outbox O) (k : ℕ) (r : Response) (u : Unsent) (limit : ℕ) (told : Error)
    → IsUnsentFor rules out o k r u → limit ≡ safe_limit out o.half → TellsUnsent rules limit u told → IsUnsent rules out o k r told
told_unsent rules out o k r (AboveLimit n) limit told why is tells = inl (
  why.1,
  subst (λ (m : ℕ). IsTold (Others (unsafe_payload_text (response_size (fitted rules (safe_limit out o.half) r)) m (advice rules))) told) is
      (subst (λ (m : ℕ). IsTold (Others (unsafe_payload_text m limit (advice rules))) told) why.0 tells),
)
told_unsent rules out o k r NoRoom limit told why is tells = inr (inl (why, tells))
told_unsent rules out o k r (Unsealed text) limit told why is tells = inr (inr (inl (why.0, (text, why.1, tells))))
told_unsent rules out o k r NoMemory limit told why is tells = inr (inr (inr tells))

-- a response that can't be queued is no answer to its job
pub unsent_answer : {O I : Type 0} (out : OutboundTransform O) (old : ServerCore O I) (id k : ℕ) (job : ActiveJob) (r : Response) (told : Error)
    → IsTaken old.state.jobs.list id job → (old.state.rules ≡ Async → is_stream job.body ≡ false) → k ≡ job.header.stream_id → IsFailed old.connection.failure told ⊎ HasUnsentResponse out old k r told
    → IsFailed old.connection.failure told ⊎ HasUnsent out old id (Ok r) told
unsent_answer out old id k job r told at unary stream (inl failed) = inl failed
unsent_answer out old id k job r told at unary stream (inr unsent) = inr (record {
  alive = unsent.alive;
  job = job;
  at = at;
  unary = unary;
  answer = r;
  is_answer = refl;
  unsent = subst (λ n. IsUnsent old.state.rules out old.connection.outbox n r told) stream unsent.unsent;
})

-- nor is the response to a handler's error
pub unsent_error : {O I : Type 0} (out : OutboundTransform O) (old : ServerCore O I) (id : ℕ) (error : Error) (r : Response) (told : Error) → old.state.rules ≡ Async → IsErrorResponse error r
    → IsFailed old.connection.failure told ⊎ HasUnsent out old id (Ok r) told → IsFailed old.connection.failure told ⊎ HasUnsent out old id (Err error) told
unsent_error out old id error r told rules is (inl failed) = inl failed
unsent_error out old id error r told rules is (inr unsent) = inr (record {
  alive = unsent.alive;
  job = unsent.job;
  at = unsent.at;
  unary = unsent.unary;
  answer = unsent.answer;
  is_answer = rw (rules, unsent.is_answer) is;
  unsent = unsent.unsent;
})

-- an error has a text
some_text : (error : Error) → (r : Response) × IsErrorResponse error r
some_text error = by (error_text error) refl
  where
    by : (text : Option (List ℕ)) → error_text error ≡ text → (r : Response) × IsErrorResponse error r
    by None is = (status_response UNKNOWN [], ([], rw is tt, refl))
    by (Some text) is = (status_response UNKNOWN text, (text, rw is refl, refl))

-- there was no memory for it
pub textless : {O I : Type 0} (out : OutboundTransform O) (old : ServerCore O I) (id : ℕ) (job : ActiveJob) (error told : Error) → old.connection.failure ≡ None → old.state.rules ≡ Async
    → IsTaken old.state.jobs.list id job → is_stream job.body ≡ false → told ≡ NoMemoryError → HasUnsent out old id (Err error) told
textless out old id job error told alive rules at unary is =
    let some = some_text error in
    record { alive = alive; job = job; at = at; unary = λ async. unary; answer = some.0; is_answer = rw rules some.1; unsent = inr (inr (inr is)) }

pub refuses_answer : {O I : Type 0} (out : OutboundTransform O) (old : ServerCore O I) (id : ℕ) (response : Result Response Error) (told : Error)
    → IsFailed old.connection.failure told ⊎ HasUnsent out old id response told → RefusesAnswer out old id response told
refuses_answer out old id response told (inl failed) = inl failed
refuses_answer out old id response told (inr unsent) = inr (inr unsent)

pub refuses_none : {O I : Type 0} (out : OutboundTransform O) (old : ServerCore O I) (id : ℕ) (response : Result Response Error) (told : Error)
    → IsFailed old.connection.failure told ⊎ HasNoJob old id told → RefusesAnswer out old id response told
refuses_none out old id response told (inl failed) = inl failed
refuses_none out old id response told (inr none) = inr (inl none)

-- ---- an answer ends its job

-- a job was forgotten
pub finishes_at : {O I : Type 0} (old : ServerCore O I) (id : ℕ) (job : ActiveJob) (t : Server) → old.connection.failure ≡ None
    → EndsOne old.state.jobs.list id job t.jobs.list → is_stream job.body ≡ false → t ≡ with_list old.state t.jobs.list → Finishes old id (record { state = t; connection = old.connection })
finishes_at old id job t alive ends unary same = record {
  alive = alive;
  job = job;
  ends = ends;
  unary = unary;
  same = ap (λ s. record { state = s; connection = old.connection }) same;
}

-- a response was queued, and then its job forgotten
pub answers_at : {O I : Type 0} (out : OutboundTransform O) (old : ServerCore O I) (id k : ℕ) (job : ActiveJob) (r : Response) (mid : ServerCore O I) (t : Server)
    → QueuesResponse out old k r mid → k ≡ job.header.stream_id → EndsOne mid.state.jobs.list id job t.jobs.list → is_stream job.body ≡ false → t ≡ with_list mid.state t.jobs.list
    → Answers out old id r (record { state = t; connection = mid.connection })
answers_at out old id k job r mid t queues at ends unary same =
    let state : mid.state ≡ old.state = ap (λ (c : ServerCore _ _). c.state) queues.same in
    record {
      alive = queues.alive;
      job = job;
      ends = subst (λ (s : Server). EndsOne s.jobs.list id job t.jobs.list) state ends;
      unary = unary;
      sent = queues.sent;
      responds = subst (λ n. Responds old.state.rules (safe_limit out old.connection.outbox.half) n r queues.sent) at queues.responds;
      sends = queues.sends;
      same = ap (λ s. record { state = s; connection = mid.connection }) (same ∙ ap (λ (s : Server). with_list s t.jobs.list) state)
          ∙ ap (λ c. record { state = with_list old.state t.jobs.list; connection = c }) (ap (λ (c : ServerCore _ _). c.connection) queues.same);
    }

-- under sync rules a handler's error ends its job so
pub error_drops : {O I : Type 0} (out : OutboundTransform O) (old : ServerCore O I) (id : ℕ) (error : Error) (new : ServerCore O I) → old.state.rules ≡ Sync → Drops old id new → AnswersError out old.state.rules old id error new
error_drops out old id error new sync drops = subst (λ (r : Rules). AnswersError out r old id error new) (sym sync) drops

-- a handler's error: the job forgotten, and the connection failed
pub drops_at : {O I : Type 0} (old : ServerCore O I) (id : ℕ) (job : ActiveJob) (t : Server) (failure : Option Failure)
    → old.connection.failure ≡ None → failure ≡ first_failure old.connection.failure HandlerError
    → EndsOne old.state.jobs.list id job t.jobs.list → is_stream job.body ≡ false → t ≡ with_list old.state t.jobs.list
    → Drops old id (record { state = t; connection = record old.connection { failure = failure } })
drops_at old id job t failure alive fails ends unary same = record {
  alive = alive;
  job = job;
  ends = ends;
  unary = unary;
  same = ap (λ s. record { state = s; connection = record old.connection { failure = failure } }) same
      ∙ ap (λ f. record (with_jobs old t.jobs.list) { connection = record old.connection { failure = f } }) (fails ∙ ap (λ f. first_failure f HandlerError) alive);
}
