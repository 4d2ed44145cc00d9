-- What a frame, a job that is handed out, an answer and a job that expires do to each stream id by itself.
use Rattle.ttrpc_server.proofs.Words.{cond_both, ◌≡◌, ℕ, nat_eq, ◌≢◌, inl, inr, refl, arith, List, [], ◌∷◌, ◌++◌, None, ExpiresOne, IsJob, Outbox, timeout_response, sym, ap, ◌∙◌, ActiveJob, Job, MessageHeader, Response, OutboundTransform, Sent, EndsOne, HandsOne, NoneWaits, jobs_at, SendsOwnAnswer, Server, Arrived, Async, Row, Rules, Sync, row_of, sync_row, Opened, Refused, SendResponse, SendCode, Does, between_own, between_other, under_both}
use Rattle.ttrpc_connection.specs.declared.arrived.InboundResult.{InboundResult}
use Rattle.std.specs.Prelude.{Bool, true, false, nat_lt, length, if◌then◌else◌, Option, Some}
use Rattle.ttrpc_wire.specs.Fold.{read_from}
use Rattle.ttrpc_proto.specs.Messages.{empty_request, request_step}
use Rattle.ttrpc_server.specs.Types.{TooLong, Case, StreamIdState, Absent, Asks, Call, NoPath, Oversize, Skipped, MESSAGE_LENGTH_MAX, MESSAGE_TYPE_REQUEST, Request}
use Rattle.ttrpc_server.specs.Table.{request_kind_row, case_of, case_row, id_state_of, newest_after, request_row, MakeStream, PutIn}
use Rattle.ttrpc_server.specs.Streams.{IsAnswered}
use Rattle.ttrpc_server.specs.State.{Services, has_method}

none_waits_at : (js : List ActiveJob) (k : ℕ) → NoneWaits js → NoneWaits (jobs_at js k)
none_waits_at [] k none = tt
none_waits_at (j ∷ js) k none =
    let later = none_waits_at js k none.1 in cond_both (nat_eq j.header.stream_id k) (j ∷ jobs_at js k) (jobs_at js k) NoneWaits (λ _. (none.0, later)) (λ _. later)

-- under which it is kept
abbrev pub stream_id_of : ActiveJob → ℕ
stream_id_of j = j.header.stream_id

pub handed_by_its_stream : (old new : List ActiveJob) (handed : Job) → HandsOne old handed new
    → HandsOne (jobs_at old handed.header.stream_id) handed (jobs_at new handed.header.stream_id)
handed_by_its_stream old new handed h =
    let k = handed.header.stream_id in
    let same : h.job.header.stream_id ≡ k = ap (λ header. header.stream_id) (sym h.header) in
    record {
      job = h.job;
      front = jobs_at h.front k;
      back = jobs_at h.back k;
      was = ap (λ jobs. jobs_at jobs k) h.was ∙ between_own stream_id_of k h.front h.back h.job same;
      id = h.id;
      header = h.header;
      stream = h.stream;
      request = h.request;
      first = none_waits_at h.front k h.first;
      jobs = ap (λ jobs. jobs_at jobs k) h.jobs ∙ between_own stream_id_of k h.front h.back (record h.job { request = None }) same;
    }

pub ended_by_its_stream : (old new : List ActiveJob) (id : ℕ) (job : ActiveJob) → EndsOne old id job new
    → EndsOne (jobs_at old job.header.stream_id) id job (jobs_at new job.header.stream_id)
ended_by_its_stream old new id job h =
    let k = job.header.stream_id in
    record {
      at = record {
        front = jobs_at h.at.front k;
        back = jobs_at h.at.back k;
        is = ap (λ jobs. jobs_at jobs k) h.at.is ∙ between_own stream_id_of k h.at.front h.at.back job refl;
        is_job = h.at.is_job;
        taken = h.at.taken;
      };
      jobs = ap (λ jobs. jobs_at jobs k) h.jobs ∙ under_both stream_id_of k h.at.front h.at.back;
    }

pub ended_elsewhere : (old new : List ActiveJob) (id : ℕ) (job : ActiveJob) (k : ℕ) → EndsOne old id job new → k ≢ job.header.stream_id → jobs_at new k ≡ jobs_at old k
ended_elsewhere old new id job k h apart =
    ap (λ jobs. jobs_at jobs k) h.jobs ∙ under_both stream_id_of k h.at.front h.at.back
    ∙ sym (ap (λ jobs. jobs_at jobs k) h.at.is ∙ between_other stream_id_of k h.at.front h.at.back job (λ same. apart (sym same)))

none_sent : (k : ℕ) (sent : List Sent) → sent ≡ [] → IsAnswered k sent
none_sent k sent none = rw none (record { own = tt; at_most_one = omega arith })

referred : {O : Type 0} (rules : Rules) (out : OutboundTransform O) (o : O) (k : ℕ) (r : Response) (sent : List Sent) → SendsOwnAnswer rules out o k r sent → IsAnswered k sent
referred rules out o k r sent (inl one) = rw one.is (record { own = (one.is_frame.stream_id, tt); at_most_one = omega arith })
referred rules out o k r sent (inr none) = none_sent k sent none.0

pub row_answers : {O : Type 0} (out : OutboundTransform O) (row : Row) (old : Server) (o : O) (header : MessageHeader) (now : ℕ) (sent : List Sent) (new : Server) → Does out row old o header now sent new
    → IsAnswered header.stream_id sent
row_answers out (SendResponse r) old o header now sent new does = referred old.rules out o header.stream_id r sent does.1
row_answers out (SendCode code) old o header now sent new does = referred old.rules out o header.stream_id does.1.0 sent does.1.2
row_answers out row old o header now sent new does = none_sent header.stream_id sent does.1

-- ---- jobs that expire

module _ {O : Type 0} (out : OutboundTransform O) (old : Server) (from : Outbox O) (job : ActiveJob) (new : Server) (to : Outbox O) where
  list_is : (one : ExpiresOne out old from job new to) → new.jobs.list ≡ one.at.front ++ one.at.back
  list_is one = ap (λ (s : Server). s.jobs.list) one.state

  pub expired_elsewhere : (k : ℕ) → ExpiresOne out old from job new to → k ≢ job.header.stream_id → jobs_at new.jobs.list k ≡ jobs_at old.jobs.list k
  expired_elsewhere k one apart =
      ap (λ jobs. jobs_at jobs k) (list_is one) ∙ under_both stream_id_of k one.at.front one.at.back
      ∙ sym (ap (λ jobs. jobs_at jobs k) one.at.is ∙ between_other stream_id_of k one.at.front one.at.back job (λ same. apart (sym same)))

  pub expired_by_its_stream : ExpiresOne out old from job new to → (at : IsJob (jobs_at old.jobs.list job.header.stream_id) job.id job) × (jobs_at new.jobs.list job.header.stream_id ≡ at.front ++ at.back)
  expired_by_its_stream one =
      let k = job.header.stream_id in (
        record {
          front = jobs_at one.at.front k;
          back = jobs_at one.at.back k;
          is = ap (λ jobs. jobs_at jobs k) one.at.is ∙ between_own stream_id_of k one.at.front one.at.back job refl;
          is_job = refl;
        },
        ap (λ jobs. jobs_at jobs k) (list_is one) ∙ under_both stream_id_of k one.at.front one.at.back,
      )

  pub one_answers : (one : ExpiresOne out old from job new to) → IsAnswered job.header.stream_id one.sent
  one_answers one = referred old.rules out from.half job.header.stream_id timeout_response one.sent one.answers

-- ---- the rules

-- sync rules ask neither for the newest request nor for what an id has
pub same_case : (r : Rules) (h : MessageHeader) (opening : InboundResult) (m n : Option ℕ) (x y : StreamIdState) → (r ≡ Async → (m ≡ n) × (x ≡ y)) → case_of r h opening m x ≡ case_of r h opening n y
same_case Sync h TooLong m n x y same = refl
same_case Sync h (Refused why) m n x y same = refl
same_case Sync h (Opened plain) m n x y same = refl
same_case Async h opening m n x y same = let both = same refl in ap (λ k. case_of Async h opening k x) both.0 ∙ ap (case_of Async h opening n) both.1

-- nor do they note a newest request, which no frame is but a request that is read
pub seen_else : (r : Rules) (k : ℕ) (case : Case) (newest : Option ℕ) → ((plain : List ℕ) → case ≡ Asks plain → ⊥) → newest_after r k case newest ≡ newest
seen_else r k (Asks plain) newest other = absurd (other plain refl)
seen_else Sync k case newest other = refl
seen_else Async k case newest other = refl

pub row_of_sync : (s : Server) (a : Arrived) → s.rules ≡ Sync → row_of s a ≡ sync_row s.services a.header a.opening
row_of_sync s a sync = rw sync (ap (case_row Sync s.services a.header) (same_case Sync a.header a.opening s.jobs.newest None (id_state_of (jobs_at s.jobs.list a.header.stream_id)) Absent (λ bad. cc)))

-- ---- sync rules have no streams

-- a row of a stream
abbrev pub is_of_streams : Row → Bool
is_of_streams (MakeStream request) = true
is_of_streams (PutIn payload) = true
is_of_streams row = false

none_asked : (r : Request) (b : Bool) → is_of_streams (request_kind_row r (if b then Call else NoPath)) ≡ false
none_asked r true = refl
none_asked r false = refl

none_read : (services : Services) (r : Option Request) → is_of_streams (request_row Sync services r) ≡ false
none_read services None = refl
none_read services (Some r) = none_asked r (has_method services r.service r.method)

none_opened : (services : Services) (h : MessageHeader) (plain : List ℕ) (long asks : Bool) → is_of_streams (case_row Sync services h (if long then Oversize (length plain) else if asks then Asks plain else Skipped)) ≡ false
none_opened services h plain true asks = refl
none_opened services h plain false true = none_read services (read_from request_step empty_request plain)
none_opened services h plain false false = refl

pub no_streams : (services : Services) (h : MessageHeader) (opening : InboundResult) → is_of_streams (sync_row services h opening) ≡ false
no_streams services h TooLong = refl
no_streams services h (Refused why) = refl
no_streams services h (Opened plain) = none_opened services h plain (nat_lt MESSAGE_LENGTH_MAX (length plain)) (nat_eq h.type_ MESSAGE_TYPE_REQUEST)
