-- Each event of the server keeps the invariant.
use Rattle.ttrpc_world.proofs.Delivers.{around, at_one, own_refers, Stories}
use Rattle.ttrpc_world.proofs.Keeps.{Keeps, keeps_still}
use Rattle.ttrpc_world.proofs.Numbers.{AreRight, counts, Numbers}
use Rattle.ttrpc_world.proofs.OneWay.{goes_on, joins, not_both, OneWay}
use Rattle.ttrpc_world.proofs.Payloads.{too_late, unknown_never}
use Rattle.ttrpc_world.proofs.Flights.{behind_other, behind_own, flight_as, GivesSo, IsAnswering, IsData, IsGoing, IsRefusing, item_going, sends_close, sends_data, sends_refusal, sends_response, SendsFlight}
use Rattle.ttrpc_world.proofs.Jobs.{all_due, aside_plain, deaf, gone_at, gone_others, is_at, job_is, mailed, not_here, too_soon, untouched}
use Rattle.ttrpc_world.proofs.Serves.{expired_so}
use Rattle.ttrpc_pair.proofs.Words.{unheard as unheard_of}
use Rattle.ttrpc_world.proofs.Words.{[], Act, act_of, ActiveJob, all_at, all_in_front, AllByRecursion, Answer, Answered, answered_work, Answers, answers_here, AnswersBy, AnswersError, ap, append-nil, append_assoc, arith, asked_by, AsyncRules, at_stays, between_own, Birth, Bool, Born, call_at, changed_at, codes, Done, Drain, drained, DropReceiver, elsewhere, EndedDown, ending_thing, ends_here, EndsOne, EndsStream, EndStream, Entry, eq-eqb, Err, Error, errs_up_here, Event, ExpireAll, Failure, false, Finish, Finishes, first_act, flow_of, Flying, given, Goes, Halves, Handed, HandlerError, Hands, has_response, HasNone, HasOkStatus, heard, HeardUp, hears_up_here, here_at, id_of, if◌then◌else◌, inl, inr, is_clean_answer, is_due, is_stream, IsAnswer, IsAnsweredBy, IsDown, IsEnd, IsErrorResponse, IsNever, IsPlain, IsPlainFailure, IsResponse, IsSentAs, IsSentBack, IsSentFor, Item, Job, job_at, job_within, JobReceives, jobs_at, last_id, last_thing, Later, List, list_any, Mail, mapped_at, may_be_error, nat_eq, Net, never_down, None, Ok, only_if, Option, Origin, Others, Outbox, parcels, Place, pushed_other, pushed_own, Ran, reaches, ReceivesBy, ReceivesFrom, Recv, refl, request_of, Respond, Responds, responds_here, RespondsTo, Response, Result, Rules, running_of, safe_limit, Send, sends_down_here, SendsAll, SendsItem, Sent, SentDown, Server, ServerCore, ServerEnd, ServerPasses, Settings, silent, Some, some_of, stream_id_of, StreamBody, subst, sym, SyncRules, Take, takes_here, MailboxEntry, ThingEnd, ThingItem, Ticket, timeout_response, told, told_by, told_plain, true, unchanged, under_both, unheard, unheard_up_here, untold, Waiting, was_made, with_entry, with_mail, with_server, without_receiver, ℕ, ◌++◌, ◌∙◌, ◌∷◌, ◌≡◌, ◌≤◌, list_any-append, or_left, or_right}

module _ {CO CI SO SI : Type 0} (c : Halves CO CI) (s : Halves SO SI) (seals : Bool) (set : Settings) (f : ℕ → ℕ) (trace : List Entry) where
  abbrev Kept : List Entry → Net CO CI SO SI → Type 0
  Kept t w = Keeps c s set f t w

  abbrev PlaceOf : Net CO CI SO SI → (ℕ → Bool) → List Entry → List Flying → List Flying → List ActiveJob → ℕ → Type 0
  PlaceOf w had t up down jobs n = Place (around set had w.client.state.next) n (here_at f t up down jobs w.client.state n)

  -- around an id all is as it was
  as_was : (w : Net CO CI SO SI) (n : ℕ) → Later (around set (has_response w) w.client.state.next) (around set (has_response w) w.client.state.next) n
  as_was w n = unchanged (around set (has_response w) w.client.state.next) n

  -- the server's jobs change, and frames may be queued
  server_changes : (w : Net CO CI SO SI) (t : List Entry) (x : ServerCore SO SI) (responded : List ℕ) (down : List Flying) → (i : Kept trace w)
      → Stories set (λ job. list_any (λ j. nat_eq j job) responded) f t i.up down x.state.jobs.list w.client.state → {this : ServerCore SO SI} → x ≡ this → counts this.state.jobs ≡ counts w.server.state.jobs
      → this.connection.decoder ≡ w.server.connection.decoder → this.connection.inbound ≡ w.server.connection.inbound → (x.connection.failure ≡ None → w.server.connection.failure ≡ None)
      → OneWay s.out c.in_ x.connection.outbox w.client.connection w.down down → Kept t (record (with_server w x) { responded = responded })
  server_changes w t x responded down i stories same last held inbound lives downward = record {
    up = i.up;
    down = down;
    stories = stories;
    numbers = subst (λ (n : ℕ × Option ℕ). Numbers f n i.up w.client.state.next) (sym (ap (λ (y : ServerCore SO SI). counts y.state.jobs) same ∙ last)) i.numbers;
    own = i.own;
    upward = goes_on c.out s.in_ _ _ w.server.connection x.connection w.up i.up refl (ap (λ (y : ServerCore SO SI). y.connection.decoder) same ∙ held) (ap (λ (y : ServerCore SO SI). y.connection.inbound) same ∙ inbound) lives i.upward;
    downward = downward;
  }

  -- ---- a job is handed out

  pub keeps_hand : (w : Net CO CI SO SI) (job : Job) (v : Net CO CI SO SI) → Kept trace w → Hands w.server job v.server → Kept (with_entry trace Take (Handed (Some job))) (with_server w v.server)
  keeps_hand w job v i p =
      let h = p.hands in
      let j = h.job in
      let taken : ActiveJob = record j { request = None } in
      let k : ℕ = j.header.stream_id in
      let t = with_entry trace Take (Handed (Some job)) in
      let at : job.header.stream_id ≡ k = ap (λ x. x.stream_id) h.header in
      let was : (n : ℕ) → jobs_at w.server.state.jobs.list n ≡ jobs_at (h.front ++ j ∷ h.back) n = λ n. ap (λ js. jobs_at js n) h.was in
      let is : (n : ℕ) → jobs_at v.server.state.jobs.list n ≡ jobs_at (h.front ++ taken ∷ h.back) n = λ n. ap (λ js. jobs_at js n) h.jobs in
      let same = p.same in
      server_changes w t v.server w.responded i.down i
      (at_one (PlaceOf w (has_response w) t i.up i.down v.server.state.jobs.list) k
      (elsewhere (as_was w k) (takes_here (jobs_at h.front k) (jobs_at h.back k) j job.request (i.stories k) (was k ∙ between_own stream_id_of k h.front h.back j refl) h.request)
      (heard (act_of f k) k job.header.stream_id trace Take (Handed (Some job)) (Ran job.id job.stream job.request) refl at
      ∙ ap (λ (m : ℕ). (here_at f trace i.up i.down w.server.state.jobs.list w.client.state k).acts ++ Ran m job.stream job.request ∷ []) h.id
      ∙ ap (λ (b : Bool). (here_at f trace i.up i.down w.server.state.jobs.list w.client.state k).acts ++ Ran j.id b job.request ∷ []) h.stream)
      (silent (flow_of f k) trace Take (Handed (Some job)) refl) refl (is k ∙ between_own stream_id_of k h.front h.back taken refl) refl refl refl)
      (λ n e. elsewhere (as_was w n) (i.stories n) (unheard (act_of f n) n job.header.stream_id trace Take (Handed (Some job)) (Ran job.id job.stream job.request) refl (λ same_id. e (sym at ∙ same_id)))
      (silent (flow_of f n) trace Take (Handed (Some job)) refl) refl (is n ∙ not_here n h.front h.back taken e ∙ sym (was n ∙ not_here n h.front h.back j e)) refl refl refl))
      same refl refl refl (λ alive. p.alive) (rw same i.downward)

  -- ---- a job that was taken is answered, or ends

  -- the settings are these
  abbrev pub IsSet : Net CO CI SO SI → Type 0
  IsSet w = (w.server.state.rules ≡ set.rules) × (safe_limit s.out w.server.connection.outbox.half ≡ set.limit) × (w.server.state.services ≡ set.services)

  -- what it puts in
  abbrev ending : Result (Option Response) Error → MailboxEntry
  ending result = ending_thing set.rules set.limit result

  -- what is sent for it, if anything is: if it ends a call well, it is the answer; and it brings what was put in
  record Concludes (w : Net CO CI SO SI) (x : ServerCore SO SI) (j : ActiveJob) (kind : Bool) (o : Origin) (done : List Act) (result : Result (Option Response) Error) : Type 0 where
    more : List Flying
    downs : AllByRecursion (IsDown j.header.stream_id true o done) more
    back : set.clean → IsAnsweredBy set j kind result more
    goes : Goes (ending result) more
    sent : (flights : List Flying) → OneWay s.out c.in_ w.server.connection.outbox w.client.connection w.down flights → OneWay s.out c.in_ x.connection.outbox w.client.connection w.down (flights ++ more)

  of_flight : (w : Net CO CI SO SI) (x : ServerCore SO SI) (j : ActiveJob) (kind : Bool) (o : Origin) (done : List Act) (result : Result (Option Response) Error) (given : Option (Result Response Error))
      → ((y : Flying) → GivesSo given y → IsAnsweredBy set j kind result (y ∷ [])) → SendsFlight s.out w.server.connection.outbox (IsAnswering j.header.stream_id o done (ending result) given) x.connection.outbox → Concludes w x j kind o done result
  of_flight w x j kind o done result given back r = record {
    more = r.y ∷ [];
    downs = (r.is.down, tt);
    back = λ clean. back r.y r.is.gives;
    goes = r.is.goes;
    sent = λ flights way. joins s.out c.in_ w.server.connection.outbox x.connection.outbox w.client.connection w.down flights r.y r.queue r.seal r.sound way;
  }

  -- what the event says of each id: that its job is answered or ends, if it is this one
  abbrev IsEnding : Event → ℕ → Bool → Result (Option Response) Error → Type 0
  IsEnding event id kind result = (k : ℕ) → (act_of f k event Done ≡ only_if (nat_eq (f id) k) (Answered kind result)) × (flow_of f k event Done ≡ only_if (nat_eq (f id) k) (EndedDown result))

  -- A job is answered or ends by what its handler gave.
  concludes : (w : Net CO CI SO SI) (event : Event) (id : ℕ) (kind : Bool) (result : Result (Option Response) Error) (x : ServerCore SO SI) → (i : Kept trace w) → AreRight f w.server.state.jobs.list
      → IsEnding event id kind result → (j : ActiveJob) → (ends : EndsOne w.server.state.jobs.list id j x.state.jobs.list)
      → HasNone (around set (has_response w) w.client.state.next) j
      → ((b : Birth) → j.header.stream_id ≤ last_id → Concludes w x j kind (Born b) (answered_work b j kind result) result)
      → {this : ServerCore SO SI} → x ≡ this → counts this.state.jobs ≡ counts w.server.state.jobs → this.connection.decoder ≡ w.server.connection.decoder → this.connection.inbound ≡ w.server.connection.inbound → (x.connection.failure ≡ None → w.server.connection.failure ≡ None)
      → Kept (with_entry trace event Done) (with_server w x)
  concludes w event id kind result x i right says j ends none sends same last held inbound lives =
      let k : ℕ = j.header.stream_id in
      let t = with_entry trace event Done in
      let a = is_at f w.server.state.jobs.list id j right ends.at in
      let running = running_of (jobs_at ends.at.front k) (jobs_at ends.at.back k) j (i.stories k) a.own ends.at.taken none in
      let r = sends running.b running.known.server.within in
      let done = answered_work running.b j kind result in
      server_changes w t x w.responded (i.down ++ r.more) i
      (at_one (PlaceOf w (has_response w) t i.up (i.down ++ r.more) x.state.jobs.list) k
      (elsewhere (as_was w k) (answers_here j kind result r.more running r.downs r.goes r.back) (heard (act_of f k) k (f id) trace event Done (Answered kind result) (says k).0 a.stream) (heard (flow_of f k) k (f id) trace event Done (EndedDown result) (says k).1 a.stream) refl
      (gone_at w.server.state.jobs.list id j x.state.jobs.list ends k) (behind_own (IsDown k true (Born running.b) done) k (λ y d. d.stream) i.down r.more r.downs) refl refl)
      (λ n e. elsewhere (as_was w n) (i.stories n) (unheard (act_of f n) n (f id) trace event Done (Answered kind result) (says n).0 (λ same. e (sym a.stream ∙ same)))
      (unheard (flow_of f n) n (f id) trace event Done (EndedDown result) (says n).1 (λ same. e (sym a.stream ∙ same))) refl (gone_others w.server.state.jobs.list id j x.state.jobs.list ends n e) (behind_other (IsDown k true (Born running.b) done) k n (λ y d. d.stream) i.down r.more r.downs e) refl refl))
      same last held inbound lives (r.sent i.down i.downward)

  -- what a response puts in is by the settings
  same_ending : (w : Net CO CI SO SI) (response : Response) → IsSet w → last_thing (told_by w.server.state.rules (safe_limit s.out w.server.connection.outbox.half) response) response ≡ ending (Ok (Some response))
  same_ending w response ruled = rw (ruled.0, ruled.1) refl

  -- so is what is told of it
  sent_back : (w : Net CO CI SO SI) (response : Response) (result : Result Response Error) → IsSet w → IsSentFor set.rules result response → (y : Flying) → GivesSo (Some (told_by w.server.state.rules (safe_limit s.out w.server.connection.outbox.half) response)) y
      → IsSentBack set.rules set.limit (some_of result) (y ∷ [])
  sent_back w response result ruled is y gives = record {
    answer = result;
    is = refl;
    outcome = told_by set.rules set.limit response;
    told = (response, is, refl);
    x = y;
    down_is = refl;
    lands = gives ∙ rw (ruled.0, ruled.1) refl;
  }

  -- what is answered is the answer
  is_answer : (b : Birth) (j : ActiveJob) (kind : Bool) (response : Response) → is_stream j.body ≡ kind → IsAnswer (Born b) (answered_work b j kind (Ok (Some response))) response
  is_answer b j kind response e = (j.id, kind, ap (λ (t : Bool). first_act b ∷ Ran j.id t (asked_by t (request_of b)) ∷ Answered kind (Ok (Some response)) ∷ []) e)

  -- a response is sent for it
  sent_answer : (w : Net CO CI SO SI) (x : ServerCore SO SI) (j : ActiveJob) (kind : Bool) (response : Response) (sent : List Sent) → IsSet w → IsResponse response → is_stream j.body ≡ kind
      → Responds w.server.state.rules (safe_limit s.out w.server.connection.outbox.half) j.header.stream_id response sent → SendsAll s.out w.server.connection.outbox sent x.connection.outbox
      → (b : Birth) → j.header.stream_id ≤ last_id → Concludes w x j kind (Born b) (answered_work b j kind (Ok (Some response))) (Ok (Some response))
  sent_answer w x j kind response sent ruled is unary responds sends b within =
      let k : ℕ = j.header.stream_id in
      let done = answered_work b j kind (Ok (Some response)) in
      let given = Some (told_by w.server.state.rules (safe_limit s.out w.server.connection.outbox.half) response) in
      of_flight w x j kind (Born b) done (Ok (Some response)) given (λ y gives one. (sym unary ∙ one, sent_back w response (Ok response) ruled refl y gives))
      (subst (λ (t : MailboxEntry). SendsFlight s.out w.server.connection.outbox (IsAnswering k (Born b) done t given) x.connection.outbox) (same_ending w response ruled)
      (sends_response s.out w.server.connection.outbox w.server.state.rules k response sent x.connection.outbox (Born b) done within is (λ ok. is_answer b j kind response unary) responds sends))

  -- or one to an error
  sent_error : (w : Net CO CI SO SI) (x : ServerCore SO SI) (j : ActiveJob) (kind : Bool) (error : Error) (response : Response) (sent : List Sent) → IsSet w → w.server.state.rules ≡ AsyncRules → is_stream j.body ≡ kind → IsErrorResponse error response → IsResponse response
      → Responds w.server.state.rules (safe_limit s.out w.server.connection.outbox.half) j.header.stream_id response sent → SendsAll s.out w.server.connection.outbox sent x.connection.outbox
      → (b : Birth) → j.header.stream_id ≤ last_id → Concludes w x j kind (Born b) (answered_work b j kind (Err error)) (Err error)
  sent_error w x j kind error response sent ruled async unary why is responds sends b within =
      let k : ℕ = j.header.stream_id in
      let done = answered_work b j kind (Err error) in
      let outcome = told_by w.server.state.rules (safe_limit s.out w.server.connection.outbox.half) response in
      of_flight w x j kind (Born b) done (Err error) (Some outcome)
      (λ y gives one. (sym unary ∙ one, sent_back w response (Err error) ruled (subst (λ (r : Rules). IsSentFor r (Err error) response) (sym async ∙ ruled.0) why) y gives))
      (flight_as (IsRefusing k outcome) (IsAnswering k (Born b) done ThingEnd (Some outcome)) (λ y f. record { down = never_down f.never; goes = λ wanted. f.turned wanted (ThingEnd ∷ []) []; gives = f.gives })
      (sends_refusal s.out w.server.connection.outbox w.server.state.rules k response sent x.connection.outbox within
      (record { is = is; never_ok = λ ok. unknown_never why.0 (subst (λ (r : Response). HasOkStatus r.status) why.2 ok) }) responds sends))

  -- it has no response yet
  none_yet : (w : Net CO CI SO SI) (id : ℕ) (j : ActiveJob) → j.id ≡ id → has_response w id ≡ false → HasNone (around set (has_response w) w.client.state.next) j
  none_yet w id j is none has unary = let bad : true ≡ false = sym has ∙ ap (has_response w) is ∙ none in cc

  -- it is a stream's
  of_stream : (w : Net CO CI SO SI) (j : ActiveJob) → is_stream j.body ≡ true → HasNone (around set (has_response w) w.client.state.next) j
  of_stream w j stream has unary = let bad : true ≡ false = sym stream ∙ unary in cc

  by_answer : (w : Net CO CI SO SI) (event : Event) (id : ℕ) (result : Result (Option Response) Error) (response : Response) (x : ServerCore SO SI) → (i : Kept trace w) → AreRight f w.server.state.jobs.list → IsEnding event id false result
      → (p : Answers s.out w.server id response x) → ((b : Birth) → p.job.header.stream_id ≤ last_id → Concludes w x p.job false (Born b) (answered_work b p.job false result) result) → has_response w id ≡ false
      → Kept (with_entry trace event Done) (with_server w x)
  by_answer w event id result response x i right says p sends none =
      concludes w event id false result x i right says p.job p.ends (none_yet w id p.job p.ends.at.is_job none) sends p.same refl refl refl (λ alive. p.alive)

  -- A handler failed: under sync rules its job is gone, and the connection fails.
  keeps_error : (r : Rules) (w : Net CO CI SO SI) (id : ℕ) (error : Error) (x : ServerCore SO SI) → Kept trace w → IsSet w → w.server.state.rules ≡ r → (r ≡ SyncRules → set.clean → ⊥) → AreRight f w.server.state.jobs.list → AnswersError s.out r w.server id error x → has_response w id ≡ false
      → Kept (with_entry trace (Answer id (Err error)) Done) (with_server w x)
  keeps_error SyncRules w id error x i ruled rules never right p none =
      concludes w (Answer id (Err error)) id false (Err error) x i right (λ k. (refl, refl)) p.job p.ends (none_yet w id p.job p.ends.at.is_job none)
      (λ b within. record { more = []; downs = tt; back = λ clean. absurd (never refl clean); goes = λ wanted. inr refl; sent = λ flights way. rw (ap (λ (y : ServerCore SO SI). y.connection.outbox) p.same, append-nil) way })
      p.same refl refl refl (λ alive. absurd (not_both x.connection.failure HandlerError (ap (λ (y : ServerCore SO SI). y.connection.failure) p.same) alive))
  keeps_error AsyncRules w id error x i ruled rules never right p none =
      let q = p.2 in
      by_answer w (Answer id (Err error)) id (Err error) p.0 x i right (λ k. (refl, refl)) q (sent_error w x q.job false error p.0 q.sent ruled rules q.unary p.1 p.3 q.responds q.sends) none

  -- A job is answered by what its handler gave.
  pub keeps_answer : (w : Net CO CI SO SI) (id : ℕ) (result : Result Response Error) (x : ServerCore SO SI) → Kept trace w → IsSet w → (set.clean → is_clean_answer set.rules (Answer id result) Done ≡ true) → AreRight f w.server.state.jobs.list → AnswersBy c s seals w.server id result x → has_response w id ≡ false
      → Kept (with_entry trace (Answer id result) Done) (with_server w x)
  keeps_answer w id (Ok response) x i ruled clean right p none =
      let q = p.1 in
      by_answer w (Answer id (Ok response)) id (Ok (Some response)) response x i right (λ k. (refl, refl)) q (sent_answer w x q.job false response q.sent ruled p.0 q.unary q.responds q.sends) none
  keeps_answer w id (Err error) x i ruled clean right p none =
      keeps_error w.server.state.rules w id error x i ruled refl
      (λ sync is. let bad : false ≡ true = ap may_be_error (sym (sym ruled.0 ∙ sync)) ∙ clean is in cc) right p none

  -- A stream's job ends by what its handler gave.
  by_end : (w : Net CO CI SO SI) (id : ℕ) (result : Result (Option Response) Error) (x : ServerCore SO SI) → Kept trace w → AreRight f w.server.state.jobs.list → (p : EndsStream s.out w.server id result x)
      → ((b : Birth) → p.job.header.stream_id ≤ last_id → Concludes w x p.job true (Born b) (answered_work b p.job true result) result) → Kept (with_entry trace (EndStream id result) Done) (with_server w x)
  by_end w id result x i right p sends =
      concludes w (EndStream id result) id true result x i right (λ k. (refl, refl)) p.job p.ends (of_stream w p.job p.stream) sends p.same refl refl refl (λ alive. p.alive)

  pub keeps_end : (w : Net CO CI SO SI) (id : ℕ) (result : Result (Option Response) Error) (x : ServerCore SO SI) → Kept trace w → IsSet w → AreRight f w.server.state.jobs.list → EndsStream s.out w.server id result x → IsEnd c s seals result
      → Kept (with_entry trace (EndStream id result) Done) (with_server w x)
  keeps_end w id (Ok None) x i ruled right p is =
      let k : ℕ = p.job.header.stream_id in
      by_end w id (Ok None) x i right p (λ b within. of_flight w x p.job true (Born b) (answered_work b p.job true (Ok None)) (Ok None) None (λ y gives one. let bad : true ≡ false = sym p.stream ∙ one in cc)
      (flight_as (IsGoing k ThingEnd) (IsAnswering k (Born b) (answered_work b p.job true (Ok None)) ThingEnd None) (λ y g. record { down = never_down g.never; goes = g.goes; gives = tt })
      (sends_close s.out w.server.connection.outbox k p.sends.0 x.connection.outbox within p.sends.1 p.sends.2)))
  keeps_end w id (Ok (Some response)) x i ruled right p is =
      by_end w id (Ok (Some response)) x i right p
      (sent_answer w x p.job true response p.sends.0 ruled is p.stream (rw p.rules p.sends.1) p.sends.2)
  keeps_end w id (Err error) x i ruled right p is =
      let q = p.sends.2 in
      by_end w id (Err error) x i right p
      (sent_error w x p.job true error p.sends.0 q.0 ruled p.rules p.stream p.sends.1 p.sends.3 (rw p.rules q.1) q.2)

  -- ---- a response is queued for a job, which goes on

  pub keeps_respond : (w : Net CO CI SO SI) (id : ℕ) (response : Response) (v : Net CO CI SO SI) → Kept trace w → IsSet w → AreRight f w.server.state.jobs.list → RespondsTo c s seals w id response v
      → Kept (with_entry trace (Respond id response) Done) (record (with_server w v.server) { responded = w.responded ++ id ∷ [] })
  keeps_respond w id response v i ruled right p =
      let x = v.server in
      let at = p.awaits.at in
      let j = p.awaits.job in
      let k : ℕ = j.header.stream_id in
      let t = with_entry trace (Respond id response) Done in
      let a = is_at f w.server.state.jobs.list id j right at in
      let had2 : ℕ → Bool = λ job. list_any (λ n. nat_eq n job) (w.responded ++ id ∷ []) in
      let later : (n : ℕ) → Later (around set (has_response w) w.client.state.next) (around set had2 w.client.state.next) n = λ n. record { set = refl; young = λ y. y; had = λ m h. list_any-append (λ q. nat_eq q m) w.responded (id ∷ []) ∙ or_left _ _ h } in
      let same : x.state ≡ w.server.state = ap (λ (y : ServerCore SO SI). y.state) p.does.same in
      let is : (n : ℕ) → jobs_at x.state.jobs.list n ≡ jobs_at w.server.state.jobs.list n = λ n. ap (λ (y : Server). jobs_at y.jobs.list n) same in
      let running = running_of (jobs_at at.front k) (jobs_at at.back k) j (i.stories k) a.own at.taken (none_yet w id j at.is_job p.awaits.none_yet) in
      let unary : is_stream j.body ≡ false = running.known.server.is_work.kind (sym ruled.0 ∙ p.rules) in
      let done = answered_work running.b j false (Ok (Some response)) in
      let r = sends_response s.out w.server.connection.outbox w.server.state.rules k response p.does.sent x.connection.outbox (Born running.b) done running.known.server.within p.is_response
      (λ ok. is_answer running.b j false response unary) p.does.responds p.does.sends in
      server_changes w t x (w.responded ++ id ∷ []) (i.down ++ r.y ∷ []) i
      (at_one (PlaceOf w had2 t i.up (i.down ++ r.y ∷ []) x.state.jobs.list) k
      (elsewhere (unchanged (around set had2 w.client.state.next) k) (responds_here j response r.y running (later k) (list_any-append (λ m. nat_eq m j.id) w.responded (id ∷ []) ∙ or_right _ _ (or_left _ _ (eq-eqb id j.id (sym at.is_job)))) unary r.is.down (subst (λ (t : MailboxEntry). IsSentAs t r.y) (same_ending w response ruled) r.is.goes) (sym ruled.0 ∙ p.rules) (λ one. (refl, sent_back w response (Ok response) ruled refl r.y r.is.gives)))
      (heard (act_of f k) k (f id) trace (Respond id response) Done (Answered false (Ok (Some response))) refl a.stream) (heard (flow_of f k) k (f id) trace (Respond id response) Done (EndedDown (Ok (Some response))) refl a.stream)
      refl (is k) (pushed_own id_of k r.y i.down r.is.down.stream) refl refl)
      (λ n e. elsewhere (later n) (i.stories n) (unheard (act_of f n) n (f id) trace (Respond id response) Done (Answered false (Ok (Some response))) refl (λ h. e (sym a.stream ∙ h)))
      (unheard (flow_of f n) n (f id) trace (Respond id response) Done (EndedDown (Ok (Some response))) refl (λ h. e (sym a.stream ∙ h)))
      refl (is n) (pushed_other id_of n r.y i.down (λ h. e (sym r.is.down.stream ∙ h))) refl refl))
      p.does.same refl refl refl (λ alive. p.does.alive) (joins s.out c.in_ w.server.connection.outbox x.connection.outbox w.client.connection w.down i.down r.y r.queue r.seal r.sound i.downward)

  -- ---- events that say nothing of an id

  -- A job ends, and nothing is queued.
  pub keeps_finish : (w : Net CO CI SO SI) (id : ℕ) (x : ServerCore SO SI) → Kept trace w → Finishes w.server id x → Kept (with_entry trace (Finish id) Done) (with_server w x)
  keeps_finish w id x i p =
      let j = p.job in
      let k : ℕ = j.header.stream_id in
      let own : jobs_at w.server.state.jobs.list k ≡ jobs_at p.ends.at.front k ++ j ∷ jobs_at p.ends.at.back k = ap (λ js. jobs_at js k) p.ends.at.is ∙ between_own stream_id_of k p.ends.at.front p.ends.at.back j refl in
      keeps_still c s set f trace (with_server w x) (Finish id) Done (λ n. (refl, refl)) (server_changes w trace x w.responded i.down i
      (at_one (PlaceOf w (has_response w) trace i.up i.down x.state.jobs.list) k
      (elsewhere (as_was w k) (ends_here (jobs_at p.ends.at.front k) (jobs_at p.ends.at.back k) j [] (i.stories k) own tt tt (λ clean. inl (refl, p.ends.at.taken))) refl refl refl (gone_at w.server.state.jobs.list id j x.state.jobs.list p.ends k) (sym (append-nil (parcels k i.down))) refl refl)
      (λ n e. elsewhere (as_was w n) (i.stories n) refl refl refl (gone_others w.server.state.jobs.list id j x.state.jobs.list p.ends n e) refl refl refl))
      p.same refl refl refl (λ alive. p.alive) (rw p.same i.downward))

  -- the jobs change, and nothing else of the server
  jobs_change : (w : Net CO CI SO SI) (t : List Entry) (x : ServerCore SO SI) → (i : Kept trace w) → counts x.state.jobs ≡ counts w.server.state.jobs → x.connection ≡ w.server.connection
      → Stories set (has_response w) f t i.up i.down x.state.jobs.list w.client.state → Kept t (with_server w x)
  jobs_change w t x i last connection stories =
      server_changes w t x w.responded i.down i stories refl last (ap (λ d. d.decoder) connection) (ap (λ d. d.inbound) connection) (λ alive. ap (λ d. d.failure) (sym connection) ∙ alive) (rw connection i.downward)

  -- what a receiver is told, by its mailbox
  hears_box : (w : Net CO CI SO SI) (id : ℕ) (given : Option (Result (List ℕ) Error)) (new : List ActiveJob) → (i : Kept trace w) → AreRight f w.server.state.jobs.list → IsPlainFailure w.server.connection.failure
      → ReceivesFrom w.server.connection.failure w.server.state.jobs.list id (Some given) new → Stories set (has_response w) f (with_entry trace (Recv (ServerEnd id)) (Item given)) i.up i.down new w.client.state
  hears_box w id given new i right plain p =
      let jobs : List ActiveJob = w.server.state.jobs.list in
      let event = Recv (ServerEnd id) in
      let k : ℕ = f id in
      let change : Mail → Mail = λ _. p.1 in
      let g = changed_at id change in
      let m = mailed (job_at jobs id) p.0 p.2 in
      let j = m.0 in
      let at = job_is jobs id j m.1 in
      let stream : j.header.stream_id ≡ k = sym (ap f (sym at.3) ∙ all_at (λ (x : ActiveJob). f x.id ≡ x.header.stream_id) at.0 at.1 j (subst (λ (js : List ActiveJob). AreRight f js) at.2 right)) in
      let own : jobs_at jobs k ≡ jobs_at at.0 k ++ j ∷ jobs_at at.1 k = ap (λ js. jobs_at js k) at.2 ∙ between_own stream_id_of k at.0 at.1 j stream in
      let now : (g j).body ≡ StreamBody p.1 = ap (λ (b : Bool). (if b then record j { body = with_mail change j.body } else j).body) (eq-eqb j.id id at.3) ∙ ap (with_mail change) m.2 in
      at_one (PlaceOf w (has_response w) (with_entry trace event (Item given)) i.up i.down new) k
      (elsewhere (as_was w k) (hears_up_here g (at_stays id change) (jobs_at at.0 k) (jobs_at at.1 k) j w.server.connection.failure p.0 p.1 given (i.stories k) own m.2 now plain p.3) (silent (act_of f k) trace event (Item given) refl)
      (told (flow_of f k) k k trace event HeardUp given refl (λ word. refl) refl) refl (ap (λ js. jobs_at js k) p.4 ∙ mapped_at g (at_stays id change) jobs k) refl refl refl)
      (λ n e. elsewhere (as_was w n) (i.stories n) (silent (act_of f n) trace event (Item given) refl) (untold (flow_of f n) n k trace event HeardUp given refl (λ word. refl) e)
      refl (ap (λ js. jobs_at js n) p.4 ∙ untouched f n id change jobs right e) refl refl refl)

  -- or beside any
  hears_aside : (w : Net CO CI SO SI) (id : ℕ) (told : Error) (given : Option (Result (List ℕ) Error)) (new : List ActiveJob) → (i : Kept trace w) → IsPlain told → given ≡ Some (Err told) → new ≡ w.server.state.jobs.list
      → Stories set (has_response w) f (with_entry trace (Recv (ServerEnd id)) (Item given)) i.up i.down new w.client.state
  hears_aside w id error given new i plain is same =
      let event = Recv (ServerEnd id) in
      let k : ℕ = f id in
      let reply = Item (Some (Err error)) in
      subst (λ (g : Option (Result (List ℕ) Error)). Stories set (has_response w) f (with_entry trace event (Item g)) i.up i.down new w.client.state) (sym is)
      (at_one (PlaceOf w (has_response w) (with_entry trace event reply) i.up i.down new) k
      (elsewhere (as_was w k) (errs_up_here error plain (i.stories k)) (silent (act_of f k) trace event reply refl) (heard (flow_of f k) k k trace event reply (HeardUp (Err error)) refl refl) refl (ap (λ js. jobs_at js k) same) refl refl refl)
      (λ n e. elsewhere (as_was w n) (i.stories n) (silent (act_of f n) trace event reply refl) (unheard (flow_of f n) n k trace event reply (HeardUp (Err error)) refl e) refl (ap (λ js. jobs_at js n) same) refl refl refl))

  hears_by : (r : Rules) (w : Net CO CI SO SI) (id : ℕ) (given : Option (Result (List ℕ) Error)) (new : List ActiveJob) → (i : Kept trace w) → AreRight f w.server.state.jobs.list → IsPlainFailure w.server.connection.failure
      → ReceivesBy r w.server.connection.failure w.server.state id given new → Stories set (has_response w) f (with_entry trace (Recv (ServerEnd id)) (Item given)) i.up i.down new w.client.state
  hears_by SyncRules w id given new i right plain p = hears_aside w id p.0.0 given new i (told_plain (Others (codes "wrong rules for this call")) p.0.0 (λ m. refl) p.0.1.is_told) p.0.2 p.1
  hears_by AsyncRules w id given new i right plain (inl p) = hears_box w id given new i right plain p
  hears_by AsyncRules w id given new i right plain (inr p) =
      hears_aside w id p.0.1 given new i (told_plain p.0.0 p.0.1 (aside_plain (job_at w.server.state.jobs.list id) (was_made w.server.state.jobs id) p.0.0 p.0.2) p.0.3) p.0.4 p.1

  -- An item is asked for.
  pub keeps_recv_up : (w : Net CO CI SO SI) (id : ℕ) (given : Option (Result (List ℕ) Error)) (x : ServerCore SO SI) → Kept trace w → AreRight f w.server.state.jobs.list → IsPlainFailure w.server.connection.failure → JobReceives w.server id given x
      → Kept (with_entry trace (Recv (ServerEnd id)) (Item given)) (with_server w x)
  keeps_recv_up w id given x i right plain p =
      jobs_change w (with_entry trace (Recv (ServerEnd id)) (Item given)) x i (ap (λ (y : ServerCore SO SI). counts y.state.jobs) p.same) (ap (λ (y : ServerCore SO SI). y.connection) p.same)
      (hears_by w.server.state.rules w id given x.state.jobs.list i right plain p.own)

  -- A receiver is dropped.
  pub keeps_unheard_up : (w : Net CO CI SO SI) (id : ℕ) → Kept trace w → (set.clean → ⊥) → Kept (with_entry trace (DropReceiver (ServerEnd id)) Done) (with_server w (unheard_of w.server id))
  keeps_unheard_up w id i never =
      let event = DropReceiver (ServerEnd id) in
      let g = changed_at id without_receiver in
      jobs_change w (with_entry trace event Done) (unheard_of w.server id) i refl refl
      (λ n. elsewhere (as_was w n) (unheard_up_here g (at_stays id without_receiver) (deaf id) (i.stories n) never) (silent (act_of f n) trace event Done refl) (silent (flow_of f n) trace event Done refl) refl
      (mapped_at g (at_stays id without_receiver) w.server.state.jobs.list n) refl refl refl)

  -- The server takes no more.
  pub keeps_drain : (w : Net CO CI SO SI) → Kept trace w → Kept (with_entry trace Drain Done) (with_server w (drained w.server))
  keeps_drain w i = keeps_still c s set f trace (with_server w (drained w.server)) Drain Done (λ k. (refl, refl)) (record { up = i.up; down = i.down; stories = i.stories; numbers = i.numbers; own = i.own; upward = i.upward; downward = i.downward })

  -- An item is sent on the stream of a job.
  pub keeps_send_up : (w : Net CO CI SO SI) (id : ℕ) (item : List ℕ) (ticket : ℕ) (x : ServerCore SO SI) → Kept trace w → AreRight f w.server.state.jobs.list → SendsItem s.out w.server id item ticket x
      → Kept (with_entry trace (Send (ServerEnd id) item) (Ticket ticket)) (with_server w x)
  keeps_send_up w id item ticket x i right p =
      let event = Send (ServerEnd id) item in
      let reply = Ticket ticket in
      let t = with_entry trace event reply in
      let j = p.job in
      let k : ℕ = j.header.stream_id in
      let at = job_is w.server.state.jobs.list id j p.at in
      let stream : f id ≡ k = ap f (sym at.3) ∙ all_at (λ (x : ActiveJob). f x.id ≡ x.header.stream_id) at.0 at.1 j (subst (λ (js : List ActiveJob). AreRight f js) at.2 right) in
      let own : jobs_at w.server.state.jobs.list k ≡ jobs_at at.0 k ++ j ∷ jobs_at at.1 k = ap (λ js. jobs_at js k) at.2 ∙ between_own stream_id_of k at.0 at.1 j refl in
      let within = job_within (jobs_at at.0 k) (jobs_at at.1 k) j (i.stories k) own in
      let r = flight_as (IsData k 0 item) (IsGoing k (ThingItem item)) (λ y d. item_going d) (sends_data s.out w.server.connection.outbox k 0 ticket item x.connection.outbox within (omega arith) p.sends) in
      let same : x.state ≡ w.server.state = ap (λ (y : ServerCore SO SI). y.state) p.same in
      let is : (n : ℕ) → jobs_at x.state.jobs.list n ≡ jobs_at w.server.state.jobs.list n = λ n. ap (λ (y : Server). jobs_at y.jobs.list n) same in
      server_changes w t x w.responded (i.down ++ r.y ∷ []) i
      (at_one (PlaceOf w (has_response w) t i.up (i.down ++ r.y ∷ []) x.state.jobs.list) k
      (elsewhere (as_was w k) (sends_down_here (jobs_at at.0 k) (jobs_at at.1 k) j item r.y (i.stories k) own p.stream r.is.never r.is.goes) (silent (act_of f k) trace event reply refl) (heard (flow_of f k) k (f id) trace event reply (SentDown item) refl stream)
      refl (is k) (pushed_own id_of k r.y i.down r.is.never.stream) refl refl)
      (λ n e. elsewhere (as_was w n) (i.stories n) (silent (act_of f n) trace event reply refl) (unheard (flow_of f n) n (f id) trace event reply (SentDown item) refl (λ h. e (sym stream ∙ h)))
      refl (is n) (pushed_other id_of n r.y i.down (λ h. e (sym r.is.never.stream ∙ h))) refl refl))
      p.same refl refl refl (λ alive. p.alive) (joins s.out c.in_ w.server.connection.outbox x.connection.outbox w.client.connection w.down i.down r.y r.queue r.seal r.sound i.downward)

  -- ---- jobs expire

  -- no call that waits is due
  abbrev pub NoneIsDue : Net CO CI SO SI → ℕ → Type 0
  NoneIsDue w now = (k : ℕ) (d : Option ℕ) → call_at w.client.state k ≡ Some (Waiting d) → reaches now d ≡ false

  -- what jobs that expire leave of a state and an outbox
  record Expired (w : Net CO CI SO SI) (up down : List Flying) (from : Outbox SO) (new : Server) (to : Outbox SO) : Type 0 where
    more : List Flying
    stories : Stories set (has_response w) f trace up (down ++ more) new.jobs.list w.client.state
    sent : (flights : List Flying) → OneWay s.out c.in_ from w.client.connection w.down flights → OneWay s.out c.in_ to w.client.connection w.down (flights ++ more)

  expires : (w : Net CO CI SO SI) (now : ℕ) (up down : List Flying) (old : Server) (from : Outbox SO) (expired : List ActiveJob) (new : Server) (to : Outbox SO) → Stories set (has_response w) f trace up down old.jobs.list w.client.state
      → (set.clean → NoneIsDue w now) → AllByRecursion (λ (j : ActiveJob). is_due now j ≡ true) expired → ExpireAll s.out old from expired new to → Expired w up down from new to
  expires w now up down old from [] new to stories undue due e = record {
    more = [];
    stories = subst (λ (t : Server). Stories set (has_response w) f trace up (down ++ []) t.jobs.list w.client.state) (sym e.0)
        (subst (λ (d : List Flying). Stories set (has_response w) f trace up d old.jobs.list w.client.state) (sym (append-nil down)) stories);
    sent = λ flights way. rw (e.1, append-nil) way;
  }
  expires w now up down old from (j ∷ js) new to stories undue due e =
      let mid = e.0 in
      let one = e.2 in
      let k : ℕ = j.header.stream_id in
      let list : mid.jobs.list ≡ one.at.front ++ one.at.back = ap (λ (t : Server). t.jobs.list) one.state in
      let own : jobs_at old.jobs.list k ≡ jobs_at one.at.front k ++ j ∷ jobs_at one.at.back k = ap (λ xs. jobs_at xs k) one.at.is ∙ between_own stream_id_of k one.at.front one.at.back j refl in
      let within = job_within (jobs_at one.at.front k) (jobs_at one.at.back k) j (stories k) own in
      let r = own_refers c s old.rules k timeout_response one.sent from e.1 within too_late one.answers one.sends in
      let first : Stories set (has_response w) f trace up (down ++ r.more) mid.jobs.list w.client.state =
      at_one (PlaceOf w (has_response w) trace up (down ++ r.more) mid.jobs.list) k
      (elsewhere (as_was w k) (ends_here (jobs_at one.at.front k) (jobs_at one.at.back k) j r.more (stories k) own r.never r.turned (λ clean. inr (too_soon now (call_at w.client.state k) j due.0 (undue clean k)))) refl refl refl (ap (λ xs. jobs_at xs k) list ∙ under_both stream_id_of k one.at.front one.at.back) (behind_own (IsNever k) k (λ y d. d.stream) down r.more r.never) refl refl)
      (λ n d. elsewhere (as_was w n) (stories n) refl refl refl
      (ap (λ xs. jobs_at xs n) list ∙ sym (ap (λ xs. jobs_at xs n) one.at.is ∙ not_here n one.at.front one.at.back j d)) (behind_other (IsNever k) k n (λ y d. d.stream) down r.more r.never d) refl refl) in
      let later = expires w now up (down ++ r.more) mid e.1 js new to first undue due.1 e.3 in
      record {
        more = r.more ++ later.more;
        stories = subst (λ (d : List Flying). Stories set (has_response w) f trace up d new.jobs.list w.client.state) (append_assoc down r.more later.more) later.stories;
        sent = λ flights way. rw (← append_assoc) (later.sent (flights ++ r.more) (r.sent w.client.connection w.down flights way));
      }

  -- A moment comes for the server.
  pub keeps_ticks : (r : Rules) (failure : Option Failure) (w : Net CO CI SO SI) (now : ℕ) (x : ServerCore SO SI) → w.server.connection.failure ≡ failure → Kept trace w → (set.clean → NoneIsDue w now) → ServerPasses s.out r failure w.server now x → Kept trace (with_server w x)
  keeps_ticks SyncRules failure w now x is i undue same = subst (λ (y : ServerCore SO SI). Kept trace (with_server w y)) (sym same) i
  keeps_ticks AsyncRules None w now x alive i undue p =
      let due = all_in_front (λ (j : ActiveJob). is_due now j ≡ true) p.expired p.left (subst (λ (js : List ActiveJob). AllByRecursion (λ (j : ActiveJob). is_due now j ≡ true) js) p.due (all_due now w.server.state.jobs.list)) in
      let e = expires w now i.up i.down w.server.state w.server.connection.outbox p.expired x.state x.connection.outbox i.stories undue due p.expire in
      let last = expired_so s.out (λ a x b y. counts b.jobs ≡ counts a.jobs) (λ a x. refl) (λ a b d x y z job one later. later ∙ ap (λ (u : Server). counts u.jobs) one.state) p.expired w.server.state w.server.connection.outbox x.state x.connection.outbox p.expire in
      server_changes w trace x w.responded (i.down ++ e.more) i e.stories p.same last refl refl (λ lives. alive) (e.sent i.down i.downward)
  keeps_ticks AsyncRules (Some why) w now x is i undue same = subst (λ (y : ServerCore SO SI). Kept trace (with_server w y)) (sym same) i
