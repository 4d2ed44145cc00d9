-- One frame, fed to the echo and answered.
use Rattle.std.proofs.Common.{◌≡◌, ◌≢◌, inl, inr, ℕ, ◌+◌, ◌-◌, ◌<◌, ◌≤◌, List, [], ◌∷◌, ◌++◌, length, drop, refl, sym, ap, subst, ◌∙◌, Option, Some, None, true, false, arith, length-append, append_assoc, take}
use Rattle.std.proofs.lemmas.Option.{same_Some}
use Rattle.std.proofs.lemmas.List.{append-nil, drop-append-le, length-drop, take-append-drop}
use Rattle.std.proofs.lemmas.Grind.{flat_map-append}
use Rattle.ttrpc_proto.specs.declared.framing.header.MessageHeader.{MessageHeader}
use Rattle.ttrpc_proto.specs.declared.framing.header.TheConstants.{MESSAGE_LENGTH_MAX}
use Rattle.ttrpc_proto.specs.declared.messages.Request.{Request}
use Rattle.ttrpc_proto.specs.declared.messages.Response.{Response}
use Rattle.ttrpc_proto.specs.Messages.{empty_request, request_step}
use Rattle.ttrpc_wire.specs.Fold.{read_from}
use Rattle.ttrpc_proto.specs.Framing.Header.{header_bytes}
use Rattle.ttrpc_proto.specs.declared.framing.frame.Incoming.{Incoming}
use Rattle.ttrpc_proto.specs.declared.framing.frame.Incoming.TheVariants.{Frame, Oversize}
use Rattle.ttrpc_proto.specs.declared.framing.outgoing.Queued.{Queued}
use Rattle.ttrpc_proto.specs.Framing.Frames.{Held, Fed, given}
use Rattle.ttrpc_proto.specs.Framing.Queue.{Queue, IsQueue, IsWithin, unsent, with_frame, with_payload, written, written_all}
use Rattle.ttrpc_proto.proofs.Queues.{with_frame_is_queue, written_is}
use Rattle.ttrpc_secure.specs.declared.plain.Plain.{Plain}
use Rattle.ttrpc_connection.specs.declared.arrived.Arrived.{Arrived}
use Rattle.ttrpc_connection.specs.declared.arrived.InboundResult.{InboundResult}
use Rattle.ttrpc_connection.specs.declared.arrived.InboundResult.TheVariants.{TooLong, Opened, Refused}
use Rattle.ttrpc_connection.specs.Outbox.{Outbox}
use Rattle.ttrpc_connection.specs.Feeds.{Acts, ActsAll, Scene, arrived, scene}
use Rattle.ttrpc_connection.specs.Frames.{Opens, Sent, SendsAll, SendsOne, header_of_frame}
use Rattle.ttrpc_connection.proofs.Feeding.{fed_twice, nothing_taken}
use Rattle.ttrpc_server.specs.declared.job.ActiveJob.{ActiveJob}
use Rattle.ttrpc_server.specs.declared.server.ServerCore.{ServerCore}
use Rattle.ttrpc_server.specs.Protocol.{Does, serving, IsResponseFrame, SendsOwnAnswer, Responds, case_in, fit_to_limit, response_bytes, row_of, seen_by}
use Rattle.ttrpc_server.specs.Table.{Row, Ignore, SendResponse, SendCode, MakeJob, MakeStream, PutIn, case_of, case_row, newest_after, request_row, sync_row}
use Rattle.ttrpc_server.specs.declared.rows.Case.{Case}
use Rattle.ttrpc_server.specs.declared.rows.Case.TheVariants.{Asks}
use Rattle.ttrpc_server.specs.declared.rows.StreamIdState.TheVariants.{Absent}
use Rattle.ttrpc_server.specs.declared.rules.Rules.{Rules}
use Rattle.ttrpc_server.specs.declared.rules.Rules.TheVariants.{Sync}
use Rattle.ttrpc_server.proofs.Streams.{is_of_streams, no_streams, row_of_sync}
use Rattle.ttrpc_server.proofs.RowLeaves.{row_leaves}
use Rattle.ttrpc_server.specs.State.{NoneWaits, new_job, told_left, unary_body, with_job, with_newest, Services, Server}
use Rattle.ttrpc_echo.specs.Echo.{AreAnswers, HasEcho, IsAnswer, Says, echo_of, echo_services, framed, plainly, said_bytes}
use Rattle.ttrpc_echo.specs.Serving.{plain_in, plain_out, IsReady, Echoes, Serves}
use Rattle.ttrpc_echo.proofs.Limits.{fitted_fits}

-- with plain halves a frame is opened as it is
pub opened_plainly : (s t : Plain) (f : Incoming) (o : InboundResult) → Opens plain_in s f o t → o ≡ plainly f
opened_plainly s t (Oversize h) o opens = opens.0
opened_plainly s t (Frame m) TooLong opens = absurd opens
opened_plainly s t (Frame m) (Opened plain) opens = ap (λ p. Opened p) opens.0
opened_plainly s t (Frame m) (Refused why) opens = absurd opens.0

-- a response frame with a payload, as it is written
written_framed : (k : ℕ) (f : Queued) (payload : List ℕ) → IsResponseFrame k f → written (with_payload f payload).message ≡ framed k payload
written_framed k f payload is = written_is _ ∙ ap (λ (h : MessageHeader). header_bytes h ++ payload) (rw (is.stream_id, is.type_, is.flags) refl)

-- what is unsent of a queue with a frame more
bytes_more : (fs : List Queued) (r : ℕ) (f : Queued) → IsWithin fs r → drop r (written_all (fs ++ f ∷ [])) ≡ drop r (written_all fs) ++ written f.message
bytes_more [] r f within = rw within (append-nil (written f.message))
bytes_more (g ∷ gs) r f within =
    let all = written_all (g ∷ gs) in
    let inside : r ≤ length all = omega (arith, within, length-append (written g.message) (written_all gs)) in
    ap (λ xs. drop r xs) (flat_map-append (λ (x : Queued). written x.message) (g ∷ gs) (f ∷ []) ∙ ap (λ xs. all ++ xs) (append-nil (written f.message)))
    ∙ drop-append-le r all (written f.message) inside

-- a queue with these bytes more to write
record Adds (q r : Queue) (bytes : List ℕ) : Type 0 where
  more : unsent r ≡ unsent q ++ bytes
  valid : IsQueue r

adds_nothing : (q r : Queue) → IsQueue q → r ≡ q → Adds q r []
adds_nothing q r valid same = record {
  more = ap unsent same ∙ sym (append-nil (unsent q));
  valid = subst IsQueue (sym same) valid;
}

adds_frame : (q r : Queue) (f : Queued) (bytes : List ℕ) → IsQueue q → r ≡ with_frame q f → written f.message ≡ bytes → Adds q r bytes
adds_frame q r f bytes valid is same = record {
  more = ap unsent is ∙ bytes_more q.frames q.reported f valid.within ∙ ap (λ xs. unsent q ++ xs) same;
  valid = subst IsQueue (sym is) (with_frame_is_queue q f valid);
}

-- nothing was sent
none_adds : (old new : Outbox Plain) (sent : List Sent) → IsQueue old.queue → sent ≡ [] → SendsAll plain_out old sent new → Adds old.queue new.queue []
none_adds old new sent valid none sends =
    let same : new ≡ old = subst (λ (xs : List Sent). SendsAll plain_out old xs new) none sends in
    adds_nothing old.queue new.queue valid (ap (λ (o : Outbox Plain). o.queue) same)

responds_adds : (old new : Outbox Plain) (k : ℕ) (r : Response) (sent : List Sent) → IsQueue old.queue → Responds Sync MESSAGE_LENGTH_MAX k r sent → SendsAll plain_out old sent new
    → Adds old.queue new.queue (said_bytes k (Some r))
responds_adds old new k r sent valid responds sends =
    let bytes = response_bytes (fit_to_limit MESSAGE_LENGTH_MAX r) in
    let all = subst (λ (xs : List Sent). SendsAll plain_out old xs new) responds.is sends in
    let one : SendsOne plain_out old responds.frame bytes new = subst (λ (o : Outbox Plain). SendsOne plain_out old responds.frame bytes o) (sym all.2) all.1 in
    adds_frame old.queue new.queue (with_payload responds.frame one.sealed) (said_bytes k (Some r)) valid one.queue
    (written_framed k responds.frame one.sealed responds.is_frame ∙ ap (framed k) one.seal.0)

-- nothing is left out
refers_adds : (old new : Outbox Plain) (k : ℕ) (r : Response) (sent : List Sent) → IsQueue old.queue → SendsOwnAnswer Sync plain_out old.half k r sent → SendsAll plain_out old sent new
    → Adds old.queue new.queue (said_bytes k (Some r))
refers_adds old new k r sent valid (inl responds) sends = responds_adds old new k r sent valid responds sends
refers_adds old new k r sent valid (inr out) sends = absurd (elim out.1 [
  | inl above ↦ omega (arith, fitted_fits r, above)
  | inr unsealed ↦ unsealed.1.refuses
])

-- ---- the echo of a job

pub no_more : (front back : List ActiveJob) (x : ActiveJob) → [] ≡ front ++ x ∷ back → ⊥
no_more [] back x e = absurd cc
no_more (a ∷ front) back x e = absurd cc

pub some_is_not_none : {X : Type 0} (x : X) → Some x ≡ None → ⊥
some_is_not_none x e = absurd cc

first_of_one : (j : ActiveJob) (front back : List ActiveJob) (x : ActiveJob) → j ∷ [] ≡ front ++ x ∷ back → (front ≡ []) × (x ≡ j) × (back ≡ [])
first_of_one j [] back x e = (refl, cc, cc)
first_of_one j (a ∷ front) back x e = absurd (no_more front back x cc)

-- ---- one frame

pub no_job : (mid new : ServerCore Plain Plain) → mid.state.jobs.list ≡ [] → Echoes mid new → new ≡ mid
no_job mid new none (inl same) = same.0
no_job mid new none (inr e) = absurd (no_more e.hands.hands.front e.hands.hands.back e.hands.hands.job (sym none ∙ e.hands.hands.was))

-- a frame was answered
record Done (f : Incoming) (old mid new : ServerCore Plain Plain) : Type 0 where
  answers : List ℕ
  is_answer : IsAnswer f answers
  adds : Adds old.connection.outbox.queue new.connection.outbox.queue answers
  jobs : new.state.jobs.list ≡ []
  rules : new.state.rules ≡ Sync
  takes : new.state.draining ≡ false
  services : HasEcho new.state.services
  alive : new.connection.failure ≡ None
  held : new.connection.decoder ≡ mid.connection.decoder
  last_job : new.state.jobs.last ≤ old.state.jobs.last + 1

done_quiet : (f : Incoming) (said : Option Response) (old mid new : ServerCore Plain Plain) → IsReady old → Says (sync_row echo_services (header_of_frame f) (plainly f)) said
    → mid.state ≡ old.state → mid.connection.failure ≡ None
    → Adds old.connection.outbox.queue mid.connection.outbox.queue (said_bytes ((header_of_frame f).stream_id) said) → Echoes mid new → Done f old mid new
done_quiet f said old mid new ready says state alive adds echoes =
    let jobs : mid.state.jobs.list ≡ [] = ap (λ (s : Server). s.jobs.list) state ∙ ready.jobs in
    let same : new ≡ mid = no_job mid new jobs echoes in
    record {
      answers = said_bytes ((header_of_frame f).stream_id) said;
      is_answer = record { said = said; says = says; bytes_are = refl };
      adds = subst (λ (x : ServerCore Plain Plain). Adds old.connection.outbox.queue x.connection.outbox.queue (said_bytes ((header_of_frame f).stream_id) said)) (sym same) adds;
      jobs = ap (λ (x : ServerCore Plain Plain). x.state.jobs.list) same ∙ jobs;
      rules = ap (λ (x : ServerCore Plain Plain). x.state.rules) same ∙ ap (λ (s : Server). s.rules) state ∙ ready.rules;
      takes = ap (λ (x : ServerCore Plain Plain). x.state.draining) same ∙ ap (λ (s : Server). s.draining) state ∙ ready.takes;
      services = subst HasEcho (sym (ap (λ (x : ServerCore Plain Plain). x.state.services) same ∙ ap (λ (s : Server). s.services) state)) ready.services;
      alive = ap (λ (x : ServerCore Plain Plain). x.connection.failure) same ∙ alive;
      held = ap (λ (x : ServerCore Plain Plain). x.connection.decoder) same;
      last_job = omega (arith, ap (λ (x : ServerCore Plain Plain). x.state.jobs.last) same ∙ ap (λ (s : Server). s.jobs.last) state);
    }

done_known : (now : ℕ) (f : Incoming) (request : Request) (old mid new : ServerCore Plain Plain) → IsReady old → Says (sync_row echo_services (header_of_frame f) (plainly f)) (Some (echo_of request))
    → mid.state ≡ record old.state { jobs = with_job old.state.jobs (header_of_frame f) request (unary_body old.state.rules now request); expired = told_left old.state.jobs.list old.state.expired } → mid.connection.outbox ≡ old.connection.outbox → mid.connection.failure ≡ None → Echoes mid new → Done f old mid new
done_known now f request old mid new ready says makes quiet alive (inl same) =
    let job = new_job (old.state.jobs.last + 1) (header_of_frame f) request (unary_body old.state.rules now request) in
    let jobs : mid.state.jobs.list ≡ job ∷ [] = ap (λ (s : Server). s.jobs.list) makes ∙ ap (λ js. js ++ job ∷ []) ready.jobs in
    let waits = subst NoneWaits jobs same.1 in
    absurd (some_is_not_none request waits.0)
done_known now f request old mid new ready says makes quiet alive (inr e) =
    let job = new_job (old.state.jobs.last + 1) (header_of_frame f) request (unary_body old.state.rules now request) in
    let jobs : mid.state.jobs.list ≡ job ∷ [] = ap (λ (s : Server). s.jobs.list) makes ∙ ap (λ js. js ++ job ∷ []) ready.jobs in
    let hands = e.hands.hands in
    let one = first_of_one job hands.front hands.back hands.job (sym jobs ∙ hands.was) in
    let asked : e.job.request ≡ request = same_Some e.job.request request (sym hands.request ∙ ap (λ (j : ActiveJob). j.request) one.1) in
    let taken = record hands.job { request = None } in
    let left : e.mid.state.jobs.list ≡ taken ∷ [] = hands.jobs ∙ ap (λ js. js ++ taken ∷ hands.back) one.0 ∙ ap (λ js. taken ∷ js) one.2 in
    let at = e.answers.ends.at in
    let gone = first_of_one taken at.front at.back e.answers.job (sym left ∙ at.is) in
    let stream : e.answers.job.header.stream_id ≡ (header_of_frame f).stream_id = ap (λ (j : ActiveJob). j.header.stream_id) gone.1 ∙ ap (λ (j : ActiveJob). j.header.stream_id) one.1 in
    let same : e.mid.connection.outbox ≡ old.connection.outbox = ap (λ (x : ServerCore Plain Plain). x.connection.outbox) e.hands.same ∙ quiet in
    let queue : e.mid.connection.outbox.queue ≡ old.connection.outbox.queue = ap (λ (o : Outbox Plain). o.queue) same in
    let rules : e.mid.state.rules ≡ Sync = ap (λ (x : ServerCore Plain Plain). x.state.rules) e.hands.same ∙ ap (λ (s : Server). s.rules) makes ∙ ready.rules in
    let responds = subst (λ (x : Rules). Responds x MESSAGE_LENGTH_MAX e.answers.job.header.stream_id (echo_of e.job.request) e.answers.sent) rules e.answers.responds in
    let adds = responds_adds e.mid.connection.outbox new.connection.outbox e.answers.job.header.stream_id (echo_of e.job.request) e.answers.sent (subst IsQueue (sym queue) ready.queue) responds e.answers.sends in
    let k = (header_of_frame f).stream_id in
    record {
      answers = said_bytes k (Some (echo_of request));
      is_answer = record { said = Some (echo_of request); says = says; bytes_are = refl };
      adds = subst (λ (q : Queue). Adds q new.connection.outbox.queue (said_bytes k (Some (echo_of request)))) queue
          (subst (λ (n : ℕ). Adds e.mid.connection.outbox.queue new.connection.outbox.queue (said_bytes n (Some (echo_of request)))) stream
          (subst (λ (r : Request). Adds e.mid.connection.outbox.queue new.connection.outbox.queue (said_bytes e.answers.job.header.stream_id (Some (echo_of r)))) asked adds));
      jobs = e.answers.ends.jobs ∙ ap (λ js. js ++ at.back) gone.0 ∙ gone.2;
      rules = ap (λ (x : ServerCore Plain Plain). x.state.rules) e.answers.same ∙ rules;
      takes = ap (λ (x : ServerCore Plain Plain). x.state.draining) e.answers.same ∙ ap (λ (x : ServerCore Plain Plain). x.state.draining) e.hands.same ∙ ap (λ (s : Server). s.draining) makes ∙ ready.takes;
      services = subst HasEcho (sym (ap (λ (x : ServerCore Plain Plain). x.state.services) e.answers.same ∙ ap (λ (x : ServerCore Plain Plain). x.state.services) e.hands.same ∙ ap (λ (s : Server). s.services) makes)) ready.services;
      alive = ap (λ (x : ServerCore Plain Plain). x.connection.failure) e.answers.same ∙ e.answers.alive;
      held = ap (λ (x : ServerCore Plain Plain). x.connection.decoder) e.answers.same ∙ ap (λ (x : ServerCore Plain Plain). x.connection.decoder) e.hands.same;
      last_job = omega (arith, ap (λ (x : ServerCore Plain Plain). x.state.jobs.last) e.answers.same ∙ ap (λ (x : ServerCore Plain Plain). x.state.jobs.last) e.hands.same ∙ ap (λ (s : Server). s.jobs.last) makes);
    }

done_row : (now : ℕ) (row : Row) (f : Incoming) (old mid new : ServerCore Plain Plain) (sent : List Sent) → IsReady old → row ≡ sync_row echo_services (header_of_frame f) (plainly f)
    → Does plain_out row old.state old.connection.outbox.half (header_of_frame f) now sent mid.state → SendsAll plain_out old.connection.outbox sent mid.connection.outbox → mid.connection.failure ≡ None → Echoes mid new → Done f old mid new
done_row now Ignore f old mid new sent ready is does sends alive echoes =
    done_quiet f None old mid new ready (subst (λ (r : Row). Says r None) is refl) does.0 alive (none_adds old.connection.outbox mid.connection.outbox sent ready.queue does.1 sends) echoes
done_row now (SendResponse r) f old mid new sent ready is does sends alive echoes =
    done_quiet f (Some r) old mid new ready (subst (λ (x : Row). Says x (Some r)) is refl) does.0 alive (refers_adds old.connection.outbox mid.connection.outbox _ r sent ready.queue (subst (λ (x : Rules). SendsOwnAnswer x plain_out old.connection.outbox.half (header_of_frame f).stream_id r sent) ready.rules does.1) sends) echoes
done_row now (SendCode code) f old mid new sent ready is does sends alive echoes =
    let r = does.1.0 in
    done_quiet f (Some r) old mid new ready (subst (λ (x : Row). Says x (Some r)) is (r, does.1.1, refl)) does.0 alive (refers_adds old.connection.outbox mid.connection.outbox _ r sent ready.queue (subst (λ (x : Rules). SendsOwnAnswer x plain_out old.connection.outbox.half (header_of_frame f).stream_id r sent) ready.rules does.1.2) sends) echoes
done_row now (MakeJob request) f old mid new sent ready is does sends alive echoes =
    let quiet : mid.connection.outbox ≡ old.connection.outbox = subst (λ (xs : List Sent). SendsAll plain_out old.connection.outbox xs mid.connection.outbox) does.1 sends in
    done_known now f request old mid new ready (subst (λ (x : Row). Says x (Some (echo_of request))) is refl) does.0 quiet alive echoes
done_row now (MakeStream request) f old mid new sent ready is does sends alive echoes = absurd (let none : true ≡ false = ap is_of_streams is ∙ no_streams echo_services (header_of_frame f) (plainly f) in cc)
done_row now (PutIn payload) f old mid new sent ready is does sends alive echoes = absurd (let none : true ≡ false = ap is_of_streams is ∙ no_streams echo_services (header_of_frame f) (plainly f) in cc)

-- the table asks of services for their methods alone
same_request : (s : Services) (r : Option Request) → HasEcho s → request_row Sync s r ≡ request_row Sync echo_services r
same_request s None has = refl
same_request s (Some r) has = rw (has r.service r.method) refl

same_case_row : (s : Services) (h : MessageHeader) (case : Case) → HasEcho s → case_row Sync s h case ≡ case_row Sync echo_services h case
same_case_row s h (Asks plain) has = same_request s (read_from request_step empty_request plain) has
same_case_row s h case has = refl

same_row : (s : Services) (h : MessageHeader) (o : InboundResult) → HasEcho s → sync_row s h o ≡ sync_row echo_services h o
same_row s h o has = same_case_row s h (case_of Sync h o None Absent) has

-- sync rules note no newest request
seen_of_sync : (s : Server) (a : Arrived) → s.rules ≡ Sync → seen_by s a ≡ s
seen_of_sync s a sync = ap (λ r. with_newest s (newest_after r a.header.stream_id (case_in s a) s.jobs.newest)) sync

-- the row of a frame that acts, and what it does to a core that is ready
pub row_acts : (now : ℕ) (f : Incoming) (old mid : ServerCore Plain Plain) → IsReady old
    → (acts : Acts (serving plain_out plain_in) now (scene old.state old.connection) f (scene mid.state mid.connection))
    → (row : Row) × (row ≡ sync_row echo_services (header_of_frame f) (plainly f)) × Does plain_out row old.state old.connection.outbox.half (header_of_frame f) now acts.sent mid.state
row_acts now f old mid ready acts =
    let opening : acts.opening ≡ plainly f = opened_plainly old.connection.inbound mid.connection.inbound f acts.opening acts.opens in
    let row : row_of old.state (arrived f acts.opening now) ≡ sync_row echo_services (header_of_frame f) (plainly f) =
    row_of_sync old.state (arrived f acts.opening now) ready.rules ∙ ap (λ o. sync_row old.state.services (header_of_frame f) o) opening ∙ same_row old.state.services (header_of_frame f) (plainly f) ready.services in
    let does = subst (λ (s : Server). Does plain_out (row_of old.state (arrived f acts.opening now)) s old.connection.outbox.half (header_of_frame f) now acts.sent mid.state)
    (seen_of_sync old.state (arrived f acts.opening now) ready.rules) acts.reacts in
    (row_of old.state (arrived f acts.opening now), row, does)

done_frame : (now : ℕ) (f : Incoming) (old mid new : ServerCore Plain Plain) → IsReady old → mid.connection.failure ≡ None
    → Acts (serving plain_out plain_in) now (scene old.state old.connection) f (scene mid.state mid.connection) → Echoes mid new → Done f old mid new
done_frame now f old mid new ready alive acts echoes =
    let r = row_acts now f old mid ready acts in
    done_row now r.0 f old mid new acts.sent ready r.1 r.2 acts.sends alive echoes

-- a front was fed, under the same rules
pub fed_rules : (now : ℕ) (o : Option Incoming) (old mid : ServerCore Plain Plain) → ActsAll (serving plain_out plain_in) now (scene old.state old.connection) (given o) (scene mid.state mid.connection) → mid.state.rules ≡ old.state.rules
fed_rules now None old mid acts = ap (λ (c : Scene Server Plain Plain). c.state.rules) acts
fed_rules now (Some f) old mid acts =
    let one = acts.1 in
    ap (λ (c : Scene Server Plain Plain). c.state.rules) acts.2 ∙ (row_leaves plain_out (row_of old.state (arrived f one.opening now)) (seen_by old.state (arrived f one.opening now)) old.connection.outbox.half (header_of_frame f) now one.sent acts.0.state one.reacts).rules

-- a front was fed, and the job that it made is echoed
pub one_front : (now : ℕ) (o : Option Incoming) (old mid new : ServerCore Plain Plain) (front : List ℕ) → IsReady old → mid.connection.failure ≡ None → Fed old.connection.decoder front (given o) mid.connection.decoder
    → ActsAll (serving plain_out plain_in) now (scene old.state old.connection) (given o) (scene mid.state mid.connection) → Echoes mid new → Serves old front new × IsReady new
one_front now None old mid new front ready still fed acts echoes =
    let state : mid.state ≡ old.state = ap (λ (c : Scene Server Plain Plain). c.state) acts in
    let same : new ≡ mid = no_job mid new (ap (λ (s : Server). s.jobs.list) state ∙ ready.jobs) echoes in
    let left : new.state ≡ old.state = ap (λ (x : ServerCore Plain Plain). x.state) same ∙ state in
    let queue : new.connection.outbox.queue ≡ old.connection.outbox.queue = ap (λ (x : ServerCore Plain Plain). x.connection.outbox.queue) same ∙ ap (λ (c : Scene Server Plain Plain). c.outbox.queue) acts in (
      record {
        frames = [];
        answers = [];
        fed = subst (λ (x : ServerCore Plain Plain). Fed old.connection.decoder front [] x.connection.decoder) (sym same) fed;
        are_answers = refl;
        more = ap unsent queue ∙ sym (append-nil (unsent old.connection.outbox.queue));
        jobs = omega (arith, ap (λ (s : Server). s.jobs.last) left);
      },
      record {
        rules = ap (λ (s : Server). s.rules) left ∙ ready.rules;
        takes = ap (λ (s : Server). s.draining) left ∙ ready.takes;
        services = subst HasEcho (sym (ap (λ (s : Server). s.services) left)) ready.services;
        jobs = ap (λ (s : Server). s.jobs.list) left ∙ ready.jobs;
        alive = ap (λ (x : ServerCore Plain Plain). x.connection.failure) same ∙ still;
        queue = subst IsQueue (sym queue) ready.queue;
      },
    )
one_front now (Some f) old mid new front ready still fed acts echoes =
    let done = done_frame now f old mid new ready still (subst (λ (c : Scene Server Plain Plain). Acts (serving plain_out plain_in) now (scene old.state old.connection) f c) (sym acts.2) acts.1) echoes in (
      record {
        frames = f ∷ [];
        answers = done.answers;
        fed = subst (λ (x : Held). Fed old.connection.decoder front (f ∷ []) x) (sym done.held) fed;
        are_answers = (done.answers, [], done.is_answer, sym (append-nil done.answers), refl);
        more = done.adds.more;
        jobs = done.last_job;
      },
      record { rules = done.rules; takes = done.takes; services = done.services; jobs = done.jobs; alive = done.alive; queue = done.adds.valid },
    )

-- ---- one front after the other

pub answers_twice : (fs gs : List Incoming) (xs ys : List ℕ) → AreAnswers fs xs → AreAnswers gs ys → AreAnswers (fs ++ gs) (xs ++ ys)
answers_twice [] gs xs ys one two = subst (λ (zs : List ℕ). AreAnswers gs (zs ++ ys)) (sym one) two
answers_twice (f ∷ fs) gs xs ys one two =
    (one.0, one.1 ++ ys, one.2, ap (λ zs. zs ++ ys) one.3 ∙ append_assoc one.0 one.1 ys, answers_twice fs gs one.1 ys one.4 two)

pub serves_nothing : (s : ServerCore Plain Plain) → Serves s [] s
serves_nothing s = record { frames = []; answers = []; fed = nothing_taken s.connection.decoder; are_answers = refl; more = sym (append-nil (unsent s.connection.outbox.queue)); jobs = omega (arith) }

pub serves_twice : (a b c : ServerCore Plain Plain) (x y : List ℕ) → Serves a x b → Serves b y c → Serves a (x ++ y) c
serves_twice a b c x y one two = record {
  frames = one.frames ++ two.frames;
  answers = one.answers ++ two.answers;
  fed = fed_twice a.connection.decoder b.connection.decoder c.connection.decoder x y one.frames two.frames one.fed two.fed;
  are_answers = answers_twice one.frames two.frames one.answers two.answers one.are_answers two.are_answers;
  more = two.more ∙ ap (λ xs. xs ++ two.answers) one.more ∙ append_assoc (unsent a.connection.outbox.queue) one.answers two.answers;
  jobs = omega (arith, one.jobs, two.jobs, length-append one.frames two.frames);
}

-- the bytes in front
pub whole_front : (xs ys : List ℕ) → take (length xs) (xs ++ ys) ≡ xs
whole_front [] ys = refl
whole_front (x ∷ xs) ys = ap (λ l. x ∷ l) (whole_front xs ys)

-- so far a front of the piece was served, and the rest is to be fed
pub record ServedSoFar (old : ServerCore Plain Plain) (piece rest : List ℕ) (now : ServerCore Plain Plain) : Type 0 where
  pub front : List ℕ
  pub piece_is : piece ≡ front ++ rest
  pub serves : Serves old front now

pub served_first : (s : ServerCore Plain Plain) (piece : List ℕ) → ServedSoFar s piece piece s
served_first s piece = record { front = []; piece_is = refl; serves = serves_nothing s }

pub served_more : (old now new : ServerCore Plain Plain) (piece rest : List ℕ) (n : ℕ) → ServedSoFar old piece rest now → Serves now (take n rest) new → ServedSoFar old piece (drop n rest) new
served_more old now new piece rest n p s = record {
  front = p.front ++ take n rest;
  piece_is = p.piece_is ∙ ap (λ xs. p.front ++ xs) (sym (take-append-drop n rest)) ∙ sym (append_assoc p.front (take n rest) (drop n rest));
  serves = serves_twice old now new p.front (take n rest) p.serves s;
}

pub served_all : (old now : ServerCore Plain Plain) (piece rest : List ℕ) → ServedSoFar old piece rest now → rest ≡ [] → Serves old piece now
served_all old now piece rest p none = subst (λ (xs : List ℕ). Serves old xs now) (sym (append-nil p.front) ∙ ap (λ xs. p.front ++ xs) (sym none) ∙ sym p.piece_is) p.serves

pub served_whole : (old now : ServerCore Plain Plain) (piece rest : List ℕ) → ServedSoFar old piece rest now → rest ≡ [] → Serves old (take (length piece) piece) now
served_whole old now piece rest p none =
    subst (λ (xs : List ℕ). Serves old xs now) (sym (ap (λ xs. take (length piece) xs) (sym (append-nil piece)) ∙ whole_front piece [])) (served_all old now piece rest p none)

-- no more of the rest was served
pub served_short : (old now new : ServerCore Plain Plain) (piece rest : List ℕ) (n : ℕ) → ServedSoFar old piece rest now → n ≡ 0 → Serves now (take n rest) new → Serves old (take (length piece - length rest) piece) new
served_short old now new piece rest n p none s =
    let count : length piece - length rest ≡ length p.front = omega (arith, ap length p.piece_is, length-append p.front rest) in
    let front : take (length piece - length rest) piece ≡ p.front = ap (λ k. take k piece) count ∙ ap (λ xs. take (length p.front) xs) p.piece_is ∙ whole_front p.front rest in
    let nothing_more : p.front ++ take n rest ≡ p.front = ap (λ k. p.front ++ take k rest) none ∙ append-nil p.front in
    subst (λ (xs : List ℕ). Serves old xs new) (nothing_more ∙ sym front) (serves_twice old now new p.front (take n rest) p.serves s)

-- fewer bytes are left after some were served
pub served_fewer : (old now : ServerCore Plain Plain) (piece rest : List ℕ) (n : ℕ) → ServedSoFar old piece rest now → n ≢ 0 → n ≤ length rest → length (drop n rest) < length piece
served_fewer old now piece rest n p some within = omega (arith, some, within, ap length p.piece_is, length-append p.front rest, length-drop n rest)
