-- The calls of a server core take nothing of what comes in, and the queue goes through what they say.
use Rattle.ttrpc_server.proofs.Words.{◌≡◌, ◌∙◌, ℕ, List, [], ◌∷◌, ◌++◌, None, refl, ap, subst, Queued, Queue, Happening, Placed, with_payload, OutboundTransform, Connection, Outbox, AreLawful, Goes, Sent, SendsAll, goes_not, queued_goes, sends_grow, Server, Response, Served, Took, Drained, Answered, Responded, served, fitted, IsResponseFrame, Responds, Rules, response_bytes, append_assoc, map, inl, inr, Option, Some, sym, ActiveJob, Async, Sync, Failure, SendsOwnAnswer, grows_not, grows_twice, Ticked, due_jobs, ExpireAll, Passes, safe_limit, timeout_response, Error}
use Rattle.ttrpc_connection.proofs.Leaving.{Grows}
use Rattle.ttrpc_connection.proofs.Words.{append-nil}
use Rattle.ttrpc_server.specs.declared.server.ServerCore.{ServerCore}
use Rattle.std.proofs.Common.{Result, Ok, Err}
use Rattle.ttrpc_connection.specs.Items.{IsDataFrame}
use Rattle.ttrpc_server.specs.Streaming.{IsCloseFrame, SendsEnd}
use Rattle.ttrpc_server.specs.Calls.{AreAnswers, Causes, Ended, IsEndFrame, Performs, PlacesResponse, ReceiverDropped, SentItem, core, streams_due}

-- ---- ticks

passes_decoder : {O I : Type 0} (out : OutboundTransform O) (rules : Rules) (failure : Option Failure) (old : ServerCore O I) (now : ℕ) (new : ServerCore O I) → Passes out rules failure old now new → new.connection.decoder ≡ old.connection.decoder
passes_decoder out Sync failure old now new same = ap (λ c. c.connection.decoder) same
passes_decoder out Async None old now new ticks = ap (λ c. c.connection.decoder) ticks.same
passes_decoder out Async (Some failure) old now new same = ap (λ c. c.connection.decoder) same

expire_grows : {O : Type 0} (out : OutboundTransform O) (js : List ActiveJob) (old : Server) (from : Outbox O) (new : Server) (to : Outbox O) → ExpireAll out old from js new to → Grows from.queue to.queue
expire_grows out [] old from new to same = grows_not from.queue to.queue (ap (λ b. b.queue) same.1)
expire_grows out (j ∷ js) old from new to all =
    grows_twice from.queue all.1.queue to.queue (sends_grow out all.2.sent from all.1 all.2.sends) (expire_grows out js all.0 all.1 new to all.3)

passes_grows : {O I : Type 0} (out : OutboundTransform O) (rules : Rules) (failure : Option Failure) (old : ServerCore O I) (now : ℕ) (new : ServerCore O I) → Passes out rules failure old now new → Grows old.connection.outbox.queue new.connection.outbox.queue
passes_grows out Sync failure old now new same = grows_not old.connection.outbox.queue new.connection.outbox.queue (ap (λ c. c.connection.outbox.queue) same)
passes_grows out Async None old now new ticks = expire_grows out ticks.expired old.state old.connection.outbox new.state new.connection.outbox ticks.expire
passes_grows out Async (Some failure) old now new same = grows_not old.connection.outbox.queue new.connection.outbox.queue (ap (λ c. c.connection.outbox.queue) same)

-- ---- the end of a stream

end_grows : {O : Type 0} (out : OutboundTransform O) (old : Outbox O) (k : ℕ) (end : Result (Option Response) Error) (new : Outbox O) → SendsEnd out old k end new → Grows old.queue new.queue
end_grows out old k (Ok None) new sends = (with_payload sends.0 sends.2.sealed ∷ [], sends.2.queue)
end_grows out old k (Ok (Some r)) new sends = sends_grow out sends.0 old new sends.2
end_grows out old k (Err e) new sends = sends_grow out sends.2.0 old new sends.2.2

-- ---- the decoder and the queue

decoder : {O I : Type 0} (out : OutboundTransform O) (a : Served) (s : Server) (old : Connection O I) (hs : List Happening) (t : Server) (new : Connection O I) → served out a s old hs t new → new.decoder ≡ old.decoder
decoder out (Took None) s old hs t new call = ap (λ c. c.connection.decoder) call.0.0
decoder out (Ticked now) s old hs t new call = passes_decoder out s.rules old.failure (core s old) now (core t new) call.0
decoder out Drained s old hs t new call = ap (λ c. c.connection.decoder) call.0
decoder out (ReceiverDropped id) s old hs t new call = ap (λ c. c.connection.decoder) call.0
decoder out a s old hs t new call = ap (λ c. c.connection.decoder) call.0.same

queue : {O I : Type 0} (out : OutboundTransform O) (a : Served) (s : Server) (old : Connection O I) (hs : List Happening) (t : Server) (new : Connection O I) → served out a s old hs t new → Goes old.outbox.queue hs new.outbox.queue
queue out (Took None) s old hs t new call = goes_not old.outbox.queue new.outbox.queue hs (ap (λ c. c.connection.outbox.queue) call.0.0) call.1
queue out (Ticked now) s old hs t new call =
    queued_goes old.outbox.queue new.outbox.queue call.1.0 hs (passes_grows out s.rules old.failure (core s old) now (core t new) call.0) call.1.2 call.1.3
queue out (ReceiverDropped id) s old hs t new call = goes_not old.outbox.queue new.outbox.queue hs (ap (λ c. c.connection.outbox.queue) call.0) call.1
queue out (SentItem id item ticket) s old hs t new call =
    let placed = call.1.2 in
    let sends = call.0.sends in
    queued_goes old.outbox.queue new.outbox.queue (placed.0 ∷ []) hs (with_payload sends.frame sends.sends.sealed ∷ [], sends.sends.queue) placed.2 placed.3
queue out (Ended id end) s old hs t new call =
    let placed = call.1.2 in
    queued_goes old.outbox.queue new.outbox.queue (placed.0 ∷ []) hs (end_grows out old.outbox call.0.job.header.stream_id end new.outbox call.0.sends) placed.2 placed.3
queue out Drained s old hs t new call = goes_not old.outbox.queue new.outbox.queue hs (ap (λ c. c.connection.outbox.queue) call.0) call.1
queue out (Answered id response) s old hs t new call =
    let placed = call.1.2 in
    queued_goes old.outbox.queue new.outbox.queue (placed.0 ∷ []) hs (sends_grow out call.0.sent old.outbox new.outbox call.0.sends) placed.2 placed.3
queue out (Responded k response) s old hs t new call =
    queued_goes old.outbox.queue new.outbox.queue (call.1.0 ∷ []) hs (sends_grow out call.0.sent old.outbox new.outbox call.0.sends) call.1.2 call.1.3
queue out a s old hs t new call = goes_not old.outbox.queue new.outbox.queue hs (ap (λ c. c.connection.outbox.queue) call.0.same) call.1

pub served_is_lawful : {O I : Type 0} (out : OutboundTransform O) → AreLawful (served {O = O} {I = I} out)
served_is_lawful out = record { decoder = decoder out; queue = queue out }

-- ---- each call has its history

filled_response : (k : ℕ) (f : Queued) (payload : List ℕ) → IsResponseFrame k f → IsResponseFrame k (with_payload f payload)
filled_response k f payload is =
    record { stream_id = is.stream_id; type_ = is.type_; flags = is.flags; ticket = is.ticket; is_unary_request = is.is_unary_request; owner = is.owner }

-- a response that was sent is queued
pub one_is_queued : {O : Type 0} (out : OutboundTransform O) (k : ℕ) (old new : Outbox O) (one : Sent) → IsResponseFrame k one.frame → SendsAll out old (one ∷ []) new
    → (f : Queued) × IsResponseFrame k f × (new.queue.frames ≡ old.queue.frames ++ f ∷ [])
one_is_queued out k old new one is sends = (
  with_payload one.frame sends.1.sealed,
  filled_response k one.frame sends.1.sealed is,
  ap (λ (b : Outbox _). b.queue.frames) sends.2 ∙ ap (λ (q : Queue). q.frames) sends.1.queue,
)

places : {O I : Type 0} (rules : Rules) (out : OutboundTransform O) (old new : ServerCore O I) (limit k : ℕ) (r : Response) (sent : List Sent) → Responds rules limit k r sent
    → SendsAll out old.connection.outbox sent new.connection.outbox → (hs : List Happening) × PlacesResponse k old new hs
places rules out old new limit k r sent responds sends =
    let one : Sent = record { frame = responds.frame; plain = response_bytes (fitted rules limit r) } in
    let alone = subst (λ (xs : List Sent). SendsAll out old.connection.outbox xs new.connection.outbox) responds.is sends in
    let queued = one_is_queued out k old.connection.outbox new.connection.outbox one responds.is_frame alone in
    (Placed queued.0 ∷ [], (queued.0, queued.1, queued.2, refl))

-- ---- what a tick queues

-- these were queued under those streams' ids
abbrev pub QueuesUnder : {O : Type 0} → List ℕ → Outbox O → Outbox O → Type 0
QueuesUnder ks old new = (queued : List Queued) × AreAnswers ks queued × (new.queue.frames ≡ old.queue.frames ++ queued)

queues_not : {O : Type 0} (k : ℕ) (ks : List ℕ) (old mid new : Outbox O) → mid.queue.frames ≡ old.queue.frames → QueuesUnder ks mid new → QueuesUnder (k ∷ ks) old new
queues_not k ks old mid new same later = (later.0, inl later.1, later.2 ∙ ap (λ fs. fs ++ later.0) same)

pub queues_more : {O : Type 0} (k : ℕ) (ks : List ℕ) (old mid new : Outbox O) (f : Queued) → IsResponseFrame k f → mid.queue.frames ≡ old.queue.frames ++ f ∷ [] → QueuesUnder ks mid new → QueuesUnder (k ∷ ks) old new
queues_more k ks old mid new f is one later = (
  f ∷ later.0,
  inr (f, later.0, is, refl, later.1),
  later.2 ∙ ap (λ fs. fs ++ later.0) one ∙ append_assoc old.queue.frames (f ∷ []) later.0,
)

own_queues : {O : Type 0} (rules : Rules) (out : OutboundTransform O) (k : ℕ) (ks : List ℕ) (r : Response) (sent : List Sent) (old mid new : Outbox O) → SendsOwnAnswer rules out old.half k r sent → SendsAll out old sent mid
    → QueuesUnder ks mid new → QueuesUnder (k ∷ ks) old new
own_queues rules out k ks r sent old mid new (inl one) sends later =
    let first : Sent = record { frame = one.frame; plain = response_bytes (fitted rules (safe_limit out old.half) r) } in
    let queued = one_is_queued out k old mid first one.is_frame (subst (λ (xs : List Sent). SendsAll out old xs mid) one.is sends) in
    queues_more k ks old mid new queued.0 queued.1 queued.2 later
own_queues rules out k ks r sent old mid new (inr none) sends later =
    let same : mid ≡ old = subst (λ (xs : List Sent). SendsAll out old xs mid) none.0 sends in
    queues_not k ks old mid new (ap (λ (b : Outbox _). b.queue.frames) same) later

expire_queues : {O : Type 0} (out : OutboundTransform O) (js left : List ActiveJob) (old : Server) (from : Outbox O) (new : Server) (to : Outbox O) → ExpireAll out old from js new to
    → QueuesUnder (map (λ j. j.header.stream_id) (js ++ left)) from to
expire_queues out [] left old from new to same = none_queued left
  where
    none_queued : (left : List ActiveJob) → QueuesUnder (map (λ j. j.header.stream_id) left) from to
    none_queued [] = ([], refl, ap (λ (b : Outbox _). b.queue.frames) same.1 ∙ sym (append-nil from.queue.frames))
    none_queued (j ∷ left) = let later = none_queued left in (later.0, inl later.1, later.2)
expire_queues out (j ∷ js) left old from new to all =
    own_queues old.rules out j.header.stream_id (map (λ j. j.header.stream_id) (js ++ left)) timeout_response all.2.sent from all.1 to all.2.answers all.2.sends (expire_queues out js left all.0 all.1 new to all.3)

unqueued : {O I : Type 0} (now : ℕ) (old new : ServerCore O I) → new ≡ old → QueuesUnder (streams_due now old.state) old.connection.outbox new.connection.outbox
unqueued now old new same = by (due_jobs now old.state.jobs.list)
  where
    by : (js : List ActiveJob) → QueuesUnder (map (λ j. j.header.stream_id) js) old.connection.outbox new.connection.outbox
    by [] = ([], refl, ap (λ (c : ServerCore _ _). c.connection.outbox.queue.frames) same ∙ sym (append-nil old.connection.outbox.queue.frames))
    by (j ∷ js) = let later = by js in (later.0, inl later.1, later.2)

passes_queues : {O I : Type 0} (out : OutboundTransform O) (rules : Rules) (failure : Option Failure) (old : ServerCore O I) (now : ℕ) (new : ServerCore O I) → Passes out rules failure old now new
    → QueuesUnder (streams_due now old.state) old.connection.outbox new.connection.outbox
passes_queues out Sync failure old now new same = unqueued now old new same
passes_queues out Async None old now new ticks =
    subst (λ js. QueuesUnder (map (λ j. j.header.stream_id) js) old.connection.outbox new.connection.outbox) (sym ticks.due)
    (expire_queues out ticks.expired ticks.left old.state old.connection.outbox new.state new.connection.outbox ticks.expire)
passes_queues out Async (Some failure) old now new same = unqueued now old new same

filled_data : (k flags ticket : ℕ) (f : Queued) (payload : List ℕ) → IsDataFrame k flags ticket f → IsDataFrame k flags ticket (with_payload f payload)
filled_data k flags ticket f payload is =
    record { stream_id = is.stream_id; type_ = is.type_; flags_are = is.flags_are; ticket_is = is.ticket_is; is_unary_request = is.is_unary_request; owner = is.owner }

filled_close : (k : ℕ) (f : Queued) (payload : List ℕ) → IsCloseFrame k f → IsCloseFrame k (with_payload f payload)
filled_close k f payload is =
    record { stream_id = is.stream_id; type_ = is.type_; flags = is.flags; ticket = is.ticket; is_unary_request = is.is_unary_request; owner = is.owner }

response_queued : {O : Type 0} (out : OutboundTransform O) (limit k : ℕ) (r : Response) (sent : List Sent) (old new : Outbox O) → Responds Async limit k r sent → SendsAll out old sent new
    → (f : Queued) × IsResponseFrame k f × (new.queue.frames ≡ old.queue.frames ++ f ∷ [])
response_queued out limit k r sent old new responds sends =
    let one : Sent = record { frame = responds.frame; plain = response_bytes (fitted Async limit r) } in
    one_is_queued out k old new one responds.is_frame (subst (λ (xs : List Sent). SendsAll out old xs new) responds.is sends)

end_queued : {O : Type 0} (out : OutboundTransform O) (old : Outbox O) (k : ℕ) (end : Result (Option Response) Error) (new : Outbox O) → SendsEnd out old k end new → (f : Queued) × IsEndFrame end k f × (new.queue.frames ≡ old.queue.frames ++ f ∷ [])
end_queued out old k (Ok None) new sends = (with_payload sends.0 sends.2.sealed, filled_close k sends.0 sends.2.sealed sends.1, ap (λ (q : Queue). q.frames) sends.2.queue)
end_queued out old k (Ok (Some r)) new sends = response_queued out (safe_limit out old.half) k r sends.0 old new sends.1 sends.2
end_queued out old k (Err e) new sends = response_queued out (safe_limit out old.half) k sends.0 sends.2.0 old new sends.2.1 sends.2.2

pub performs_cause : {O I : Type 0} (out : OutboundTransform O) (a : Served) (old new : ServerCore O I) → Performs out a old new → (hs : List Happening) × Causes a old new hs
performs_cause out (Answered id response) old new did =
    let placed = places old.state.rules out old new _ did.job.header.stream_id response did.sent did.responds did.sends in
    (placed.0, (did.job, did.ends.at, placed.1))
performs_cause out (SentItem id item ticket) old new did =
    let sends = did.sends in
    let f = with_payload sends.frame sends.sends.sealed in
    (Placed f ∷ [], (did.job, did.at, (f, filled_data did.job.header.stream_id 0 ticket sends.frame sends.sends.sealed sends.is_frame, ap (λ (q : Queue). q.frames) sends.sends.queue, refl)))
performs_cause out (Ended id end) old new did =
    let queued = end_queued out old.connection.outbox did.job.header.stream_id end new.connection.outbox did.sends in
    (Placed queued.0 ∷ [], (did.job, did.ends.at, (queued.0, queued.1, queued.2, refl)))
performs_cause out (Ticked now) old new did =
    let queued = passes_queues out old.state.rules old.connection.failure old now new did in
    (map Placed queued.0, (queued.0, queued.1, queued.2, refl))
performs_cause out (Responded k response) old new did = places old.state.rules out old new _ k response did.sent did.responds did.sends
performs_cause out a old new did = ([], refl)
