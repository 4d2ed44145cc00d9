-- No job that waits for a request of a method is a stream's: so none that is handed out is, either.
use Rattle.ttrpc_world.specs.Headline.Named.{AreNamed, IsNamedAt}
use Rattle.ttrpc_world.proofs.Constants.{stepped}
use Rattle.ttrpc_world.proofs.Numbers.{received}
use Rattle.ttrpc_world.proofs.Serves.{acts_so, one_less, passes_so}
use Rattle.ttrpc_server.specs.Protocol.{case_in}
use Rattle.ttrpc_server.specs.declared.rows.RequestKind.TheVariants.{NoPath}
use Rattle.ttrpc_pair.proofs.Words.{brought_by, changed_under, under_stays}
use Rattle.ttrpc_world.proofs.Words.{[], ActiveJob, ActsAll, all_at, all_changed, all_joined, all_less, AllByRecursion, Answer, ap, arrives, request_kind_row, AskedCall, Asks, AsyncRules, at_stays, Bool, Case, case_row, changed_at, Chat, Count, Deliver, Does, Done, DropReceiver, EndsOne, EndStream, Entry, Event, false, Finish, Halves, Handed, has_method, has_service, has_stream, header_of_frame, if◌then◌else◌, inl, inr, Incoming, is_stream, IsFresh, Item, JobList, List, map, MakeJob, MakeStream, MessageHeader, Net, NoMethod, None, NoService, Option, OutboundTransform, PutIn, Recv, refl, Refused, Reply, Request, request_row, row_leaves, Row, Rules, rules, Runs, Scene, scene, Sent, Server, ServerCore, ServerEnd, ServerSide, serving, Services, Some, StaysFound, Steps, subst, sym, SyncRules, Take, Tick, true, unary_body, without_payload, without_receiver, ℕ, ◌∙◌, ◌∷◌, ◌≡◌}

-- a job of a request is no stream's
unary : (rules : Rules) (now : ℕ) (request : Request) → is_stream (unary_body rules now request) ≡ false
unary SyncRules now request = refl
unary AsyncRules now request = refl

module _ (services : Services) where
  -- no stream's job waits for a request of a method
  abbrev IsNoStreams : ActiveJob → Type 0
  IsNoStreams j = (request : Request) → j.request ≡ Some request → has_method services request.service request.method ≡ true → is_stream j.body ≡ false

  abbrev AreNoStreams : List ActiveJob → Type 0
  AreNoStreams jobs = AllByRecursion IsNoStreams jobs

  changed : (g : ActiveJob → ActiveJob) → StaysFound g → (jobs : List ActiveJob) → AreNoStreams jobs → AreNoStreams (map g jobs)
  changed g found [] h = tt
  changed g found (j ∷ jobs) h = ((λ request is named. found.stream j ∙ h.0 request (sym (found.request j) ∙ is) named), changed g found jobs h.1)

  ended : (old new : List ActiveJob) (id : ℕ) (job : ActiveJob) → EndsOne old id job new → AreNoStreams old → AreNoStreams new
  ended old new id job t h = subst AreNoStreams (sym t.jobs) (all_less IsNoStreams t.at.front t.at.back job (subst AreNoStreams t.at.is h))

  -- only a request of no method makes a stream's job
  abbrev IsRight : Row → Type 0
  IsRight (MakeStream request) = has_method services request.service request.method ≡ false
  IsRight row = Unit {0}

  right_request : (rules : Rules) (request : Option Request) → IsRight (request_row rules services request)
  right_request rules None = tt
  right_request SyncRules (Some q) = by (has_method services q.service q.method)
    where
      by : (method : Bool) → IsRight (request_kind_row q (if method then AskedCall else NoPath))
      by true = tt
      by false = tt
  right_request AsyncRules (Some q) = by (has_method services q.service q.method) refl (has_stream services q.service q.method) (has_service services q.service)
    where
      by : (method : Bool) → has_method services q.service q.method ≡ method → (stream service : Bool) → IsRight (request_kind_row q (if method then AskedCall else if stream then Chat else if service then NoMethod else NoService))
      by true e stream service = tt
      by false e true service = e
      by false e false true = tt
      by false e false false = tt

  right_case : (rules : Rules) (h : MessageHeader) (case : Case) → IsRight (case_row rules services h case)
  right_case rules h (Asks plain) = right_request rules _
  right_case rules h case = tt

  row_keeps : {O : Type 0} (out : OutboundTransform O) (row : Row) (old : Server) (o : O) (header : MessageHeader) (now : ℕ) (sent : List Sent) (new : Server) → IsRight row → Does out row old o header now sent new → AreNoStreams old.jobs.list → AreNoStreams new.jobs.list
  row_keeps out (MakeJob request) old o header now sent new right does h =
      subst (λ (s : Server). AreNoStreams s.jobs.list) (sym does.0) (all_joined IsNoStreams old.jobs.list _ h ((λ q is named. unary old.rules now request), tt))
  row_keeps out (MakeStream request) old o header now sent new right does h =
      let none : (q : Request) → Some (without_payload request) ≡ Some q → has_method services q.service q.method ≡ false = λ q is. let same : without_payload request ≡ q = cc in subst (λ (r : Request). has_method services r.service r.method ≡ false) same right in
      subst (λ (s : Server). AreNoStreams s.jobs.list) (sym does.0) (all_joined IsNoStreams old.jobs.list _ h ((λ q is named. let bad : false ≡ true = sym (none q is) ∙ named in cc), tt))
  row_keeps out (PutIn payload) old o header now sent new right does h =
      let into = brought_by header payload in
      subst (λ (s : Server). AreNoStreams s.jobs.list) (sym does.0) (changed (changed_under header.stream_id into) (under_stays header.stream_id into) old.jobs.list h)
  row_keeps out row old o header now sent new right does h = rw does.0 h

  -- these are its services, and its jobs are right
  abbrev Holds : Server → Type 0
  Holds s = (s.services ≡ services) × AreNoStreams s.jobs.list

  frames_keep : {O I : Type 0} (h : Halves O I) (now : ℕ) (frames : List Incoming) (old new : Scene Server O I) → ActsAll (serving h.out h.in_) now old frames new → Holds old.state → Holds new.state
  frames_keep h now =
      acts_so (serving h.out h.in_) now (λ x y. Holds x.state → Holds y.state) (λ x it. it) (λ f fs x y b later it.
      let leaves = row_leaves h.out _ _ x.outbox.half (header_of_frame f) now b.1.sent b.0.state b.1.reacts in
      let a = arrives f b.1.opening now in
      let right = subst (λ (s : Services). IsRight (case_row x.state.rules s a.header (case_in x.state a))) (sym it.0) (right_case x.state.rules a.header (case_in x.state a)) in
      later (leaves.services ∙ it.0, row_keeps h.out _ _ x.outbox.half (header_of_frame f) now b.1.sent b.0.state right b.1.reacts it.1))

  module _ {CO CI SO SI : Type 0} (c : Halves CO CI) (s : Halves SO SI) (seals : Bool) (fixed : (x y : SO) (plain aad sealed : List ℕ) → s.out.seals x plain aad sealed y → s.out.overhead y ≡ s.out.overhead x) where
    same_jobs : (w v : Net CO CI SO SI) → v.server.state.jobs ≡ w.server.state.jobs → AreNoStreams w.server.state.jobs.list → AreNoStreams v.server.state.jobs.list
    same_jobs w v same h = subst (λ (js : JobList). AreNoStreams js.list) (sym same) h

    keeps : (w : Net CO CI SO SI) (event : Event) (reply : Reply) (v : Net CO CI SO SI) → Holds w.server.state → Steps c s seals w event reply v → AreNoStreams v.server.state.jobs.list
    keeps w Take (Handed (Some job)) v h p =
        let t = p.0.hands in
        subst AreNoStreams (sym t.jobs) (all_changed IsNoStreams t.front t.back t.job (record t.job { request = None }) (λ request none named. cc) (subst AreNoStreams t.was h.1))
    keeps w (Answer id result) Done v h p = let t = one_less c s seals w.server id result v.server p.0 in ended w.server.state.jobs.list v.server.state.jobs.list id t.0 t.1 h.1
    keeps w (Finish id) Done v h p = ended w.server.state.jobs.list v.server.state.jobs.list id p.0.job p.0.ends h.1
    keeps w (EndStream id result) Done v h p = ended w.server.state.jobs.list v.server.state.jobs.list id p.0.job p.0.ends h.1
    keeps w (Recv (ServerEnd id)) (Item given) v h p =
        let x = received w.server.state.rules w.server.connection.failure w.server.state id given v.server.state.jobs.list p.0.own in
        subst AreNoStreams (sym x.is) (changed x.g x.found w.server.state.jobs.list h.1)
    keeps w (DropReceiver (ServerEnd id)) Done v h p =
        subst (λ (x : Net CO CI SO SI). AreNoStreams x.server.state.jobs.list) (sym p.1) (changed (changed_at id without_receiver) (at_stays id without_receiver) w.server.state.jobs.list h.1)
    keeps w (Tick now) Done v h p =
        passes_so s.out (λ a x b y. AreNoStreams a.jobs.list → AreNoStreams b.jobs.list) (λ a x it. it)
        (λ a b d x y z job one later it. later (subst (λ (t : Server). AreNoStreams t.jobs.list) (sym one.state) (all_less IsNoStreams one.at.front one.at.back job (subst AreNoStreams one.at.is it))))
        w.server.state.rules w.server.connection.failure w.server now v.server p.serves h.1
    keeps w (Deliver ServerSide n) (Count k) v h (inl p) = (frames_keep s w.moment p.does.does.frames (scene w.server.state w.server.connection) (scene v.server.state p.does.mid) p.does.does.acts h).1
    keeps w (Deliver ServerSide n) (Count k) v h (inr p) = same_jobs w v (ap (λ (x : Net CO CI SO SI). x.server.state.jobs) p.only) h.1
    keeps w (Deliver ServerSide n) (Refused told) v h (inl p) = subst (λ (t : Server). AreNoStreams t.jobs.list) (sym p.0.state) (frames_keep s w.moment p.0.frames (scene w.server.state w.server.connection) p.0.mid p.0.acts h).1
    keeps w (Deliver to n) (Refused told) v h (inr p) = same_jobs w v (ap (λ (x : Net CO CI SO SI). x.server.state.jobs) p.1) h.1
    keeps w event reply v h p = let same : v.server.state.jobs ≡ w.server.state.jobs = first_of (cc, search rules) in same_jobs w v same h.1

    handed : (w : Net CO CI SO SI) (event : Event) (reply : Reply) (v : Net CO CI SO SI) → AreNoStreams w.server.state.jobs.list → Steps c s seals w event reply v → IsNamedAt services event reply
    handed w Take (Handed (Some job)) v h p = let t = p.0.hands in λ named. t.stream ∙ all_at IsNoStreams t.front t.back t.job (subst AreNoStreams t.was h) job.request t.request named
    handed w event reply v h p = tt

    run_named : (w : Net CO CI SO SI) (trace : List Entry) (v : Net CO CI SO SI) → Holds w.server.state → Runs c s seals w trace v → AreNamed services trace
    run_named w [] v h r = tt
    run_named w (e ∷ trace) v h r =
        let services_stay = (stepped c s seals fixed w e.event e.reply r.0 r.1).services in
        (handed w e.event e.reply r.0 h.1 r.1, run_named r.0 trace v (services_stay ∙ h.0, keeps w e.event e.reply r.0 h r.1) r.2)

-- IN ANY RUN FROM A FRESH START each job for a method is no stream's.
pub named : {CO CI SO SI : Type 0} (c : Halves CO CI) (s : Halves SO SI) (seals : Bool) (fixed : (x y : SO) (plain aad sealed : List ℕ) → s.out.seals x plain aad sealed y → s.out.overhead y ≡ s.out.overhead x)
    → (w : Net CO CI SO SI) (trace : List Entry) (v : Net CO CI SO SI) → IsFresh c s w → Runs c s seals w trace v → AreNamed w.server.state.services trace
named c s seals fixed w trace v fresh r =
    run_named w.server.state.services c s seals fixed w trace v (refl, subst (λ (x : ServerCore _ _). AreNoStreams w.server.state.services x.state.jobs.list) (sym fresh.server) tt) r
