-- A CLEAN QUIET RUN IS WHOLE, of streams: a receiver that is asked out was given all that was put in.
use Rattle.ttrpc_world.proofs.Cleanly.{fresh_run}
use Rattle.ttrpc_world.proofs.Emptied.{down_back, DownIdle, up_back, UpIdle}
use Rattle.ttrpc_world.proofs.Ending.{empty_at_end, none_flies}
use Rattle.ttrpc_world.proofs.Sentences.{begins, kept_at_end, Stands}
use Rattle.ttrpc_world.proofs.Jobs.{job_is, mailed}
use Rattle.ttrpc_world.proofs.Keeps.{AreSteady, Keeps}
use Rattle.ttrpc_world.proofs.Numbers.{AreRight, IsRightRun}
use Rattle.ttrpc_world.proofs.Since.{since_holds, Starts, Stays}
use Rattle.ttrpc_world.proofs.Words.{[], ActiveJob, all_at, all_given_down, all_given_up, ap, append-nil, AreWholeStreams, AsyncRules, between_own, Bool, ClientEnd, ClientSide, Entry, eqb-true, Event, Failure, false, finds_nothing_down, finds_nothing_up, Flow, flow_of, flows, given_by_end, given_still, got, Halves, heard_down, heard_down_append, heard_up, heard_up_append, in_order_here, inl, inr, IsClean, IsEmpty, IsFresh, IsInOrder, IsWholeStream, Item, items, items_append, job_at, jobs_at, List, Net, None, only_of, Option, parcels, put_down, put_down_append, put_up, put_up_append, ReceivesAt, ReceivesBy, Recv, refl, Reply, Rules, Runs, safe_limit, said_then, ServerEnd, ServerSide, Settings, Some, StreamState, stream_at, stream_id_of, subst, sym, SyncRules, MailboxEntry, true, with_entry, Word, ℕ, ◌++◌, ◌∙◌, ◌≡◌}

module _ {CO CI SO SI : Type 0} (c : Halves CO CI) (s : Halves SO SI) (seals : Bool) (steady : AreSteady c s seals) (set : Settings) (f : ℕ → ℕ) where
  abbrev AllUp : ℕ → List Entry → Net CO CI SO SI → Type 0
  AllUp k t w = UpIdle w → got (heard_up (flows f k t)) ≡ items (put_up (flows f k t))

  abbrev AllDown : ℕ → List Entry → Net CO CI SO SI → Type 0
  AllDown k t w = DownIdle w → got (heard_down (flows f k t)) ≡ items (put_down set.rules set.limit (flows f k t))

  -- A step that puts in no item leaves all given that was, of what goes either way.
  given_on : (says : List Flow → List MailboxEntry) → ((a b : List Flow) → says (a ++ b) ≡ says a ++ says b) → (hears : List Flow → List Word) → ((a b : List Flow) → hears (a ++ b) ≡ hears a ++ hears b) → (k : ℕ) (t : List Entry) (event : Event) (reply : Reply) → items (says (flow_of f k event reply)) ≡ []
      → IsInOrder (says (flows f k (with_entry t event reply))) (hears (flows f k (with_entry t event reply))) → got (hears (flows f k t)) ≡ items (says (flows f k t)) → got (hears (flows f k (with_entry t event reply))) ≡ items (says (flows f k (with_entry t event reply)))
  given_on says append hears joins k t event reply none order all =
      let old = flows f k t in
      let new = flow_of f k event reply in
      let now = said_then (flow_of f k) t event reply in
      let put = ap (λ xs. items (says xs)) now ∙ ap items (append old new) ∙ items_append (says old) (says new) ∙ ap (λ ys. items (says old) ++ ys) none ∙ append-nil (items (says old)) in
      given_still (says old) (says (flows f k (with_entry t event reply))) (hears old) (hears (flows f k (with_entry t event reply))) (hears new) put (ap hears now ∙ joins old new) order all

  up_stays : (k : ℕ) → Stays c s seals steady set f ServerSide (AllUp k)
  up_stays k t w event reply v i none all = λ idle.
      let b = up_back c s seals steady set f t w event reply v i i.cleanly.at.event_is i.cleanly.at.reply_is none i.does idle in
      given_on put_up put_up_append heard_up heard_up_append k t event reply (b.1 k) (in_order_here (i.behind.stories k)).up (all b.0)

  down_stays : (k : ℕ) → Stays c s seals steady set f ClientSide (AllDown k)
  down_stays k t w event reply v i none all = λ idle.
      let b = down_back c s seals steady set f t w event reply v i i.cleanly.at.event_is i.cleanly.at.reply_is none i.does idle in
      given_on (put_down set.rules set.limit) (put_down_append set.rules set.limit) heard_down heard_down_append k t event reply (b.1 k) (in_order_here (i.behind.stories k)).down (all b.0)

  -- ---- where a receiver has nothing yet

  found_up : (r : Rules) (failure : Option Failure) (t : List Entry) (w : Net CO CI SO SI) (id k : ℕ) (new : List ActiveJob) → (i : Keeps c s set f t w) → AreRight f w.server.state.jobs.list → failure ≡ None → f id ≡ k → i.up ≡ [] → ReceivesBy r failure w.server.state id None new
      → got (heard_up (flows f k t)) ≡ items (put_up (flows f k t))
  found_up SyncRules failure t w id k new i right alive own none p = let bad = p.0.2 in cc
  found_up AsyncRules (Some why) t w id k new i right alive own none p = cc
  found_up AsyncRules None t w id k new i right alive own none (inl p) =
      let jobs : List ActiveJob = w.server.state.jobs.list in
      let m = mailed (job_at jobs id) p.0 p.2 in
      let j = m.0 in
      let at = job_is jobs id j m.1 in
      let stream : j.header.stream_id ≡ k = sym (ap f (sym at.3) ∙ all_at (λ (x : ActiveJob). f x.id ≡ x.header.stream_id) at.0 at.1 j (subst (λ (js : List ActiveJob). AreRight f js) at.2 right)) ∙ own in
      let o = only_of (jobs_at at.0 k) (jobs_at at.1 k) j (i.stories k) (ap (λ js. jobs_at js k) at.2 ∙ between_own stream_id_of k at.0 at.1 j stream) in
      all_given_up j p.0 p.1 o.holds m.2 p.3 (ap (parcels k) none)
  found_up AsyncRules None t w id k new i right alive own none (inr p) = let bad = p.0.4 in cc

  found_down : (failure : Option Failure) (t : List Entry) (w : Net CO CI SO SI) (id k : ℕ) (st : Option StreamState) → (i : Keeps c s set f t w) → failure ≡ None → id ≡ k → i.down ≡ [] → ReceivesAt failure (stream_at w.client.state id) None st
      → got (heard_down (flows f k t)) ≡ items (put_down set.rules set.limit (flows f k t))
  found_down None t w id k st i alive own none p = let n = i.stories k in all_given_down n.origin n.so_far (stream_at w.client.state k) st refl n.known (subst (λ (n : ℕ). ReceivesAt None (stream_at w.client.state n) None st) own p) (ap (parcels k) none)
  found_down (Some why) t w id k st i alive own none p = cc

  same_flows : (k : ℕ) (t : List Entry) (event : Event) (reply : Reply) → flow_of f k event reply ≡ [] → flows f k (with_entry t event reply) ≡ flows f k t
  same_flows k t event reply none = said_then (flow_of f k) t event reply ∙ ap (λ xs. flows f k t ++ xs) none ∙ append-nil (flows f k t)

  up_starts : (k : ℕ) → Starts c s seals steady set f (finds_nothing_up f k) (AllUp k)
  up_starts k t w (Recv (ServerEnd id)) (Item None) v i is = λ idle.
      let b = up_back c s seals steady set f t w (Recv (ServerEnd id)) (Item None) v i refl refl refl i.does idle in
      let same = same_flows k t (Recv (ServerEnd id)) (Item None) refl in
      let none = none_flies i.before.upward i.cleanly.before.server i.cleanly.whole.up b.0.none_queued b.0.none_carried in
      ap (λ xs. got (heard_up xs)) same ∙ found_up w.server.state.rules w.server.connection.failure t w id k v.server.state.jobs.list i.before i.right i.cleanly.before.server (eqb-true (f id) k is) none i.does.0.own ∙ sym (ap (λ xs. items (put_up xs)) same)
  up_starts k t w event reply v i is = let bad : false ≡ true = is in cc

  down_starts : (k : ℕ) → Starts c s seals steady set f (finds_nothing_down k) (AllDown k)
  down_starts k t w (Recv (ClientEnd id)) (Item None) v i is = λ idle.
      let b = down_back c s seals steady set f t w (Recv (ClientEnd id)) (Item None) v i refl refl refl i.does idle in
      let same = same_flows k t (Recv (ClientEnd id)) (Item None) refl in
      let none = none_flies i.before.downward i.cleanly.before.client i.cleanly.whole.down b.0.none_queued b.0.none_carried in
      ap (λ xs. got (heard_down xs)) same ∙ found_down w.client.connection.failure t w id k (stream_at v.client.state id) i.before i.cleanly.before.client (eqb-true id k is) none i.does.0.own ∙ sym (ap (λ xs. items (put_down set.rules set.limit xs)) same)
  down_starts k t w event reply v i is = let bad : false ≡ true = is in cc

  -- ---- at the end

  -- EACH STREAM IS WHOLE at the end of a clean run where nothing is queued and nothing is in a pipe.
  pub whole_stream : (w : Net CO CI SO SI) (trace : List Entry) (v : Net CO CI SO SI) → set.clean → Stands c s seals steady set f [] w trace v → IsEmpty v → (k : ℕ) → IsWholeStream set.rules set.limit f k trace
  whole_stream w trace v clean x e k =
      let order = in_order_here ((kept_at_end c s seals steady set f [] trace w v x).stories k) in
      record {
        up = λ asked. elim asked [
          | inl end ↦ given_by_end order.up end
          | inr since_ ↦ since_holds c s seals steady set f ServerSide (finds_nothing_up f k) (AllUp k) (up_stays k) (up_starts k) clean [] trace w v false x (λ h. cc) since_ (record { none_queued = e.up_queue; none_carried = e.up })
        ];
        down = λ asked. elim asked [
          | inl end ↦ given_by_end order.down end
          | inr since_ ↦ since_holds c s seals steady set f ClientSide (finds_nothing_down k) (AllDown k) (down_stays k) (down_starts k) clean [] trace w v false x (λ h. cc) since_ (record { none_queued = e.down_queue; none_carried = e.down })
        ];
      }

-- EACH STREAM OF A CLEAN QUIET RUN IS WHOLE: of any run from a fresh start.
pub whole_streams : {CO CI SO SI : Type 0} (c : Halves CO CI) (s : Halves SO SI) (seals : Bool) (steady : AreSteady c s seals)
    (w v : Net CO CI SO SI) (trace : List Entry) (f : ℕ → ℕ) → IsFresh c s w → (r : Runs c s seals w trace v) → IsRightRun c s seals f w trace v r → AreWholeStreams w.server.state.rules (safe_limit s.out w.server.connection.outbox.half) f trace
whole_streams c s seals steady w v trace f n r right clean quiet k =
    let set : Settings = record { rules = w.server.state.rules; services = w.server.state.services; limit = safe_limit s.out w.server.connection.outbox.half; clean = IsClean w.server.state.rules f trace } in
    let x = begins c s seals steady set f w trace v (refl, refl, refl) n r right (λ z. fresh_run c s seals set.rules f w trace v n z quiet.drained r) in
    whole_stream c s seals steady set f w trace v clean x (empty_at_end c s seals steady w v trace set.rules f n r clean quiet.drained) k
