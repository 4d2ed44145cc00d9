-- Each event of the client keeps the invariant.
use Rattle.ttrpc_world.proofs.Delivers.{around, at_one, next_up, Stories}
use Rattle.ttrpc_world.proofs.Keeps.{AreSteady, Keeps, keeps_still}
use Rattle.ttrpc_world.proofs.Numbers.{asked_more, Between, counts, items_more, Numbers, other_requests}
use Rattle.ttrpc_world.proofs.OneWay.{goes_on, joins}
use Rattle.ttrpc_world.proofs.Flights.{data_brings, IsData, IsRequestFlight, sends_data, sends_request, SendsFlight}
use Rattle.ttrpc_world.proofs.Throws.{AreSingle, back_stays, nothing_thrown, PartsOf, some_thrown, Stays, Thrown}
use Rattle.ttrpc_world.proofs.Words.{[], act_of, all_joined, ap, arith, asked, asks_here, AsyncKind, begins_here, Birth, Bool, box_down, ByCall, ByOpen, call_at, CallEvent, CancelledDuringWrite, Client, ClientCore, ClientEnd, ClientKind, closed_error, Connection, data_thing, deadline_of, DeadlineDuringWrite, Done, DropCall, DropReceiver, drops_here, DropSender, DropsReceiver, DropsSender, due_at, elsewhere, Entry, eqb-true, Error, Event, expires_here, Failure, false, first_act, first_flow, flags_of, Flow, flow_of, Flying, Forgot, Given, given, GoesOn, Halves, has_response, heard, HeardDown, hears_here, here_at, id_of, if◌then◌else◌, inl, inr, is_some, IsBegun, IsOdd, IsOwned, IsPlainFailure, IsPut, IsRequest, IsStarted, Item, last_id, Later, List, Named, nat_eq, Net, None, one_request, only_if, OpenEvent, opening_flags, OpensStream, Option, Outbox, Outcome, parcels, Passes, Place, pushed_other, pushed_own, Recv, refl, Reply, Request, request_of, Requests, Response, Result, said, Sender, SenderClosed, sends_here, SendsOn, Settings, silent, Some, stays_as_it_is, StreamState, stream_at, stream_within, StreamReceives, subst, sym, SyncKind, taken_back, takes_back, TakesOutcome, MailboxEntry, thrown_here, throws, told, true, unasked, unchanged, unheard, unheard_here, unsendable, unsendable_error, unsent_here, untold, waits, wants, with_client, with_entry, with_sender, ℕ, ◌%◌, ◌++◌, ◌+◌, ◌<◌, ◌^◌, ◌∙◌, ◌∷◌, ◌≡◌, ◌≢◌, ◌≤◌, ◌⊎◌}

-- dropping takes a request back only where requests are thrown away, and where the call waits
back_only : (failed may waiting : Bool) → (if failed then false else if may then waiting else false) ≡ true → (may ≡ true) × (waiting ≡ true)
back_only false true waiting e = (refl, e)
back_only failed may waiting e = (cc, cc)

-- requests are thrown away only where they aren't sealed
throws_unsealed : (kind : ClientKind) (seals : Bool) → throws kind seals ≡ true → seals ≡ false
throws_unsealed SyncKind seals e = cc
throws_unsealed AsyncKind false e = refl
throws_unsealed AsyncKind true e = cc

-- of an id all stays in flight, or nothing where it is an owner's
same_or_none : {T : Type 0} (owners : ℕ → Bool) (k : ℕ) (flights left : List Flying) → (owners k ≡ true → T) → PartsOf owners k flights left → (parcels k left ≡ parcels k flights) ⊎ (T × (parcels k left ≡ []))
same_or_none owners k flights left owned (inl same) = inl same
same_or_none owners k flights left owned (inr none) = inr (owned none.0, none.1)

-- once a sender has closed, nothing more is sent
closed_for : (wants : Bool) → (if wants then closed_error SenderClosed else Some unsendable_error) ≡ None → ⊥
closed_for true e = cc
closed_for false e = cc

pub closed_sends : (st : Option StreamState) → unsendable (with_sender SenderClosed st) ≡ None → ⊥
closed_sends None e = cc
closed_sends (Some s) e = closed_for s.streaming_client e

-- the sender isn't what the client receives by
sender_box : (sender : Sender) (st : Option StreamState) → (box_down (with_sender sender st) ≡ box_down st) × (wants (with_sender sender st) ≡ wants st)
sender_box sender None = (refl, refl)
sender_box sender (Some s) = (refl, refl)

module _ {CO CI SO SI : Type 0} (c : Halves CO CI) (s : Halves SO SI) (seals : Bool) (steady : AreSteady c s seals)
    (set : Settings) (f : ℕ → ℕ) (trace : List Entry) where
  abbrev Kept : List Entry → Net CO CI SO SI → Type 0
  Kept t w = Keeps c s set f t w

  abbrev StoriesOf : Net CO CI SO SI → List Entry → List Flying → List Flying → Client → Type 0
  StoriesOf w t up down state = Stories set (has_response w) f t up down w.server.state.jobs.list state

  abbrev PlaceOf : Net CO CI SO SI → List Entry → List Flying → List Flying → Client → ℕ → Type 0
  PlaceOf w t up down state n = Place (around set (has_response w) state.next) n (here_at f t up down w.server.state.jobs.list state n)

  later_of : (w : Net CO CI SO SI) (x : Client) → x.next ≡ w.client.state.next → (k : ℕ) → Later (around set (has_response w) w.client.state.next) (around set (has_response w) x.next) k
  later_of w x next k = next_up set (has_response w) w.client.state.next x.next k (omega (arith, next))

  -- ---- one more frame is sent

  -- what is sent is in flight
  sends_up : (w : Net CO CI SO SI) (t : List Entry) (x : ClientCore CO CI) (is_such : Flying → Type 0) → (i : Kept trace w) → (r : SendsFlight c.out w.client.connection.outbox is_such x.connection.outbox)
      → StoriesOf w t (i.up ++ r.y ∷ []) i.down x.state → Numbers f (counts w.server.state.jobs) (i.up ++ r.y ∷ []) x.state.next
      → x.connection.decoder ≡ w.client.connection.decoder → x.connection.inbound ≡ w.client.connection.inbound → (x.connection.failure ≡ None → w.client.connection.failure ≡ None)
      → Kept t (with_client w x)
  sends_up w t x is_such i r stories numbers held inbound lives = record {
    up = i.up ++ r.y ∷ [];
    down = i.down;
    stories = stories;
    numbers = numbers;
    own = all_joined IsOwned i.up (r.y ∷ []) i.own (r.own, tt);
    upward = joins c.out s.in_ w.client.connection.outbox x.connection.outbox w.server.connection w.up i.up r.y r.queue r.seal r.sound i.upward;
    downward = goes_on s.out c.in_ _ _ w.client.connection x.connection w.down i.down refl held inbound lives i.downward;
  }

  -- what the event says of each id: that it is used, if it is this one
  abbrev IsBirth : Event → ℕ → Birth → Type 0
  IsBirth event id b = (k : ℕ) → (act_of f k event (Named id) ≡ only_if (nat_eq id k) (first_act b)) × (flow_of f k event (Named id) ≡ only_if (nat_eq id k) (first_flow b))

  -- An id is used, by a call or a stream.
  keeps_birth : (w : Net CO CI SO SI) (event : Event) (id : ℕ) (b : Birth) (x : ClientCore CO CI) → (i : Kept trace w) → SendsFlight c.out w.client.connection.outbox (IsRequestFlight id (request_of b) (flags_of b)) x.connection.outbox
      → IsBirth event id b → IsOdd b id → id ≡ w.client.state.next → id ≤ last_id → x.state.next ≡ id + 2
      → (call_at w.client.state id ≡ None → stream_at w.client.state id ≡ None → IsBegun b (call_at x.state id) (stream_at x.state id) × IsStarted b (stream_at x.state id))
      → ((k : ℕ) → id ≢ k → (call_at x.state k ≡ call_at w.client.state k) × (stream_at x.state k ≡ stream_at w.client.state k))
      → x.connection.decoder ≡ w.client.connection.decoder → x.connection.inbound ≡ w.client.connection.inbound → (x.connection.failure ≡ None → w.client.connection.failure ≡ None)
      → Kept (with_entry trace event (Named id)) (with_client w x)
  keeps_birth w event id b x i r birth odd id_is within next begun others held inbound lives =
      let t = with_entry trace event (Named id) in
      let n = w.client.state.next in
      let stream : r.y.frame.message.header.stream_id ≡ id = r.is.sent.stream in
      sends_up w t x (IsRequestFlight id (request_of b) (flags_of b)) i r
      (at_one (PlaceOf w t (i.up ++ r.y ∷ []) i.down x.state) id
      (elsewhere (unchanged (around set (has_response w) x.state.next) id) (begins_here {e = call_at x.state id} {st = stream_at x.state id} b r.y (i.stories id) refl (λ j h. h) (omega (arith, id_is)) (λ y. absurd (let no : ⊥ = omega (arith, y, next) in no)) within r.is.sent r.is.flags_are odd begun)
      (heard (act_of f id) id id trace event (Named id) (first_act b) (birth id).0 refl) (heard (flow_of f id) id id trace event (Named id) (first_flow b) (birth id).1 refl) (pushed_own id_of id r.y i.up stream) refl refl refl refl)
      (λ k e. let o = others k e in elsewhere (next_up set (has_response w) n x.state.next k (omega (arith, next, id_is))) (i.stories k)
      (unheard (act_of f k) k id trace event (Named id) (first_act b) (birth k).0 e) (unheard (flow_of f k) k id trace event (Named id) (first_flow b) (birth k).1 e)
      (pushed_other id_of k r.y i.up (λ same. e (sym stream ∙ same))) refl refl o.0 o.1))
      (asked_more f (counts w.server.state.jobs) i.up r.y n x.state.next (omega (arith, stream, id_is)) (omega (arith, stream, next)) (omega (arith, id_is, next)) i.numbers)
      held inbound lives

  -- A call is accepted.
  pub keeps_call : (w : Net CO CI SO SI) (request : Request) (id : ℕ) (v : Net CO CI SO SI) → Kept trace w → IsRequest request → Requests c.out w.client request w.moment id v.client → id % 2 ≡ 1 → Kept (with_entry trace (CallEvent request) (Named id)) (with_client w v.client)
  keeps_call w request id v i known p odd =
      let g = p.is_frame in
      let streams : (k : ℕ) → stream_at v.client.state k ≡ stream_at w.client.state k = λ k. ap (λ (x : ClientCore CO CI). stream_at x.state k) p.same in
      keeps_birth w (CallEvent request) id (ByCall request) v.client i
      (sends_request c.out w.client.connection.outbox request id 0 p.frame v.client.connection.outbox known p.sends (omega (arith, p.fits)) p.in_range g.stream_id g.type_ g.flags (omega arith) g.owner)
      (λ k. (refl, refl)) (rw odd refl) p.id_is p.in_range (ap (λ (x : ClientCore CO CI). x.state.next) p.same)
      (λ none unheard_of. (((deadline_of w.moment request.timeout_nano, p.own), streams id ∙ unheard_of), streams id ∙ unheard_of)) (λ k e. (p.others k (λ same. e (sym same)), streams k))
      (ap (λ (x : ClientCore CO CI). x.connection.decoder) p.same) (ap (λ (x : ClientCore CO CI). x.connection.inbound) p.same) (λ _. p.alive)

  low_flags : (up : Bool) → opening_flags up < 2 ^ 8
  low_flags true = omega arith
  low_flags false = omega arith

  -- A stream is opened.
  pub keeps_open : (w : Net CO CI SO SI) (request : Request) (up down : Bool) (id : ℕ) (v : Net CO CI SO SI) → Kept trace w → IsRequest request → OpensStream c.out w.client request up down id v.client
      → Kept (with_entry trace (OpenEvent request up down) (Named id)) (with_client w v.client)
  keeps_open w request up down id v i known p =
      let g = p.is_frame in
      let calls : (k : ℕ) → call_at v.client.state k ≡ call_at w.client.state k = λ k. ap (λ (x : ClientCore CO CI). call_at x.state k) p.same in
      keeps_birth w (OpenEvent request up down) id (ByOpen request up down) v.client i
      (sends_request c.out w.client.connection.outbox request id (opening_flags up) p.frame v.client.connection.outbox known p.sends (omega (arith, p.fits)) p.in_range g.stream_id g.type_ g.flags (low_flags up) g.owner)
      (λ k. (refl, refl)) tt p.id_is p.in_range (ap (λ (x : ClientCore CO CI). x.state.next) p.same)
      (λ none unheard_of. (calls id ∙ none, p.own)) (λ k e. (calls k, p.others k (λ same. e (sym same))))
      (ap (λ (x : ClientCore CO CI). x.connection.decoder) p.same) (ap (λ (x : ClientCore CO CI). x.connection.inbound) p.same) (λ _. p.alive)

  -- Data are sent on a stream, which bring this.
  pub keeps_send : (w : Net CO CI SO SI) (event : Event) (reply : Reply) (id flags : ℕ) (plain : List ℕ) (sender : Sender) (ticket : ℕ) (v : Net CO CI SO SI) (put : Flow) (thing : MailboxEntry) → Kept trace w → flags < 2 ^ 8 → SendsOn c.out w.client id flags plain sender ticket v.client
      → ((k : ℕ) → (act_of f k event reply ≡ []) × (flow_of f k event reply ≡ only_if (nat_eq id k) put)) → IsPut put thing → data_thing id flags plain ≡ thing → GoesOn thing (with_sender sender (stream_at w.client.state id)) → Kept (with_entry trace event reply) (with_client w v.client)
  keeps_send w event reply id flags plain sender ticket v put thing i low p says is_put brings on =
      let x = v.client in
      let t = with_entry trace event reply in
      let some : stream_at w.client.state id ≡ None → ⊥ = λ none. unsendable_none (stream_at w.client.state id) none p.sendable in
      let within = stream_within (i.stories id).origin (i.stories id).so_far (i.stories id).known some in
      let r = sends_data c.out w.client.connection.outbox id flags ticket plain x.connection.outbox within low p.sends in
      let stream : r.y.frame.message.header.stream_id ≡ id = r.is.item.stream in
      let next : x.state.next ≡ w.client.state.next = ap (λ (y : ClientCore CO CI). y.state.next) p.same in
      let calls : (k : ℕ) → call_at x.state k ≡ call_at w.client.state k = λ k. ap (λ (y : ClientCore CO CI). call_at y.state k) p.same in
      let box = sender_box sender (stream_at w.client.state id) in
      sends_up w t x (IsData id flags plain) i r
      (at_one (PlaceOf w t (i.up ++ r.y ∷ []) i.down x.state) id
      (elsewhere (later_of w x.state next id) (sends_here {st = stream_at x.state id} put thing r.y (i.stories id).origin (i.stories id).so_far (i.stories id).known some r.is.item is_put (data_brings r.is ∙ brings) p.sendable (subst (GoesOn thing) (sym p.own) on) (ap box_down p.own ∙ box.0) (ap wants p.own ∙ box.1))
      (silent (act_of f id) trace event reply (says id).0) (heard (flow_of f id) id id trace event reply put (says id).1 refl) (pushed_own id_of id r.y i.up stream) refl refl (calls id) refl)
      (λ k e. elsewhere (later_of w x.state next k) (i.stories k) (silent (act_of f k) trace event reply (says k).0) (unheard (flow_of f k) k id trace event reply put (says k).1 e)
      (pushed_other id_of k r.y i.up (λ same. e (sym stream ∙ same))) refl refl (calls k) (p.others k (λ same. e (sym same)))))
      (subst (λ (n : ℕ). Numbers f (counts w.server.state.jobs) (i.up ++ r.y ∷ []) n) (sym next) (items_more f (counts w.server.state.jobs) i.up r.y w.client.state.next (rw r.is.item.type_ refl) i.numbers))
      (ap (λ (y : ClientCore CO CI). y.connection.decoder) p.same) (ap (λ (y : ClientCore CO CI). y.connection.inbound) p.same) (λ _. p.alive)
    where
      unsendable_none : (st : Option StreamState) → st ≡ None → unsendable st ≡ None → ⊥
      unsendable_none st none e = let bad : unsendable None ≡ None = ap unsendable (sym none) ∙ e in cc

  -- ---- what is kept of calls and streams changes

  abbrev Left : (ℕ → Bool) → Net CO CI SO SI → Outbox CO → List Flying → Type 0
  Left owners w x flights = Thrown c.out s.in_ owners x w.server.connection w.up flights

  -- an owner's call is kept, and in a clean run there are none
  abbrev AreKept : (ℕ → Bool) → Net CO CI SO SI → Type 0
  AreKept owners w = (k : ℕ) → owners k ≡ true → (call_at w.client.state k ≡ None → ⊥) × (set.clean → ⊥)

  -- what is kept changes, requests may be thrown away, and the connection may fail
  client_changes : (owners : ℕ → Bool) (w : Net CO CI SO SI) (t : List Entry) (x : ClientCore CO CI) → (i : Kept trace w) → x.connection.decoder ≡ w.client.connection.decoder → x.connection.inbound ≡ w.client.connection.inbound
      → (x.connection.failure ≡ None → w.client.connection.failure ≡ None) → x.state.next ≡ w.client.state.next → AreKept owners w → (l : Left owners w x.connection.outbox i.up)
      → (StoriesOf w trace l.left i.down w.client.state → StoriesOf w t l.left i.down x.state)
      → Kept t (with_client w x)
  client_changes owners w t x i held inbound lives next some l stories = record {
    up = l.left;
    down = i.down;
    stories = stories (λ k. thrown_here (parcels k l.left) (i.stories k) (same_or_none owners k i.up l.left (some k) (l.parts k)));
    numbers = other_requests i.numbers (subst (λ (n : ℕ). Between i.numbers.low l.left n) (sym next) (l.rising i.numbers.low w.client.state.next i.numbers.between));
    own = l.own;
    upward = l.way;
    downward = goes_on s.out c.in_ _ _ w.client.connection x.connection w.down i.down refl held inbound lives i.downward;
  }

  -- and the connection stays
  state_changes : (w : Net CO CI SO SI) (t : List Entry) (x : ClientCore CO CI) → (i : Kept trace w) → x.connection ≡ w.client.connection → x.state.next ≡ w.client.state.next → (StoriesOf w trace i.up i.down w.client.state → StoriesOf w t i.up i.down x.state)
      → Kept t (with_client w x)
  unfolding nothing_thrown
  state_changes w t x i connection next stories =
      client_changes (λ k. false) w t x i (ap (λ d. d.decoder) connection) (ap (λ d. d.inbound) connection) (λ alive. rw (← connection) alive) next (λ k e. cc)
      (nothing_thrown c.out s.in_ x.connection.outbox w.server.connection w.up i.up (λ k. false) i.own (rw connection i.upward)) stories

  -- An outcome is asked for.
  pub keeps_ask : (w : Net CO CI SO SI) (id : ℕ) (given : Option (Result Response Error)) (v : Net CO CI SO SI) → Kept trace w → (set.clean → w.client.connection.failure ≡ None) → TakesOutcome w.client id given v.client → Kept (with_entry trace (Outcome id) (Given given)) (with_client w v.client)
  keeps_ask w id given v i alive p =
      let next : v.client.state.next ≡ w.client.state.next = ap (λ (x : ClientCore CO CI). x.state.next) p.same in
      let streams : (k : ℕ) → stream_at v.client.state k ≡ stream_at w.client.state k = λ k. ap (λ (x : ClientCore CO CI). stream_at x.state k) p.same in
      let t = with_entry trace (Outcome id) (Given given) in
      state_changes w t v.client i (ap (λ (x : ClientCore CO CI). x.connection) p.same) next
      (λ stories. at_one (PlaceOf w t i.up i.down v.client.state) id
      (elsewhere (later_of w v.client.state next id) (asks_here w.client.connection.failure given (stories id) p.gives alive) (asked f id id trace given refl) (silent (flow_of f id) trace (Outcome id) (Given given) refl) refl refl refl p.own (streams id))
      (λ k e. elsewhere (later_of w v.client.state next k) (stories k) (unasked f k id trace given e) (silent (flow_of f k) trace (Outcome id) (Given given) refl) refl refl refl (p.others k (λ same. e (sym same))) (streams k)))

  -- What is kept of one stream changes, and no other id hears of it.
  keeps_stream : (w : Net CO CI SO SI) (event : Event) (reply : Reply) (id : ℕ) (x : ClientCore CO CI) → (i : Kept trace w) → {this : ClientCore CO CI} → x ≡ this → this.connection ≡ w.client.connection → this.state.next ≡ w.client.state.next
      → ((k : ℕ) → call_at this.state k ≡ call_at w.client.state k) → ((k : ℕ) → k ≢ id → stream_at x.state k ≡ stream_at w.client.state k)
      → ((k : ℕ) → act_of f k event reply ≡ []) → ((k : ℕ) → id ≢ k → said (flow_of f k) (with_entry trace event reply) ≡ said (flow_of f k) trace) → {flow : List Flow} {st : Option StreamState}
      → Place (around set (has_response w) w.client.state.next) id (record (here_at f trace i.up i.down w.server.state.jobs.list w.client.state id) { flows = flow; stream = st })
      → said (flow_of f id) (with_entry trace event reply) ≡ flow → stream_at x.state id ≡ st → Kept (with_entry trace event reply) (with_client w x)
  keeps_stream w event reply id x i same connection was_next was_called others quiet unheard_by here flow stream =
      let t = with_entry trace event reply in
      let next : x.state.next ≡ w.client.state.next = ap (λ (y : ClientCore CO CI). y.state.next) same ∙ was_next in
      let calls : (k : ℕ) → call_at x.state k ≡ call_at w.client.state k = λ k. ap (λ (y : ClientCore CO CI). call_at y.state k) same ∙ was_called k in
      state_changes w t x i (ap (λ (y : ClientCore CO CI). y.connection) same ∙ connection) next
      (λ stories. at_one (PlaceOf w t i.up i.down x.state) id
      (elsewhere (later_of w x.state next id) here (silent (act_of f id) trace event reply (quiet id)) flow refl refl refl (calls id) stream)
      (λ k e. elsewhere (later_of w x.state next k) (stories k) (silent (act_of f k) trace event reply (quiet k)) (unheard_by k e) refl refl refl (calls k) (others k (λ same. e (sym same)))))

  -- An item is asked for.
  pub keeps_recv : (w : Net CO CI SO SI) (id : ℕ) (given : Option (Result (List ℕ) Error)) (v : Net CO CI SO SI) → Kept trace w → IsPlainFailure w.client.connection.failure → StreamReceives w.client id given v.client
      → Kept (with_entry trace (Recv (ClientEnd id)) (Item given)) (with_client w v.client)
  keeps_recv w id given v i plain p =
      let event = Recv (ClientEnd id) in
      keeps_stream w event (Item given) id v.client i p.same refl refl (λ k. refl) p.others (λ k. refl)
      (λ k e. untold (flow_of f k) k id trace event HeardDown given refl (λ word. refl) e)
      (hears_here {st = stream_at v.client.state id} w.client.connection.failure given (i.stories id) plain p.own)
      (told (flow_of f id) id id trace event HeardDown given refl (λ word. refl) refl) refl

  -- A receiver is dropped, or a sender.
  pub keeps_unheard : (w : Net CO CI SO SI) (id : ℕ) (v : Net CO CI SO SI) → Kept trace w → DropsReceiver w.client id v.client → Kept (with_entry trace (DropReceiver (ClientEnd id)) Done) (with_client w v.client)
  keeps_unheard w id v i p =
      let quiet = λ (k : ℕ). silent (flow_of f k) trace (DropReceiver (ClientEnd id)) Done refl in
      keeps_stream w (DropReceiver (ClientEnd id)) Done id v.client i p.same refl refl (λ k. refl) p.others (λ k. refl) (λ k e. quiet k) (unheard_here (i.stories id)) (quiet id) p.own

  pub keeps_unsent : (w : Net CO CI SO SI) (id : ℕ) (v : Net CO CI SO SI) → Kept trace w → DropsSender w.client id v.client → Kept (with_entry trace (DropSender id) Done) (with_client w v.client)
  keeps_unsent w id v i p =
      let quiet = λ (k : ℕ). silent (flow_of f k) trace (DropSender id) Done refl in
      keeps_stream w (DropSender id) Done id v.client i p.same refl refl (λ k. refl) p.others (λ k. refl) (λ k e. quiet k) (unsent_here (i.stories id)) (quiet id) p.own

  -- ---- requests are taken back, where they may be

  -- an id whose request may be thrown away is a call's
  single : (owners : ℕ → Bool) (w : Net CO CI SO SI) → AreKept owners w → (i : Kept trace w) → AreSingle owners i.up
  single owners w some i = λ k owner. one_request (i.stories k).origin (i.stories k).so_far (i.stories k).known (some k owner).0

  -- what is taken back leaves this in flight, of these owners
  record TakesBack (w : Net CO CI SO SI) (x : Outbox CO) (flights : List Flying) : Type 0 where
    owners : ℕ → Bool
    some : AreKept owners w
    left : Left owners w x flights

  back_throws : (w : Net CO CI SO SI) (ids : ℕ → Bool) (b : Bool) (why : Failure) → (b ≡ true → throws w.client.state.kind seals ≡ true) → (b ≡ true → AreKept ids w) → (i : Kept trace w)
      → TakesBack w (if b then taken_back w.client.connection ids why else w.client.connection).outbox i.up
  back_throws w ids true why may some i = record {
    owners = ids;
    some = some refl;
    left = some_thrown c.out s.in_ w.client.connection.outbox w.server.connection w.up i.up w.server.connection.failure refl (steady.still (throws_unsealed w.client.state.kind seals (may refl))) ids (single ids w (some refl) i) i.own i.upward;
  }
  back_throws w ids false why may some i = record {
    owners = λ k. false;
    some = λ k e. cc;
    left = nothing_thrown c.out s.in_ w.client.connection.outbox w.server.connection w.up i.up (λ k. false) i.own i.upward;
  }

  taken_back_keeps : (w : Net CO CI SO SI) (t : List Entry) (x : ClientCore CO CI) (ids : ℕ → Bool) (b : Bool) (why : Failure) → (i : Kept trace w)
      → (b ≡ true → throws w.client.state.kind seals ≡ true) → (b ≡ true → AreKept ids w)
      → x.connection ≡ (if b then taken_back w.client.connection ids why else w.client.connection) → x.state.next ≡ w.client.state.next
      → ((left : List Flying) → StoriesOf w trace left i.down w.client.state → StoriesOf w t left i.down x.state)
      → Kept t (with_client w x)
  taken_back_keeps w t x ids b why i may some same next stories =
      let stays = subst (λ (d : Connection CO CI). Stays w.client.connection d) (sym same) (back_stays b w.client.connection ids why) in
      let taken = subst (λ (d : Connection CO CI). TakesBack w d.outbox i.up) (sym same) (back_throws w ids b why may some i) in
      client_changes taken.owners w t x i stays.decoder stays.inbound stays.lives next taken.some taken.left (stories taken.left.left)

  none_waits : (k id : ℕ) (w : Net CO CI SO SI) → waits (call_at w.client.state id) ≡ true → nat_eq k id ≡ true → call_at w.client.state k ≡ None → ⊥
  none_waits k id w waiting owner none =
      let same : k ≡ id = eqb-true k id owner in
      let bad : waits None ≡ true = ap waits (sym none ∙ ap (call_at w.client.state) same) ∙ waiting in
      cc

  -- A call is forgotten.
  pub keeps_drop : (w : Net CO CI SO SI) (id : ℕ) (v : Net CO CI SO SI) → Kept trace w → (set.clean → ⊥) → Forgot c s seals w id v → Kept (with_entry trace (DropCall id) Done) (with_client w v.client)
  keeps_drop w id v i never p =
      let next : v.client.state.next ≡ w.client.state.next = ap (λ (x : ClientCore CO CI). x.state.next) p.does.same in
      let streams : (k : ℕ) → stream_at v.client.state k ≡ stream_at w.client.state k = λ k. ap (λ (x : ClientCore CO CI). stream_at x.state k) p.does.same in
      keeps_still c s set f trace (with_client w v.client) (DropCall id) Done (λ k. (refl, refl))
      (taken_back_keeps w trace v.client (λ k. nat_eq k id) (takes_back seals w.client id) CancelledDuringWrite i
      (λ e. (back_only (is_some w.client.connection.failure) (throws w.client.state.kind seals) (waits (call_at w.client.state id)) e).0)
      (λ e k owner. (none_waits k id w (back_only (is_some w.client.connection.failure) (throws w.client.state.kind seals) (waits (call_at w.client.state id)) e).1 owner, never))
      (ap (λ (x : ClientCore CO CI). x.connection) p.does.same) next
      (λ left stories. at_one (PlaceOf w trace left i.down v.client.state) id
      (elsewhere (later_of w v.client.state next id) (drops_here (stories id) never) refl refl refl refl refl p.does.own (streams id))
      (λ k e. elsewhere (later_of w v.client.state next k) (stories k) refl refl refl refl refl (p.does.others k (λ same. e (sym same))) (streams k))))

  -- in a clean run no call is due
  abbrev NoneDue : Net CO CI SO SI → ℕ → Type 0
  NoneDue w now = set.clean → (k : ℕ) → due_at now (call_at w.client.state k) ≡ false

  -- A moment comes.
  pub keeps_passes : (w : Net CO CI SO SI) (now : ℕ) (x : ClientCore CO CI) (failure : Option Failure) → Kept trace w → NoneDue w now → Passes seals failure w.client now x → Kept trace (with_client w x)
  keeps_passes w now x None i undue p =
      let next : x.state.next ≡ w.client.state.next = ap (λ (y : Client). y.next) p.expires.same in
      let streams : (k : ℕ) → stream_at x.state k ≡ stream_at w.client.state k = λ k. ap (λ (y : Client). stream_at y k) p.expires.same in
      taken_back_keeps w trace x (λ id. due_at now (call_at w.client.state id)) (throws w.client.state.kind seals) DeadlineDuringWrite i (λ e. e) (λ e k due. (λ none. let bad : due_at now None ≡ true = ap (due_at now) (sym none) ∙ due in cc, λ clean. let bad : true ≡ false = sym due ∙ undue clean k in cc)) p.connection next
      (λ left stories k. elsewhere (later_of w x.state next k) (expires_here now (stories k) (λ clean. stays_as_it_is now (call_at w.client.state k) (undue clean k))) refl refl refl refl refl (p.expires.calls k) (streams k))
  keeps_passes w now x (Some why) i undue p = subst (λ (y : ClientCore CO CI). Kept trace (with_client w y)) (sym p) i
