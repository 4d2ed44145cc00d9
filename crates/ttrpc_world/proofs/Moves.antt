-- Each event that moves bytes, cuts a pipe or fails a side keeps the invariant.
use Rattle.ttrpc_world.proofs.Delivers.{feeds_down, feeds_up, IsTimely}
use Rattle.ttrpc_world.proofs.Keeps.{Keeps}
use Rattle.ttrpc_world.proofs.Numbers.{AreRight}
use Rattle.ttrpc_world.proofs.OneWay.{as_heard, breaks_land, carries, cuts, dead, feeds_land, kept_some, Lands, not_both, OneWay}
use Rattle.ttrpc_world.proofs.Words.{after_carry, all_behind, arith, Bool, BreaksAt, calling, CarriesDown, CarriesUp, Client, Connection, cut_to, CutsDown, CutsUp, DeliversDown, DeliversUp, Entry, Error, failing, Failure, Halves, has_response, is_over, IsOwned, length, lent_of, List, Net, None, OnlyClient, OnlyServer, open_part, Option, Pipe, pipe_after_carry, Queue, refl, Scene, scene, Server, serving, Settings, Some, StaysUp, taken_from, told, with_client, with_server, ℕ, ◌++◌, ◌≡◌, ◌≤◌}

-- no more is lent than is left of the first frame
lent_fits : (failure : Option Failure) (n k : ℕ) (q : Queue) → k ≡ lent_of failure n q → k ≤ length (open_part q)
lent_fits None n k q e = omega (arith, e)
lent_fits (Some x) n k q e = omega (arith, e)

module _ {CO CI SO SI : Type 0} (c : Halves CO CI) (s : Halves SO SI) (seals : Bool) (set : Settings) (f : ℕ → ℕ) (trace : List Entry) where
  abbrev Kept : Net CO CI SO SI → Type 0
  Kept w = Keeps c s set f trace w

  -- the states of both cores stay, and what is in flight
  rewired : (w : Net CO CI SO SI) (i : Kept w) (x : Connection CO CI) (y : Connection SO SI) (p q : Pipe) → OneWay c.out s.in_ x.outbox y p i.up → OneWay s.out c.in_ y.outbox x q i.down
      → Kept (record { client = record w.client { connection = x }; server = record w.server { connection = y }; up = p; down = q; moment = w.moment; responded = w.responded })
  rewired w i x y p q upward downward = record { up = i.up; down = i.down; stories = i.stories; numbers = i.numbers; own = i.own; upward = upward; downward = downward }

  -- a side fails
  pub server_fails : (w : Net CO CI SO SI) (why : Failure) → Kept w → Kept (with_server w (record w.server { connection = failing w.server.connection why }))
  server_fails w why i =
      rewired w i w.client.connection (failing w.server.connection why) w.up w.down (dead c.out s.in_ _ (failing w.server.connection why) w.up i.up (kept_some w.server.connection.failure why)) i.downward

  pub client_fails : (w : Net CO CI SO SI) (why : Failure) → Kept w → Kept (with_client w (record w.client { connection = failing w.client.connection why }))
  client_fails w why i =
      rewired w i (failing w.client.connection why) w.server.connection w.up w.down i.upward (dead s.out c.in_ _ (failing w.client.connection why) w.down i.down (kept_some w.client.connection.failure why))

  -- Bytes are carried.
  pub carry_up : (w : Net CO CI SO SI) (n k : ℕ) (v : Net CO CI SO SI) → Kept w → CarriesUp c s seals w n k v → Kept v
  carry_up w n k v i p =
      let x = w.client.connection in
      rw p.only (rewired w i (after_carry x k) w.server.connection (pipe_after_carry w.up k x.outbox.queue) w.down
      (carries c.out s.in_ x.outbox w.server.connection w.up i.up k (lent_fits x.failure n k x.outbox.queue p.count) i.upward) (record { bytes = i.downward.bytes; linked = i.downward.linked }))

  pub carry_down : (w : Net CO CI SO SI) (n k : ℕ) (v : Net CO CI SO SI) → Kept w → CarriesDown c s seals w n k v → Kept v
  carry_down w n k v i p =
      let y = w.server.connection in
      rw p.only (rewired w i w.client.connection (after_carry y k) w.up (pipe_after_carry w.down k y.outbox.queue)
      (record { bytes = i.upward.bytes; linked = i.upward.linked }) (carries s.out c.in_ y.outbox w.client.connection w.down i.down k (lent_fits y.failure n k y.outbox.queue p.count) i.downward))

  -- WHAT FRAMES DO THAT COME TO A SIDE: the first flights have acted there, and the others still are in flight, unless it
  -- failed.
  served : (w : Net CO CI SO SI) (i : Kept w) (new : Scene Server SO SI) (l : Lands c.out (serving s.out s.in_) w.moment w.client.connection.outbox (scene w.server.state w.server.connection) new i.up)
      (t : Server) (y : Connection SO SI) (p : Pipe) → w.server.state.rules ≡ set.rules → w.server.state.services ≡ set.services → IsTimely set f trace w.client.state w.moment → t ≡ new.state → AreRight f t.jobs.list → y.outbox ≡ new.outbox → OneWay c.out s.in_ w.client.connection.outbox y p l.rest
      → Kept (record w { server = record { state = t; connection = y }; up = p })
  served w i new l t y p ruled services timely state right outbox upward =
      let u = feeds_up c s set (has_response w) f trace w.client.state w.moment l.front l.rest i.down (scene w.server.state w.server.connection) new ruled services timely l.acts (rw l.all i.stories) (rw l.all i.numbers) (rw (← state) right) in
      record {
        up = l.rest;
        down = i.down ++ u.more;
        stories = rw state u.stories;
        numbers = rw state u.numbers;
        own = all_behind IsOwned l.front l.rest (rw l.all i.own);
        upward = upward;
        downward = rw outbox (u.sent w.client.connection w.down i.down i.downward);
      }

  landed : (w : Net CO CI SO SI) (i : Kept w) (new : Scene Client CO CI) (l : Lands s.out (calling c.out c.in_) 0 w.server.connection.outbox (scene w.client.state w.client.connection) new i.down)
      (t : Client) (x : Connection CO CI) (q : Pipe) → t ≡ new.state → x.outbox ≡ new.outbox → OneWay s.out c.in_ w.server.connection.outbox x q l.rest
      → Kept (record w { client = record { state = t; connection = x }; down = q })
  landed w i new l t x q state outbox downward =
      let d = feeds_down c set (has_response w) f trace 0 l.front i.up l.rest w.server.state.jobs.list (scene w.client.state w.client.connection) new l.acts (rw l.all i.stories) in
      record { up = i.up; down = l.rest; stories = rw state d.stories; numbers = rw (state, d.next) i.numbers; own = i.own; upward = rw (outbox, d.outbox) i.upward; downward = downward }

  -- Bytes are delivered.
  pub deliver_up : (w : Net CO CI SO SI) (n k : ℕ) (v : Net CO CI SO SI) → Kept w → w.server.state.rules ≡ set.rules → w.server.state.services ≡ set.services → IsTimely set f trace w.client.state w.moment → AreRight f v.server.state.jobs.list → DeliversUp c s seals w n k v → Kept v
  deliver_up w n k v i ruled services timely right p =
      let l = feeds_land c.out (serving s.out s.in_) w.moment w.server.state w.client.connection.outbox w.server.connection w.up i.up k v.server.state p.does.mid i.upward p.does.does in
      let is = λ (y : Connection SO SI). served w i (scene v.server.state p.does.mid) l.0 v.server.state y (taken_from w.up k) ruled services timely refl right in
      rw p.only (as_heard (λ y. Kept (record (with_server w (record { state = v.server.state; connection = y })) { up = taken_from w.up k })) (is_over (taken_from w.up k)) p.does.mid v.server.connection p.does.hears
      (is p.does.mid refl (record { bytes = λ alive. l.1; linked = λ alive. l.0.linked })) (λ why. is (failing p.does.mid why) refl (dead c.out s.in_ _ _ _ _ (kept_some p.does.mid.failure why))))

  pub stay_up : (w : Net CO CI SO SI) (k : ℕ) (v : Net CO CI SO SI) → Kept w → StaysUp c s seals w k v → Kept v
  stay_up w k v i p =
      rw p.only (as_heard (λ y. Kept (with_server w (record w.server { connection = y }))) (is_over w.up) w.server.connection v.server.connection p.hears
      i (λ why. server_fails w why i))

  pub deliver_down : (w : Net CO CI SO SI) (n k : ℕ) (v : Net CO CI SO SI) → Kept w → DeliversDown c s seals w n k v → Kept v
  deliver_down w n k v i p =
      let l = feeds_land s.out (calling c.out c.in_) 0 w.client.state w.server.connection.outbox w.client.connection w.down i.down k v.client.state p.does.mid i.downward p.does.does in
      let is = λ (x : Connection CO CI). landed w i (scene v.client.state p.does.mid) l.0 v.client.state x (taken_from w.down k) refl in
      rw p.only (as_heard (λ x. Kept (record (with_client w (record { state = v.client.state; connection = x })) { down = taken_from w.down k })) (is_over (taken_from w.down k)) p.does.mid v.client.connection p.does.hears
      (is p.does.mid refl (record { bytes = λ alive. l.1; linked = λ alive. l.0.linked })) (λ why. is (failing p.does.mid why) refl (dead s.out c.in_ _ _ _ _ (kept_some p.does.mid.failure why))))

  -- A side fails at bytes that are delivered.
  pub break_up : (w : Net CO CI SO SI) (n : ℕ) (told : Error) (v : Net CO CI SO SI) → Kept w → w.server.state.rules ≡ set.rules → w.server.state.services ≡ set.services → IsTimely set f trace w.client.state w.moment → AreRight f v.server.state.jobs.list → BreaksAt (serving s.out s.in_) w.server.state w.server.connection w.up w.moment n told v.server.state v.server.connection → OnlyServer c s seals w v → Kept v
  break_up w n told v i ruled services timely right b only =
      let l = breaks_land c.out (serving s.out s.in_) w.moment w.server.state w.client.connection.outbox w.server.connection w.up i.up n told v.server.state v.server.connection i.upward b in
      rw only (served w i b.mid l v.server.state v.server.connection w.up ruled services timely b.state right b.outbox (dead c.out s.in_ _ _ _ _ (not_both v.server.connection.failure b.failure b.fails)))

  pub break_down : (w : Net CO CI SO SI) (n : ℕ) (told : Error) (v : Net CO CI SO SI) → Kept w → BreaksAt (calling c.out c.in_) w.client.state w.client.connection w.down 0 n told v.client.state v.client.connection → OnlyClient c s seals w v → Kept v
  break_down w n told v i b only =
      let l = breaks_land s.out (calling c.out c.in_) 0 w.client.state w.server.connection.outbox w.client.connection w.down i.down n told v.client.state v.client.connection i.downward b in
      rw only (landed w i b.mid l v.client.state v.client.connection w.down b.state b.outbox (dead s.out c.in_ _ _ _ _ (not_both v.client.connection.failure b.failure b.fails)))

  -- A pipe is cut.
  pub cut_up : (w : Net CO CI SO SI) (keep : ℕ) (v : Net CO CI SO SI) → Kept w → CutsUp c s seals w keep v → Kept v
  cut_up w keep v i p =
      let is : Kept (record w { up = cut_to w.up keep }) = rewired w i w.client.connection w.server.connection (cut_to w.up keep) w.down (cuts c.out s.in_ _ w.server.connection w.up i.up keep i.upward) i.downward in
      rw p.only (as_heard (λ y. Kept (record (with_server w (record w.server { connection = y })) { up = cut_to w.up keep })) (is_over (cut_to w.up keep)) w.server.connection p.connection p.hears
      is (λ why. server_fails (record w { up = cut_to w.up keep }) why is))

  pub cut_down : (w : Net CO CI SO SI) (keep : ℕ) (v : Net CO CI SO SI) → Kept w → CutsDown c s seals w keep v → Kept v
  cut_down w keep v i p =
      let is : Kept (record w { down = cut_to w.down keep }) = rewired w i w.client.connection w.server.connection w.up (cut_to w.down keep) i.upward (cuts s.out c.in_ _ w.client.connection w.down i.down keep i.downward) in
      rw p.only (as_heard (λ x. Kept (record (with_client w (record w.client { connection = x })) { down = cut_to w.down keep })) (is_over (cut_to w.down keep)) w.client.connection p.connection p.hears
      is (λ why. client_fails (record w { down = cut_to w.down keep }) why is))
