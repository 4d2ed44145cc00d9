-- What holds of a client, a server and their pipes after any run.
use Rattle.ttrpc_world.proofs.Delivers.{around, IsQuiet, Stories}
use Rattle.ttrpc_world.proofs.Numbers.{counts, Numbers}
use Rattle.ttrpc_world.proofs.OneWay.{OneWay}
use Rattle.ttrpc_world.proofs.Words.{act_of, AllByRecursion, Bool, elsewhere, Entry, Event, false, flow_of, Flying, Halves, has_response, IsOwned, List, Net, refl, Reply, Settings, silent, unchanged, with_entry, ℕ, ◌≡◌}

-- What the outbound halves keep: the client's stays as it is when it seals, unless it always seals; and the server's adds as many
-- bytes to each message.
pub record AreSteady {CO CI SO SI : Type 0} (c : Halves CO CI) (s : Halves SO SI) (seals : Bool) : Type 0 where
  pub still : seals ≡ false → (x y : CO) (plain aad sealed : List ℕ) → c.out.seals x plain aad sealed y → y ≡ x
  pub fixed : (x y : SO) (plain aad sealed : List ℕ) → s.out.seals x plain aad sealed y → s.out.overhead y ≡ s.out.overhead x

-- THE INVARIANT, under rules that stay. In flight are these frames each way, in order: as bytes, as seals, and each as a part
-- of one call or stream. A side that failed takes no more, so nothing need be said of what is still in flight to it. `f`
-- gives each job its stream.
pub record Keeps {CO CI SO SI : Type 0} (c : Halves CO CI) (s : Halves SO SI) (set : Settings) (f : ℕ → ℕ) (trace : List Entry) (w : Net CO CI SO SI) : Type 0 where
  pub up : List Flying
  pub down : List Flying
  pub stories : Stories set (has_response w) f trace up down w.server.state.jobs.list w.client.state
  pub numbers : Numbers f (counts w.server.state.jobs) up w.client.state.next
  pub own : AllByRecursion IsOwned up
  pub upward : OneWay c.out s.in_ w.client.connection.outbox w.server.connection w.up up
  pub downward : OneWay s.out c.in_ w.server.connection.outbox w.client.connection w.down down

-- nothing happened
pub keeps_still : {CO CI SO SI : Type 0} (c : Halves CO CI) (s : Halves SO SI) (set : Settings) (f : ℕ → ℕ) (trace : List Entry) (w : Net CO CI SO SI) (event : Event) (reply : Reply) → IsQuiet f event reply
    → Keeps c s set f trace w → Keeps c s set f (with_entry trace event reply) w
keeps_still c s set f trace w event reply q i = record {
  up = i.up;
  down = i.down;
  stories = λ k. elsewhere (unchanged (around set (has_response w) w.client.state.next) k) (i.stories k) (silent (act_of f k) trace event reply (q k).0) (silent (flow_of f k) trace event reply (q k).1) refl refl refl refl refl;
  numbers = i.numbers;
  own = i.own;
  upward = i.upward;
  downward = i.downward;
}
