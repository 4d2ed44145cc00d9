-- How a server stops.
-- Source: the Rust crate, for the text.
use Rattle.std.specs.Prelude.{◌≡◌, ◌⊎◌, ℕ, Bool, Result, Err, IfErr, codes}
use Rattle.std.specs.Arc.{arc_value}
use Rattle.std.specs.declared.time.Duration.{Duration}
use Rattle.tokio.specs.Timers.{IsDelayedBy, sleep_deadline, sleep_source}
use Rattle.ttrpc_proto.specs.declared.error.Error.{Error}
use Rattle.ttrpc_proto.specs.declared.error.Error.TheVariants.{LocalClosed, NoMemory, Others}
use Rattle.ttrpc_polled_server.specs.declared.stop.Disconnect.{Disconnect as ADisconnect}
use Rattle.ttrpc_polled_server.specs.declared.stop.Shutdown.{Shutdown as AShutdown}
use Rattle.ttrpc_polled_server.specs.declared.stop.StopState.{StopState}
use Rattle.ttrpc_polled_server.specs.declared.stop.StopListen.{StopListen as AStopListen}
use Rattle.ttrpc_polled_server.specs.declared.stop.Stopping.{Stopping}
use Rattle.ttrpc_polled_server.specs.declared.stop.Stopping.TheVariants.{Listens, Disconnects, Done}

-- connections are left, or memory for this error was refused
abbrev pub IsLeftOver : Error → Type 0
IsLeftOver e = (e ≡ Others (codes "waiters are left")) ⊎ (e ≡ NoMemory)

-- the end of connections waits at their source, and for the end of its time
abbrev pub DisconnectNeeds : ADisconnect → ℕ → Type 0
DisconnectNeeds d s = (s ≡ (arc_value d.stop).left.id) ⊎ (s ≡ sleep_source d.limit)

-- a shutdown waits for the listener, at most as long as for the connections, and then for the
-- connections
abbrev pub StoppingNeeds : Stopping → ℕ → Type 0
StoppingNeeds (Listens listener connections) s = (s ≡ (arc_value listener.stop).left.id) ⊎ (s ≡ sleep_source connections.limit)
StoppingNeeds (Disconnects connections) s = DisconnectNeeds connections s
StoppingNeeds Done s = ⊥

-- a shutdown fails only if connections are left; after its result it is closed
abbrev pub StoppingGives : Stopping → Result (Unit {0}) Error → Type 0
StoppingGives (Listens listener connections) r = IfErr r IsLeftOver
StoppingGives (Disconnects connections) r = IfErr r IsLeftOver
StoppingGives Done r = r ≡ Err LocalClosed

-- The future waits for the listener of a server that stops by this state, exactly if one listens.
pub record StopsListening (stop : StopState) (is_listening : Bool) (s : AStopListen) : Type 0 where
  pub own : arc_value s.stop ≡ stop
  pub waits : s.is_listening ≡ is_listening

-- The future ends the connections of a server that stops by this state, and waits this long for
-- them.
pub record EndsConnections (stop : StopState) (limit : Duration) (d : ADisconnect) : Type 0 where
  pub own : arc_value d.stop ≡ stop
  pub delay : IsDelayedBy limit (sleep_deadline d.limit)

-- the stop is to begin: first with the listener, and then with the connections
abbrev pub BeginsStop : StopState → Bool → Duration → Stopping → Type 0
BeginsStop stop is_listening limit (Listens listener connections) = StopsListening stop is_listening listener × EndsConnections stop limit connections
BeginsStop stop is_listening limit (Disconnects connections) = ⊥
BeginsStop stop is_listening limit Done = ⊥

-- the shutdown stops a server that stops by this state, and is to begin
abbrev pub IsShutdown : StopState → Bool → Duration → AShutdown → Type 0
IsShutdown stop is_listening limit s = (arc_value s.stop ≡ stop) × BeginsStop stop is_listening limit s.at
