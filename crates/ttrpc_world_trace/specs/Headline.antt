-- THE HEADLINE: the properties of a whole trace.
-- Source: this project's.
use Rattle.std.specs.Prelude.{◌≡◌, ℕ, List, ◌++◌}
use Rattle.ttrpc_server.specs.State.{Services}
use Rattle.ttrpc_server.specs.declared.rules.Rules.{Rules}
use Rattle.ttrpc_world_trace.specs.Types.{Entry}
use Rattle.ttrpc_world_trace.specs.Trace.{acts, IsOneToOne, IsStreamOf}
use Rattle.ttrpc_world_trace.specs.Told.{IsExactlyOnce}
use Rattle.ttrpc_world_trace.specs.Flows.{AreInOrder, flows}
use Rattle.ttrpc_world_trace.specs.Clean.{AreWholeCalls, AreWholeStreams}

-- Holds if the function `stream_of` is right for each job that was handed out, and no two jobs have the same stream id. No handler
-- runs without a call or a stream, twice for one of them, or with another request. Each call has at most one outcome, and an `Ok`
-- outcome is the answer of its one run. At each place of the trace, the items that a receiver was given are a beginning of the items
-- that were put in, and an end comes after all of them. A clean quiet run is whole. The outcome of an answer depends on the server's
-- rules and on the limit of the data that the server may seal.
pub record IsTold (rules : Rules) (services : Services) (limit : ℕ) (stream_of : ℕ → ℕ) (trace : List Entry) : Type 0 where
  pub agrees : IsStreamOf stream_of trace
  pub one_to_one : IsOneToOne stream_of
  pub exactly_once : (id : ℕ) → IsExactlyOnce (acts stream_of id trace)
  pub in_order : (front back : List Entry) → trace ≡ front ++ back → (id : ℕ) → AreInOrder rules limit (flows stream_of id front)
  pub whole_calls : AreWholeCalls rules services limit stream_of trace
  pub whole_streams : AreWholeStreams rules limit stream_of trace
