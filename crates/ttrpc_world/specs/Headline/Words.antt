-- The definitions that the headline uses, in one list.
-- Source: this project's.
pub use Rattle.ttrpc_world_trace.specs.declared.events.Entry.{Entry}
pub use Rattle.ttrpc_world_trace.specs.Headline.{IsTold}
pub use Rattle.ttrpc_world_trace.specs.Flight.{Flying}
pub use Rattle.ttrpc_pair.specs.Types.{case_in, NotAbove, Opened, Server}
pub use Rattle.ttrpc_pair.specs.Pipes.{empty_pipe}
pub use Rattle.ttrpc_pair.specs.Net.{Net, IsFresh, halves}
pub use Rattle.ttrpc_pair.specs.Steps.{Runs}
