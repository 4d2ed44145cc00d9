-- The types of the code that these definitions use, in one list.
-- Source: this project's.
pub use Rattle.ttrpc_proto.specs.declared.messages.Response.{Response}
pub use Rattle.ttrpc_connection.specs.Types.{Error}
pub use Rattle.ttrpc_connection.specs.declared.connection.Connection.{Connection}
pub use Rattle.ttrpc_connection.specs.declared.failure.Failure.{Failure}
pub use Rattle.ttrpc_connection.specs.declared.failure.Failure.TheVariants.{CancelledDuringWrite, DeadlineDuringWrite, Disconnected, DisconnectedInside, HandlerError, Told}
pub use Rattle.ttrpc_world_trace.specs.declared.events.Entry.{Entry}
pub use Rattle.ttrpc_world_trace.specs.declared.events.Event.{Event}
pub use Rattle.ttrpc_world_trace.specs.declared.events.Event.TheVariants.{Answer, Call, Call as CallEvent, Carry, Close, Cut, Deliver, Drain, DropCall, DropReceiver, DropSender, EndStream, Fail, Finish, Open, Outcome, Recv, Respond, Send, Take, Tick}
pub use Rattle.ttrpc_world_trace.specs.declared.events.Reply.{Reply}
pub use Rattle.ttrpc_world_trace.specs.declared.events.Reply.TheVariants.{Count, Done, Handed, Item, Named, NoMemory, NoStep, Outcome as Given, Refused, Ticket}
pub use Rattle.ttrpc_server.specs.Protocol.{case_in}
pub use Rattle.ttrpc_server.specs.State.{Server}
pub use Rattle.ttrpc_server.specs.Table.{IsAbove}
pub use Rattle.ttrpc_server.specs.declared.rows.Case.TheVariants.{NotAbove}
pub use Rattle.ttrpc_connection.specs.declared.arrived.InboundResult.TheVariants.{Opened}
pub use Rattle.ttrpc_proto.specs.declared.framing.header.TheConstants.{MESSAGE_TYPE_REQUEST}
