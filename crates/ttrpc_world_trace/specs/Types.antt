-- The types of the code that these definitions use, in one list.
-- Source: this project's.
pub use Rattle.ttrpc_proto.specs.declared.error.Error.{Error}
pub use Rattle.ttrpc_proto.specs.declared.messages.Request.{Request}
pub use Rattle.ttrpc_proto.specs.declared.messages.Response.{Response}
pub use Rattle.ttrpc_world_trace.specs.declared.events.Entry.{Entry}
pub use Rattle.ttrpc_world_trace.specs.declared.events.Event.{Event}
pub use Rattle.ttrpc_world_trace.specs.declared.events.Event.TheVariants.{Answer, Call, Call as CallEvent, Carry, Close, Cut, Deliver, Drain, DropCall, DropReceiver, DropSender, EndStream, Fail, Finish, Open, Outcome, Recv, Respond, Send, Take, Tick}
pub use Rattle.ttrpc_world_trace.specs.declared.events.Reply.{Reply}
pub use Rattle.ttrpc_world_trace.specs.declared.events.Reply.TheVariants.{Count, Done, Handed, Item, Named, NoMemory, NoStep, Outcome as Given, Refused, Ticket}
