-- The types of the code that these definitions use, in one list.
-- Source: this project's.
pub use Rattle.ttrpc_proto.specs.declared.framing.header.MessageHeader.{MessageHeader}
pub use Rattle.ttrpc_proto.specs.declared.framing.header.TheConstants.{MESSAGE_LENGTH_MAX, MESSAGE_TYPE_REQUEST}
pub use Rattle.ttrpc_proto.specs.declared.error.Error.{Error}
pub use Rattle.ttrpc_proto.specs.declared.framing.frame.Incoming.{Incoming}
pub use Rattle.ttrpc_proto.specs.declared.framing.outgoing.Queued.{Queued}
pub use Rattle.ttrpc_secure.specs.declared.transform.InboundTransform.{Ghosts as InboundTransform}
pub use Rattle.ttrpc_secure.specs.declared.transform.OutboundTransform.{Ghosts as OutboundTransform}
pub use Rattle.ttrpc_connection.specs.declared.arrived.Arrived.{Arrived}
pub use Rattle.ttrpc_connection.specs.declared.arrived.InboundResult.{InboundResult}
pub use Rattle.ttrpc_connection.specs.declared.arrived.InboundResult.TheVariants.{Opened, Refused, TooLong}
pub use Rattle.ttrpc_connection.specs.declared.connection.Connection.{Connection}
pub use Rattle.ttrpc_connection.specs.declared.failure.Failure.{Failure}
pub use Rattle.ttrpc_connection.specs.declared.failure.Failure.TheVariants.{Broke, CancelledDuringWrite, DeadlineDuringWrite, Disconnected, DisconnectedInside, HandlerError, JobIdsUsedUp, NoMemory, NoMemory as MemoryRefused, Told}
pub use Rattle.ttrpc_connection.specs.Outbox.{Outbox}
pub use Rattle.ttrpc_connection.specs.declared.thing.MailboxEntry.{MailboxEntry}
pub use Rattle.ttrpc_connection.specs.declared.thing.MailboxEntry.TheVariants.{Item, Last, End, Closing, Breaking}
pub use Rattle.ttrpc_connection.specs.declared.mailbox.Receiver.{Receiver}
pub use Rattle.ttrpc_connection.specs.declared.mailbox.Receiver.TheVariants.{Open, Closed, Broken, Dropped}
