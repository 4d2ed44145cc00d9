-- The types of the code that these definitions use, in one list.
-- Source: this project's.
pub use Rattle.ttrpc_proto.specs.declared.messages.Request.{Request}
pub use Rattle.ttrpc_proto.specs.declared.messages.Response.{Response}
pub use Rattle.ttrpc_proto.specs.declared.error.Error.TheVariants.{LocalClosed, NoMemory, NoRoom, Others, RpcStatus}
pub use Rattle.ttrpc_connection.specs.Types.{Error, OutboundTransform, Queued}
pub use Rattle.ttrpc_connection.specs.declared.arrived.Arrived.{Arrived}
pub use Rattle.ttrpc_connection.specs.declared.connection.Connection.{Connection}
pub use Rattle.ttrpc_connection.specs.declared.failure.Failure.{Failure}
pub use Rattle.ttrpc_connection.specs.declared.failure.Failure.TheVariants.{CancelledDuringWrite, DeadlineDuringWrite}
pub use Rattle.ttrpc_connection.specs.declared.thing.MailboxEntry.{MailboxEntry}
pub use Rattle.ttrpc_connection.specs.declared.thing.MailboxEntry.TheVariants.{Breaking, Closing, Last}
pub use Rattle.ttrpc_connection.specs.declared.mailbox.Receiver.{Receiver}
pub use Rattle.ttrpc_connection.specs.declared.mailbox.Receiver.TheVariants.{Open as ReceiverOpen, Closed as ReceiverClosed, Broken as ReceiverBroken, Dropped as ReceiverDropped}
pub use Rattle.ttrpc_client.specs.declared.call.CallState.{CallState}
pub use Rattle.ttrpc_client.specs.declared.call.CallState.TheVariants.{Ended, Expired, Waiting}
pub use Rattle.ttrpc_client.specs.declared.kind.ClientKind.{ClientKind}
pub use Rattle.ttrpc_client.specs.declared.kind.ClientKind.TheVariants.{Async, Sync}
pub use Rattle.ttrpc_client.specs.declared.streams.StreamState.{StreamState}
pub use Rattle.ttrpc_client.specs.declared.streams.Sender.{Sender}
pub use Rattle.ttrpc_client.specs.declared.streams.Sender.TheVariants.{Closed, Dropped, Open}
