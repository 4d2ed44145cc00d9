-- The types of the code that these definitions use, in one list.
-- Source: this project's.
pub use Rattle.ttrpc_wire.specs.declared.values.code.Code.{Code}
pub use Rattle.ttrpc_wire.specs.declared.values.code.Code.TheVariants.{DEADLINE_EXCEEDED, INVALID_ARGUMENT, UNIMPLEMENTED, UNKNOWN}
pub use Rattle.ttrpc_proto.specs.declared.framing.header.TheConstants.{MESSAGE_TYPE_DATA, MESSAGE_TYPE_RESPONSE}
pub use Rattle.ttrpc_proto.specs.declared.messages.Request.{Request}
pub use Rattle.ttrpc_proto.specs.declared.messages.Response.{Response}
pub use Rattle.ttrpc_proto.specs.declared.error.Error.TheVariants.{NoMemory, NoMemory as MemoryRefused, NoRoom, Others}
pub use Rattle.ttrpc_connection.specs.Types.{Error, Incoming, MESSAGE_LENGTH_MAX, MESSAGE_TYPE_REQUEST, MessageHeader, OutboundTransform, Queued}
pub use Rattle.ttrpc_connection.specs.declared.arrived.Arrived.{Arrived}
pub use Rattle.ttrpc_connection.specs.declared.arrived.InboundResult.TheVariants.{Opened, Refused, TooLong}
pub use Rattle.ttrpc_connection.specs.declared.connection.Connection.{Connection}
pub use Rattle.ttrpc_connection.specs.declared.failure.Failure.{Failure}
pub use Rattle.ttrpc_connection.specs.declared.failure.Failure.TheVariants.{HandlerError, JobIdsUsedUp, NoMemory as NoMemoryLeft}
pub use Rattle.ttrpc_connection.specs.declared.mailbox.Receiver.{Receiver}
pub use Rattle.ttrpc_connection.specs.declared.mailbox.Receiver.TheVariants.{Open, Closed, Broken, Dropped}
pub use Rattle.ttrpc_connection.specs.Mail.{Mail}
pub use Rattle.ttrpc_connection.specs.Outbox.{Outbox}
pub use Rattle.ttrpc_server.specs.declared.job.ActiveJob.{ActiveJob}
pub use Rattle.ttrpc_server.specs.declared.job.Body.{Body}
pub use Rattle.ttrpc_server.specs.declared.job.Body.TheVariants.{Stream, Unary}
pub use Rattle.ttrpc_server.specs.declared.job.Job.{Job}
pub use Rattle.ttrpc_server.specs.declared.rows.RequestKind.{RequestKind}
pub use Rattle.ttrpc_server.specs.declared.rows.RequestKind.TheVariants.{Call, NoMethod, NoPath, NoService, Stream as Chat}
pub use Rattle.ttrpc_server.specs.declared.rows.Case.{Case}
pub use Rattle.ttrpc_server.specs.declared.rows.Case.TheVariants.{Asks, EvenId, Inactive, InUse, NotAbove, Oversize, PutsIn, Skipped, Unopened}
pub use Rattle.ttrpc_server.specs.declared.rows.StreamIdState.{StreamIdState}
pub use Rattle.ttrpc_server.specs.declared.rows.StreamIdState.TheVariants.{Absent, Busy, Full, Taking}
pub use Rattle.ttrpc_server.specs.declared.rules.Rules.{Rules}
pub use Rattle.ttrpc_server.specs.declared.rules.Rules.TheVariants.{Async, Sync}
pub use Rattle.ttrpc_connection.specs.OneEnd.{Ends, failing, Takes, TakesOrDrains}
