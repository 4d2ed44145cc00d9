-- The errors that report why a connection failed.
-- Source: the Rust crate, for the texts on the socket and on requests during write; the others are this project's.
use Rattle.std.specs.Prelude.{◌≡◌, codes, Bool, true, false, Option, None, Some, Result, Ok, Err}
use Rattle.ttrpc_connection.specs.Types.{Error, Failure, Told, Broke, Disconnected, DisconnectedInside, HandlerError, JobIdsUsedUp, DeadlineDuringWrite, CancelledDuringWrite, MemoryRefused}
use Rattle.ttrpc_proto.specs.declared.error.Error.TheVariants.{Socket, Others, NoMemory}
use Rattle.ttrpc_proto.specs.KindText.{kind_text}
pub use Rattle.ttrpc_secure.specs.Context.Told.{IsTold}

-- Returns the error that reports a failure.
abbrev pub error_of : Failure → Error
error_of (Told error) = error
error_of (Broke kind) = Socket (kind_text kind)
error_of Disconnected = Socket (codes "socket disconnected")
error_of DisconnectedInside = Socket (codes "socket disconnected inside a frame")
error_of HandlerError = Socket (codes "connection closed after a handler error")
error_of JobIdsUsedUp = Others (codes "job ids are used up")
error_of DeadlineDuringWrite = Socket (codes "connection closed after a request deadline elapsed during write")
error_of CancelledDuringWrite = Socket (codes "connection closed after a request was cancelled during write")
error_of MemoryRefused = NoMemory

-- Returns the first failure: the earlier one if there is one, or else this one.
abbrev pub first_failure : Option Failure → Failure → Option Failure
first_failure None failure = Some failure
first_failure (Some first) failure = Some first

-- Holds if this is the result for a ticket: `Ok` if its frame was sent, or else the failure if the connection has failed, or else none.
abbrev pub TellsSent : Bool → Option Failure → Option (Result (Unit {0}) Error) → Type 0
TellsSent true failure told = told ≡ Some (Ok tt)
TellsSent false None told = told ≡ None
TellsSent false (Some failure) told = (error : Error) × IsTold (error_of failure) error × (told ≡ Some (Err error))
