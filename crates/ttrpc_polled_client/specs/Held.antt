-- How the future of a client's connection changes its core, under the lock.
-- Source: this project's.
use Rattle.std.specs.Prelude.{◌≡◌, ◌<◌, ◌^◌, ℕ, List, [], Bool, Option, Some, None, Result, IfSome, IfNone, is_ok, if◌then◌else◌}
use Rattle.std.specs.Result.{result_ok}
use Rattle.ttrpc_proto.specs.declared.error.Error.{Error}
use Rattle.ttrpc_proto.specs.ErrorText.{IsSocket}
use Rattle.ttrpc_secure.specs.declared.transform.InboundTransform.{Ghosts as InboundTransform}
use Rattle.ttrpc_secure.specs.declared.transform.OutboundTransform.{Ghosts as OutboundTransform}
use Rattle.ttrpc_connection.specs.declared.failure.Failure.{Failure}
use Rattle.ttrpc_connection.specs.declared.failure.Failure.TheVariants.{Told}
use Rattle.ttrpc_connection.specs.OneEnd.{Ends, Lends, Takes, failing, lending, reporting}
use Rattle.ttrpc_client.specs.declared.client.ClientCore.{ClientCore}
use Rattle.ttrpc_client.specs.Protocol.{Ticks}
use Rattle.ttrpc_client.specs.State.{IsDeadline, due_ids}
use Rattle.ttrpc_client.specs.Inside.{calling}

-- the core after it has reported all calls that ended, and all streams for which something came
abbrev pub all_told : {O I : Type 0} → ClientCore O I → ClientCore O I
all_told core = record core { state = record core.state { ended = []; heard = [] } }

-- A piece was fed to the core. It was taken whole or, if no count is given, in vain: the connection has failed. If it was taken, the core
-- has reported everything that came of it.
pub record TakesPiece {O I : Type 0} (seals : OutboundTransform O) (opens : InboundTransform I) (old : ClientCore O I) (piece : List ℕ) (count : Option ℕ) (new : ClientCore O I) : Type 0 where
  pub fed : ClientCore O I
  pub answer : Result ℕ Error
  pub takes : Takes (calling seals opens) old.state old.connection piece 0 answer fed.state fed.connection
  pub counted : count ≡ result_ok answer
  pub told : new ≡ (if is_ok answer then all_told fed else fed)

-- The input ended.
pub record EndsInput {O I : Type 0} (old new : ClientCore O I) : Type 0 where
  pub ends : Ends old.connection new.connection
  pub same : new ≡ record old { connection = new.connection }

-- A reader or a writer failed, and by that the connection. The error is `Socket`, with an open text, or `NoMemory` if memory for that was
-- refused.
pub record Breaks {O I : Type 0} (old new : ClientCore O I) : Type 0 where
  pub error : Error
  pub socket : IsSocket None error
  pub failed : new ≡ record old { connection = failing old.connection (Told error) }

-- This many bytes were lent, and reported as written.
pub record LendsAndReports {O I : Type 0} (old : ClientCore O I) (before : List ℕ) (count : ℕ) (after : List ℕ) (new : ClientCore O I) : Type 0 where
  pub lends : Lends old.connection before count after
  pub reported : new ≡ record old { connection = reporting (lending old.connection count) count }

-- A moment came, and the core has reported the calls that expired.
pub record TicksAndTells {O I : Type 0} (seals : Bool) (old : ClientCore O I) (now : ℕ) (new : ClientCore O I) : Type 0 where
  pub ticked : ClientCore O I
  pub failed : (f : Failure) → old.connection.failure ≡ Some f → ticked ≡ old
  pub alive : old.connection.failure ≡ None → Ticks seals old now ticked
  pub told : new ≡ record ticked { state = record ticked.state { ended = [] } }

-- The least moment at which a tick would make a call expire, or none if there is no such moment.
pub record ExpiresAt {O I : Type 0} (core : ClientCore O I) (at : Option ℕ) : Type 0 where
  pub some : IfSome at (λ moment. (core.connection.failure ≡ None) × IsDeadline core.state.calls moment)
  pub none : IfNone at (core.connection.failure ≡ None → (now : ℕ) → now < 2 ^ 64 → due_ids now core.state.calls ≡ [])
