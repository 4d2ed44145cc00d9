-- A notifier and a waiter as contracts see them.
-- Source: this project's.
use Rattle.std.specs.Prelude.{◌≡◌, ◌≢◌, ◌-◌, ◌≤◌, ⊤, ℕ, Bool, true, false, Option, Some, Result, Ok, Err, codes}
use Rattle.std.specs.Duration.{as_nanos}
use Rattle.std.specs.IoError.{error_kind}
use Rattle.std.specs.declared.time.Duration.{Duration}
use Rattle.std.specs.declared.io.Error.{Error as IoError}
use Rattle.atomic_table.specs.Seated.{TableId}
use Rattle.ttrpc_proto.specs.declared.error.Error.{Error}
use Rattle.ttrpc_proto.specs.declared.error.Error.TheVariants.{Nix, NoMemory, Others}
use Rattle.ttrpc_shutdown.specs.declared.rule.Holder.{Holder}
use Rattle.ttrpc_shutdown.specs.Rule.{holder}

-- a seat at a table, and the state of its holder
pub record Place : Type 0 where
  pub table : TableId
  pub holder : Holder

-- a seat at this table, with this state of its holder
abbrev pub place : TableId → Holder → Place
place table holder = record { table = table; holder = holder }

-- the same seat after its holder has read this count
abbrev pub having_read : Place → Option ℕ → Place
having_read p saw = place p.table (holder p.holder.notifies p.holder.shares p.holder.knows saw)

-- a notifier: its table, whether it knows that the flag is set, how long it waits at most, and the number of waiters that it read last
pub record Notifying : Type 0 where
  pub table : TableId
  pub knows : Bool
  pub wait_time : Option Duration
  pub saw : Option ℕ

-- a waiter: its table, and whether it knows that the flag is set
pub record Waiting : Type 0 where
  pub table : TableId
  pub knows : Bool

-- A seat may be given up if its holder has no share. The notifier's may be given up only if the flag is set.
pub record MayLeave (h : Holder) : Type 0 where
  pub no_share : h.shares ≡ false
  pub set : h.notifies ≡ true → h.knows ≡ true

-- the count was read, and waiters were left
abbrev pub SawWaiters : Option ℕ → Type 0
SawWaiters saw = (n : ℕ) × (saw ≡ Some n) × (n ≢ 0)

-- Why a wait for all waiters failed. It fails only if it has a limit: the limit was over and waiters were left at the last count, or memory
-- for the error's text was refused, or the clock couldn't be read.
abbrev pub IsWaitFailure : Option Duration → Option ℕ → Error → Type 0
IsWaitFailure (Some _) saw (Others text) = (text ≡ codes "waiters are left") × SawWaiters saw
IsWaitFailure (Some _) saw (Nix _) = ⊤
IsWaitFailure (Some _) saw NoMemory = SawWaiters saw
IsWaitFailure _ saw _ = ⊥

-- two readings of a clock were at least this far apart
abbrev pub IsOver : (Result Duration IoError → Type 0) → Duration → Type 0
IsOver reads limit = (start : Duration) × (end : Duration) × reads (Ok start) × reads (Ok end) × (as_nanos limit ≤ as_nanos end - as_nanos start)

-- Why a wait with this limit failed, by the readings of its clock. Waiters were left at the last count and the limit was over, though
-- memory for the error's text may have been refused; or a reading failed.
abbrev pub TellsWait : (Result Duration IoError → Type 0) → Duration → Option ℕ → Error → Type 0
TellsWait reads limit saw (Others text) = (text ≡ codes "waiters are left") × SawWaiters saw × IsOver reads limit
TellsWait reads limit saw (Nix kind) = (e : IoError) × reads (Err e) × (kind ≡ error_kind e)
TellsWait reads limit saw NoMemory = SawWaiters saw × IsOver reads limit
TellsWait reads limit saw _ = ⊥
