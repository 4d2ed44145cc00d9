-- When the bytes that were written are to leave.
-- Source: this project's.
use Rattle.std.specs.Prelude.{◌+◌, ◌-◌, ◌^◌, min, ℕ, Bool, true, false, if◌then◌else◌, nat_le}
use Rattle.ttrpc_sync.specs.declared.ends.batch.Batch.{Batch}
use Rattle.ttrpc_sync.specs.declared.ends.batch.TheConstants.{BATCH_BYTES}

-- the batch with `count` more bytes, from one more loan
abbrev pub with_loan : Batch → (count : ℕ) → (ends_frame : Bool) → Batch
with_loan batch count ends_frame = record {
  bytes = min (batch.bytes + count) (2 ^ 64 - 1);
  loans = min (batch.loans + 1) (2 ^ 32 - 1);
  ends_frame = ends_frame;
}

-- The batch ends with a frame, and has at least `BATCH_BYTES` bytes or at least this many loans.
abbrev pub is_due : Batch → (loans : ℕ) → Bool
is_due batch loans = if batch.ends_frame then (if nat_le BATCH_BYTES batch.bytes then true else nat_le loans batch.loans) else false
