-- The places of a queue's frames in the bytes of a ring, by the records beside it, for private functions alone.
-- Source: this project's.
use Rattle.std.specs.Prelude.{◌≡◌, ◌≤◌, ◌+◌, ◌&&◌, ℕ, Bool, List, [], ◌∷◌, length, take, drop, map, if◌then◌else◌}
use Rattle.ttrpc_proto.specs.declared.framing.outgoing.Queued.{Queued}
use Rattle.ttrpc_proto.specs.declared.framing.outgoing.TheConstants.{OUTGOING_LENGTH_MAX}
use Rattle.ttrpc_proto.specs.declared.framing.header.TheConstants.{MESSAGE_HEADER_LENGTH}
use Rattle.ttrpc_proto.specs.declared.framing.record.Record.{Record}
use Rattle.ttrpc_proto.specs.Framing.Header.{header_bytes}
use Rattle.ttrpc_proto.specs.Framing.Queue.{Queue, gone_first, is_request_of, trimmed}

-- ---- The entries of a queue

-- A frame, and the number of bytes of frames that were thrown away and are held directly after it.
pub record Entry : Type 0 where
  pub frame : Queued
  pub gone : ℕ

-- Returns the frames of the entries.
abbrev pub frames_of : List Entry → List Queued
frames_of entries = map (λ e. e.frame) entries

-- Returns, for each entry, the number of bytes that are held after its frame.
abbrev pub numbers_of : List Entry → List ℕ
numbers_of entries = map (λ e. e.gone) entries

-- Returns the queue of these entries.
abbrev pub of_entries : List Entry → ℕ → ℕ → Bool → ℕ → Queue
of_entries entries reported lent begun sent = record { frames = frames_of entries; reported = reported; lent = lent; begun = begun; sent = sent; gone = trimmed (numbers_of entries) }

-- Returns the number of bytes that are gone with the requests of these owners before the first frame that stays.
abbrev pub gone_before : (ℕ → Bool) → List Entry → ℕ
gone_before owners entries = gone_first owners (frames_of entries) (numbers_of entries)

-- Returns the entries that stay, with the number of bytes that are held after each of them then.
abbrev pub kept_of : (ℕ → Bool) → List Entry → List Entry
kept_of owners [] = []
kept_of owners (e ∷ es) = if is_request_of owners e.frame then kept_of owners es else record e { gone = e.gone + gone_before owners es } ∷ kept_of owners es

-- ---- Records

-- Returns the number of the record's bytes in the ring: the bytes of its frame, and the bytes that are held after the frame.
abbrev pub span : Record → ℕ
span r = MESSAGE_HEADER_LENGTH + r.payload + r.gone

-- Returns the record's frame, which has the first of these bytes.
abbrev pub frame_of : Record → List ℕ → Queued
frame_of r bytes = record { message = record { header = r.header; payload = take r.payload (drop MESSAGE_HEADER_LENGTH bytes) }; ticket = r.ticket; is_unary_request = r.is_unary_request; owner = r.owner }

-- Returns the record's entry.
abbrev pub entry_of : Record → List ℕ → Entry
entry_of r bytes = record { frame = frame_of r bytes; gone = r.gone }

-- Returns the entries of records that have these bytes, in order.
abbrev pub entries_of : List Record → List ℕ → List Entry
entries_of [] bytes = []
entries_of (r ∷ rs) bytes = entry_of r bytes ∷ entries_of rs (drop (span r) bytes)

-- Holds if each header and payload is at the place that its record says, no frame is too long, and no bytes follow the last.
abbrev pub AreLaid : List Record → List ℕ → Type 0
AreLaid [] bytes = bytes ≡ []
AreLaid (r ∷ rs) bytes = (take MESSAGE_HEADER_LENGTH bytes ≡ header_bytes r.header) × (span r ≤ length bytes) × (MESSAGE_HEADER_LENGTH + r.payload ≤ OUTGOING_LENGTH_MAX) × AreLaid rs (drop (span r) bytes)

-- Returns the number of bytes of all these records in the ring.
abbrev pub spans : List Record → ℕ
spans [] = 0
spans (r ∷ rs) = span r + spans rs

-- Returns true if the record's frame is a unary request of one of these owners.
abbrev pub is_record_of : (ℕ → Bool) → Record → Bool
is_record_of owners r = r.is_unary_request && owners r.owner

-- Returns the number of bytes that are gone with the requests of these owners before the first record that stays.
abbrev pub gone_records : (ℕ → Bool) → List Record → ℕ
gone_records owners [] = 0
gone_records owners (r ∷ rs) = if is_record_of owners r then span r + gone_records owners rs else 0

-- Returns the records that stay, with the number of bytes that are held after each of them then.
abbrev pub kept_records : (ℕ → Bool) → List Record → List Record
kept_records owners [] = []
kept_records owners (r ∷ rs) = if is_record_of owners r then kept_records owners rs else record r { gone = r.gone + gone_records owners rs } ∷ kept_records owners rs
