-- The fields of a decoder between calls.
-- Source: this project's.
use Rattle.std.specs.Prelude.{◌≡◌, ℕ, ◌<◌, ◌≤◌, List, [], length}
use Rattle.ttrpc_proto.specs.declared.framing.header.TheConstants.{MESSAGE_HEADER_LENGTH, MESSAGE_LENGTH_MAX}
use Rattle.ttrpc_proto.specs.Framing.Header.{header_of}

-- Holds for every decoder between calls: its frame isn't whole. The payload is kept, or is counted if it is longer than a message may
-- be.
pub record IsDecoder (head : List ℕ) (filled : ℕ) (body : List ℕ) (counted : ℕ) : Type 0 where
  pub size : length head ≡ MESSAGE_HEADER_LENGTH
  pub filled_fits : filled ≤ MESSAGE_HEADER_LENGTH
  -- a header that isn't whole has no payload
  pub early : filled < MESSAGE_HEADER_LENGTH → (body ≡ []) × (counted ≡ 0)
  -- a kept payload isn't whole
  pub kept : filled ≡ MESSAGE_HEADER_LENGTH → (header_of head).length ≤ MESSAGE_LENGTH_MAX → (counted ≡ 0) × (length body < (header_of head).length)
  -- a counted payload isn't whole either
  pub passed : filled ≡ MESSAGE_HEADER_LENGTH → MESSAGE_LENGTH_MAX < (header_of head).length → (body ≡ []) × (counted < (header_of head).length)
