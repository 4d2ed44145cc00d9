-- The thing that a data frame or a request brings for the receiver of a stream.
-- Source: PROTOCOL.md of ttrpc, "Data" and "Streaming".
use Rattle.std.specs.Prelude.{◌&&◌, if◌then◌else◌, ℕ, List, [], ◌∷◌, ◌++◌, Bool, true, false, not, bit_and, nat_eq, codes, Option, Some, None}
use Rattle.std.specs.Fmt.{decimal}
use Rattle.ttrpc_proto.specs.declared.framing.header.TheConstants.{FLAG_NO_DATA, FLAG_REMOTE_CLOSED, FLAG_REMOTE_OPEN}
use Rattle.ttrpc_proto.specs.declared.error.Error.TheVariants.{Others}
use Rattle.ttrpc_connection.specs.Types.{MailboxEntry, Item, Last, End, Closing}

-- Returns true if the flag is among these.
abbrev pub has_flag : ℕ → ℕ → Bool
has_flag flag flags = not (nat_eq (bit_and flags flag) 0)

-- Returns the thing for a frame that closes without data: the end, or an error if the payload isn't empty.
abbrev pub closing_thing : ℕ → List ℕ → MailboxEntry
closing_thing stream_id [] = End
closing_thing stream_id (b ∷ bs) = Closing (Others (codes "stream " ++ decimal stream_id ++ codes ": close message cannot include data"))

-- Returns the thing that a data frame brings, by its flag that the sender closes and its flag that it has no data.
abbrev pub thing_by : Bool → Bool → ℕ → List ℕ → MailboxEntry
thing_by false no_data stream_id payload = Item payload
thing_by true false stream_id payload = Last payload
thing_by true true stream_id payload = closing_thing stream_id payload

-- Returns the thing that a data frame brings, by its flags.
abbrev pub data_thing : ℕ → ℕ → List ℕ → MailboxEntry
data_thing stream_id flags payload = thing_by (has_flag FLAG_REMOTE_CLOSED flags) (has_flag FLAG_NO_DATA flags) stream_id payload

-- Returns the thing that a stream's request brings by itself, if any, by the same two flags.
abbrev pub first_by : Bool → Bool → List ℕ → Option MailboxEntry
first_by false false payload = Some (Item payload)
first_by false true payload = None
first_by true false payload = Some (Last payload)
first_by true true payload = Some End

-- Returns the thing that a stream's request brings by itself, if any, by its flags.
abbrev pub request_thing : ℕ → List ℕ → Option MailboxEntry
request_thing flags payload = first_by (has_flag FLAG_REMOTE_CLOSED flags) (has_flag FLAG_NO_DATA flags) payload

-- Returns true if a request states that items follow, has an empty payload, and has neither the flag for no data nor the one that closes.
abbrev pub is_bare : ℕ → List ℕ → Bool
is_bare flags [] = has_flag FLAG_REMOTE_OPEN flags && not (has_flag FLAG_NO_DATA flags) && not (has_flag FLAG_REMOTE_CLOSED flags)
is_bare flags (b ∷ bs) = false

-- Returns the thing that a stream's request brings, if any. If the first argument is true, a bare request brings nothing, as peers written
-- in Go mean it. By the letter of the protocol it brings an empty item.
abbrev pub opening_thing : Bool → ℕ → List ℕ → Option MailboxEntry
opening_thing bare flags payload = if bare && is_bare flags payload then None else request_thing flags payload
