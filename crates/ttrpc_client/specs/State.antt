-- The state of a client core, without its connection: the calls and streams that it keeps, by their ids.
-- Source: PROTOCOL.md of ttrpc, "Request", "Response" and "Streaming".
use Rattle.std.specs.Prelude.{◌≡◌, ◌≢◌, ◌≤◌, ◌%◌, ◌^◌, ℕ, ◌+◌, List, [], ◌∷◌, Option, None, Some, Bool, false, ◌<◌, map, filter, nat_le}
use Rattle.std.specs.Map.{lookup}
use Rattle.std.specs.BTreeMap.{is_at}
use Rattle.std.specs.Ordering.{nat_cmp}
use Rattle.ttrpc_client.specs.Types.{CallState, Waiting, ClientKind, Async, StreamState}
use Rattle.ttrpc_client.specs.Streams.{stream_in}

-- The state of a client without its connection.
pub record Client : Type 0 where
  pub kind : ClientKind
  -- the id of the next call; above 4294967295 there is none
  pub next : ℕ
  -- the state of each call that is kept, by rising id
  pub calls : List (ℕ × CallState)
  -- the ids of calls that ended, and that weren't reported yet, in the order in which they ended
  pub ended : List ℕ
  -- the state of each stream that is kept, by rising id
  pub streams : List (ℕ × StreamState)
  -- the ids of streams for which something came, and that weren't reported since, by rising id
  pub heard : List ℕ

-- Returns a client that made no call and opened no stream.
abbrev pub new_client : ClientKind → ℕ → Client
new_client kind next = record { kind = kind; next = next; calls = []; ended = []; streams = []; heard = [] }

-- Returns the state of the call of an id: none, if the id was never used or the call is gone.
abbrev pub call_in : List (ℕ × CallState) → ℕ → Option CallState
call_in calls id = lookup (is_at (nat_cmp id)) calls

-- Returns the state of the call of an id in this client.
abbrev pub call_at : Client → ℕ → Option CallState
call_at c id = call_in c.calls id

-- Returns the stream of an id in this client.
abbrev pub stream_at : Client → ℕ → Option StreamState
stream_at c id = stream_in c.streams id

-- Holds if the calls of all other ids stay as they are.
abbrev pub OthersStay : List (ℕ × CallState) → ℕ → List (ℕ × CallState) → Type 0
OthersStay old id new = (k : ℕ) → k ≢ id → call_in new k ≡ call_in old k

-- Holds if calls have the properties of those of every client: ids are odd, none is above 2^32 - 1, and ids that were not given have no
-- call.
pub record IsClient (next : ℕ) (calls : List (ℕ × CallState)) : Type 0 where
  pub odd : next % 2 ≡ 1
  pub in_range : next ≤ 2 ^ 32 + 1
  pub fresh : (k : ℕ) → next ≤ k → call_in calls k ≡ None
  pub odd_calls : (k : ℕ) → call_in calls k ≢ None → k % 2 ≡ 1

-- Returns true if the call waits.
abbrev pub waits : Option CallState → Bool
waits (Some (Waiting deadline)) = Bool.true
waits call = false

-- Returns true if a request may be thrown away before it begins to leave: the client is async, and frames aren't sealed.
abbrev pub throws : ClientKind → Bool → Bool
throws Async false = Bool.true
throws kind seals = false

-- Returns the ended calls that are still to be reported if these calls are left: none if no call is.
abbrev pub told_left : List (ℕ × CallState) → List ℕ → List ℕ
told_left [] ended = []
told_left (c ∷ cs) ended = ended

-- ---- calls that are due
-- Source: this project's.

-- Returns true if the call waits and its deadline is at or before a moment.
abbrev pub is_due : ℕ → CallState → Bool
is_due now (Waiting (Some deadline)) = nat_le deadline now
is_due now call = false

-- Returns true if there is a call and it is due at a moment.
abbrev pub due_at : ℕ → Option CallState → Bool
due_at now None = false
due_at now (Some call) = is_due now call

-- Returns the ids of the calls that are due, by rising id.
abbrev pub due_ids : ℕ → List (ℕ × CallState) → List ℕ
due_ids now calls = map (λ c. c.0) (filter (λ c. is_due now c.1) calls)

-- Holds if this is the least moment at which a call expires.
pub record IsDeadline (calls : List (ℕ × CallState)) (at : ℕ) : Type 0 where
  pub some : due_ids at calls ≢ []
  pub earlier : (now : ℕ) → now < at → due_ids now calls ≡ []
