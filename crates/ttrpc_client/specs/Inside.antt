-- The effects of the parts of a call, which its users need not read.
-- Source: this project's.
use Rattle.std.specs.Prelude.{◌≡◌, ◌⊎◌, ◌≤◌, ℕ, ◌+◌, ◌++◌, List, [], ◌∷◌, ◌&&◌, not, if◌then◌else◌, Option, None, Some, Bool, IsPermutation, true}
use Rattle.std.specs.Ordering.{nat_cmp}
use Rattle.std.specs.List.Sorted.{IsStrictlySortedBy}
use Rattle.std.specs.BTreeMap.{insert_entry, is_at}
use Rattle.std.specs.Map.{keys_of, remove_entry}
use Rattle.ttrpc_client.specs.Types.{Error, NoMemory as MemoryRefused, Queued, OutboundTransform, Request, CallState, Waiting, StreamState, Arrived, Failure}
use Rattle.ttrpc_secure.specs.declared.transform.TransformError.{TransformError}
use Rattle.ttrpc_secure.specs.declared.transform.TransformError.TheVariants.{Refused, NoMemory}
use Rattle.ttrpc_proto.specs.Framing.Queue.{free}
use Rattle.ttrpc_secure.specs.Sends.{associated}
use Rattle.ttrpc_connection.specs.Frames.{SendsOne, safe_limit, Sent}
use Rattle.ttrpc_client.specs.declared.client.ClientCore.{ClientCore}
use Rattle.ttrpc_client.specs.State.{Client, OthersStay, call_at, stream_at, told_left, waits, due_ids}
use Rattle.ttrpc_client.specs.Streams.{StreamsStay, new_stream}
use Rattle.ttrpc_client.specs.Protocol.{expired_at, left_of, HasNoId, HasNoRoom, IsAboveLimit, IsRequestFrame, last_id, request_bytes, request_room, request_size, LandsOnce}
use Rattle.ttrpc_secure.specs.declared.transform.InboundTransform.{Ghosts as InboundTransform}
use Rattle.ttrpc_connection.specs.Feeds.{Ways}
use Rattle.ttrpc_client.specs.Streaming.{IsOpeningFrame}

-- ---- the facts that clauses of a connection know about a client

-- Holds if a frame lands, in any state of the outbound half.
abbrev pub lands_once : {O : Type 0} → Client → O → Arrived → List Sent → Client → Type 0
lands_once old o a sent new = LandsOnce old a sent new

-- Holds for no failure: while a frame is handled, only refused memory fails a client.
abbrev pub fails_not : Client → Arrived → Failure → Type 0
fails_not old a failure = ⊥

-- Returns true, since a client takes all input.
abbrev pub takes_always : Client → Bool
takes_always s = true

-- Returns the facts that clauses know about a client core over these halves.
abbrev pub calling : {O I : Type 0} → OutboundTransform O → InboundTransform I → Ways Client O I
calling out in_ = record { out = out; in_ = in_; core = record { reacts = lands_once; fails = fails_not; takes = takes_always; ROOM = 0 } }

-- ---- changes of a client

-- Holds if a new call waits.
pub record Admits (old : Client) (id : ℕ) (deadline : Option ℕ) (new : Client) : Type 0 where
  pub fresh : call_at old id ≡ None
  pub told : told_left old.calls old.ended ≡ old.ended
  pub calls : new.calls ≡ insert_entry nat_cmp old.calls id (Waiting deadline)
  pub own : call_at new id ≡ Some (Waiting deadline)
  pub others : OthersStay old.calls id new.calls
  pub no_stream : stream_at new id ≡ None
  pub id_is : id ≡ old.next
  pub same : new ≡ record old { next = id + 2; calls = new.calls }

-- Holds if a new stream is kept.
pub record AdmitsStream (old : Client) (id : ℕ) (stream : StreamState) (new : Client) : Type 0 where
  pub fresh : stream_at old id ≡ None
  pub streams : new.streams ≡ insert_entry nat_cmp old.streams id stream
  pub own : stream_at new id ≡ Some stream
  pub others : StreamsStay old.streams id new.streams
  pub no_call : call_at new id ≡ None
  pub id_is : id ≡ old.next
  pub same : new ≡ record old { next = id + 2; streams = new.streams }

-- Holds if a call that waited has ended in some way.
pub record Settles (old : Client) (id : ℕ) (call : CallState) (new : Client) : Type 0 where
  pub own : call_at new id ≡ Some call
  pub others : OthersStay old.calls id new.calls
  pub calls : new.calls ≡ insert_entry nat_cmp old.calls id call
  pub was_ordered : IsStrictlySortedBy nat_cmp (keys_of old.calls)
  pub same : new ≡ record old { calls = new.calls; ended = old.ended ++ id ∷ [] }

-- Holds if a call that was due has expired, and the others that were due still are.
pub record ExpiresOne (old : Client) (now id : ℕ) (new : Client) : Type 0 where
  pub due : IsPermutation (id ∷ due_ids now new.calls) (due_ids now old.calls)
  pub calls : (k : ℕ) → expired_at now (call_at new k) ≡ expired_at now (call_at old k)
  pub same : new ≡ record old { calls = new.calls; ended = old.ended ++ id ∷ [] }

-- Holds if the call of this id is no longer kept.
pub record Leaves (old : Client) (id : ℕ) (new : Client) : Type 0 where
  pub own : call_at new id ≡ None
  pub others : OthersStay old.calls id new.calls
  pub calls : new.calls ≡ remove_entry (is_at (nat_cmp id)) old.calls
  pub same : new ≡ record old { calls = new.calls; ended = told_left new.calls old.ended }

-- Returns the call if its outcome can be given, by whether the connection has failed.
abbrev pub given_of : Bool → Option CallState → Option CallState
given_of failed call = if waits call && not failed then None else call

-- Holds if the call of this id was taken out if its outcome can be given, and no other call changed.
pub record Takes (failed : Bool) (old : Client) (id : ℕ) (new : Client) : Type 0 where
  pub own : call_at new id ≡ left_of failed (call_at old id)
  pub others : OthersStay old.calls id new.calls
  pub same : new ≡ record old { calls = new.calls; ended = told_left new.calls old.ended }

-- Holds if a call was made: it waits, and its request is sealed and queued.
pub record Begins {O I : Type 0} (out : OutboundTransform O) (old : ClientCore O I) (id : ℕ) (plain : List ℕ) (deadline : Option ℕ) (new : ClientCore O I) : Type 0 where
  pub own : call_at new.state id ≡ Some (Waiting deadline)
  pub others : OthersStay old.state.calls id new.state.calls
  pub frame : Queued
  pub is_frame : IsRequestFrame id frame
  pub sends : SendsOne out old.connection.outbox frame plain new.connection.outbox
  pub same : new ≡ record old {
    state = record old.state { next = id + 2; calls = new.state.calls };
    connection = record old.connection { outbox = new.connection.outbox };
  }

-- Holds if a stream was opened: it is kept, and its request is sealed and queued.
pub record BeginsStream {O I : Type 0} (out : OutboundTransform O) (old : ClientCore O I) (streaming_client streaming_server : Bool) (id : ℕ) (plain : List ℕ) (new : ClientCore O I) : Type 0 where
  pub own : stream_at new.state id ≡ Some (new_stream streaming_client streaming_server)
  pub others : StreamsStay old.state.streams id new.state.streams
  pub frame : Queued
  pub is_frame : IsOpeningFrame streaming_client id frame
  pub sends : SendsOne out old.connection.outbox frame plain new.connection.outbox
  pub same : new ≡ record old {
    state = record old.state { next = id + 2; streams = new.state.streams };
    connection = record old.connection { outbox = new.connection.outbox };
  }

-- Holds if the half refuses to seal data in such a frame, for this reason.
pub record RefusesSealing {O I : Type 0} (out : OutboundTransform O) (old : ClientCore O I) (is_such : Queued → Type 0) (plain why : List ℕ) : Type 0 where
  pub frame : Queued
  pub is_frame : is_such frame
  pub refuses : out.refuses old.connection.outbox.half plain (associated frame.message.header) why

-- Holds if sealing may fail with this error.
abbrev pub MayRefuse : {O I : Type 0} → OutboundTransform O → ClientCore O I → (Queued → Type 0) → List ℕ → TransformError → Type 0
MayRefuse out old is_such plain (Refused why) = RefusesSealing out old is_such plain why
MayRefuse out old is_such plain NoMemory = Unit {0}

-- Holds if this is written for a request: the next id, and the request's bytes, which fit.
pub record IsWritten {O I : Type 0} (out : OutboundTransform O) (old : ClientCore O I) (r : Request) (id : ℕ) (bytes : List ℕ) : Type 0 where
  pub id_is : id ≡ old.state.next
  pub in_range : id ≤ last_id
  pub fits : request_size r ≤ safe_limit out old.connection.outbox.half
  pub room : request_room out old.connection.outbox.half r ≤ free old.connection.outbox.queue
  pub bytes_are : bytes ≡ request_bytes r

-- Holds if nothing is written for a request, with this error.
abbrev pub IsUnwritten : {O I : Type 0} → OutboundTransform O → ClientCore O I → Request → Error → Type 0
IsUnwritten out old r told = HasNoId old r told ⊎ IsAboveLimit out old r told ⊎ HasNoRoom out old r told ⊎ ((told ≡ MemoryRefused) × (old.connection.failure ≡ None))
