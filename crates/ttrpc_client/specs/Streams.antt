-- The streams that a client keeps, by their ids, and the changes of each.
-- Source: PROTOCOL.md of ttrpc, "Streaming"; that a stream is gone once both its halves are dropped: this project's.
use Rattle.std.specs.Prelude.{◌≡◌, ◌≢◌, ◌%◌, ◌≤◌, ◌&&◌, not, ℕ, List, Bool, true, false, Option, Some, None}
use Rattle.std.specs.Map.{lookup}
use Rattle.std.specs.BTreeMap.{is_at}
use Rattle.std.specs.Ordering.{nat_cmp}
use Rattle.ttrpc_connection.specs.Mail.{empty_mail, with_thing, without_receiver}
use Rattle.ttrpc_client.specs.Types.{CallState, MailboxEntry, Receiver, ReceiverOpen, ReceiverClosed, ReceiverBroken, ReceiverDropped, StreamState, Sender, Open, Closed, Dropped}

-- Returns the stream of an id, if there is one.
abbrev pub stream_in : List (ℕ × StreamState) → ℕ → Option StreamState
stream_in streams id = lookup (is_at (nat_cmp id)) streams

-- Holds if the streams of all other ids stay as they are.
abbrev pub StreamsStay : List (ℕ × StreamState) → ℕ → List (ℕ × StreamState) → Type 0
StreamsStay old id new = (k : ℕ) → k ≢ id → stream_in new k ≡ stream_in old k

-- Returns a stream that was just opened.
abbrev pub new_stream : Bool → Bool → StreamState
new_stream streaming_client streaming_server =
    record { streaming_client = streaming_client; streaming_server = streaming_server; sender = Open; mailbox = empty_mail }

-- ---- the things that come in

-- Returns true if there is a stream and no frame has ended it, so that frames find it.
abbrev pub is_entered : Option StreamState → Bool
is_entered None = false
is_entered (Some s) = not s.mailbox.ended

-- Returns true if the receiver still gets what comes in.
abbrev pub is_open : Receiver → Bool
is_open ReceiverOpen = true
is_open ReceiverClosed = false
is_open ReceiverBroken = false
is_open ReceiverDropped = false

-- Returns true if a frame brings the stream's receiver something.
abbrev pub hears : Option StreamState → Bool
hears None = false
hears (Some s) = not s.mailbox.ended && is_open s.mailbox.receiver

-- Returns the stream after a thing was put in, which may be the last.
abbrev pub with_delivery : MailboxEntry → Bool → StreamState → StreamState
with_delivery x ends s = record s { mailbox = with_thing s.mailbox x ends }

-- ---- the two halves of a stream

-- Returns the stream with its sender in this state.
abbrev pub with_sender : Sender → Option StreamState → Option StreamState
with_sender sender None = None
with_sender sender (Some s) = Some (record s { sender = sender })

-- Returns the stream that is left after its receiver was dropped: none, if its sender was dropped, too.
abbrev pub unless_dropped : Sender → StreamState → Option StreamState
unless_dropped Open s = Some s
unless_dropped Closed s = Some s
unless_dropped Dropped s = None

-- Returns the stream that is left after its sender was dropped: none, if its receiver was dropped, too.
abbrev pub unless_unheard : Receiver → StreamState → Option StreamState
unless_unheard ReceiverOpen s = Some s
unless_unheard ReceiverClosed s = Some s
unless_unheard ReceiverBroken s = Some s
unless_unheard ReceiverDropped s = None

-- Returns the stream without its receiver.
abbrev pub without_reader : Option StreamState → Option StreamState
without_reader None = None
without_reader (Some s) = unless_dropped s.sender (record s { mailbox = without_receiver s.mailbox })

-- Returns the stream without its sender.
abbrev pub without_sender : Option StreamState → Option StreamState
without_sender None = None
without_sender (Some s) = unless_unheard s.mailbox.receiver (record s { sender = Dropped })

-- ---- the properties of every client

-- Holds if ids of streams are odd, ids that were not given have no stream, and no id has a call and a stream.
pub record AreStreams (next : ℕ) (calls : List (ℕ × CallState)) (streams : List (ℕ × StreamState)) : Type 0 where
  pub fresh : (k : ℕ) → next ≤ k → stream_in streams k ≡ None
  pub odd_streams : (k : ℕ) → stream_in streams k ≢ None → k % 2 ≡ 1
  pub apart : (k : ℕ) → lookup (is_at (nat_cmp k)) calls ≢ None → stream_in streams k ≡ None
