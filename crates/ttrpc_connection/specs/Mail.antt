-- The things that came in for one receiver of a stream, and the table of results for its calls.
-- Source: PROTOCOL.md of ttrpc, "Streaming".
use Rattle.std.specs.Prelude.{◌≡◌, ◌⊎◌, ℕ, List, [], ◌∷◌, ◌++◌, ◌||◌, Bool, true, false, codes, Option, Some, None, Result, Ok, Err, if◌then◌else◌}
use Rattle.ttrpc_connection.specs.Failure.{error_of}
use Rattle.ttrpc_proto.specs.declared.error.Error.TheVariants.{Eof, NoMemory, Others, RemoteClosed}
use Rattle.ttrpc_connection.specs.Types.{Error, Failure, MailboxEntry, Item, Last, End, Closing, Breaking, Receiver, Open, Closed, Broken, Dropped}

-- The things that came in for one receiver, and its state.
pub record Mail : Type 0 where
  -- the things that weren't received yet
  pub things : List MailboxEntry
  -- the state of the receiver
  pub receiver : Receiver
  -- true if nothing more is put in
  pub ended : Bool

-- Returns an open mailbox with nothing in it.
abbrev pub empty_mail : Mail
empty_mail = record { things = []; receiver = Open; ended = false }

-- Returns the things with one after the others, for an open receiver. For another receiver the thing isn't kept.
abbrev pub kept_for : Receiver → List MailboxEntry → MailboxEntry → List MailboxEntry
kept_for Open things x = things ++ x ∷ []
kept_for Closed things x = things
kept_for Broken things x = things
kept_for Dropped things x = things

-- Returns the mailbox with a thing put in, which may be the last.
abbrev pub with_thing : Mail → MailboxEntry → Bool → Mail
with_thing m x ends = record { things = kept_for m.receiver m.things x; receiver = m.receiver; ended = m.ended || ends }

-- Returns the mailbox of a stream that begins with this thing, if there is one. The thing may be the last.
abbrev pub opened_with : Option MailboxEntry → Bool → Mail
opened_with None ends = empty_mail
opened_with (Some x) ends = with_thing empty_mail x ends

-- Returns the mailbox after its receiver was dropped.
abbrev pub without_receiver : Mail → Mail
without_receiver m = record { things = []; receiver = Dropped; ended = m.ended }

-- Returns the mailbox as it is seen after the connection has failed: the failure comes after all things, unless the mailbox has ended.
abbrev pub broken : Option Failure → Mail → Mail
broken None m = m
broken (Some failure) m = if m.ended then m else record { things = kept_for m.receiver m.things (Breaking (error_of failure)); receiver = m.receiver; ended = true }

-- ---- the table: the result of a call to receive, by the receiver and the first thing

-- Returns the error for a receiver that is broken or dropped.
abbrev pub past_error : Error
past_error = Others (codes "Receive packet from Receiver error")

-- Returns the result of a call to receive.
abbrev pub answer_of : Receiver → List MailboxEntry → Option (Result (List ℕ) Error)
answer_of Dropped xs = Some (Err past_error)
answer_of Broken xs = Some (Err past_error)
answer_of Closed xs = Some (Err RemoteClosed)
answer_of Open [] = None
answer_of Open (Item bytes ∷ xs) = Some (Ok bytes)
answer_of Open (Last bytes ∷ xs) = Some (Ok bytes)
answer_of Open (End ∷ xs) = Some (Err Eof)
answer_of Open (Closing error ∷ xs) = Some (Err error)
answer_of Open (Breaking error ∷ xs) = Some (Err error)

-- Returns the state of the receiver after the call.
abbrev pub receiver_of : Receiver → List MailboxEntry → Receiver
receiver_of Dropped xs = Dropped
receiver_of Broken xs = Broken
receiver_of Closed xs = Closed
receiver_of Open [] = Open
receiver_of Open (Item bytes ∷ xs) = Open
receiver_of Open (Last bytes ∷ xs) = Closed
receiver_of Open (End ∷ xs) = Closed
receiver_of Open (Closing error ∷ xs) = Closed
receiver_of Open (Breaking error ∷ xs) = Broken

-- Returns the things that are left after the call.
abbrev pub things_of : Receiver → List MailboxEntry → List MailboxEntry
things_of Dropped xs = xs
things_of Broken xs = xs
things_of Closed xs = xs
things_of Open [] = []
things_of Open (Item bytes ∷ xs) = xs
things_of Open (Last bytes ∷ xs) = []
things_of Open (End ∷ xs) = []
things_of Open (Closing error ∷ xs) = []
things_of Open (Breaking error ∷ xs) = []

-- Returns the result of a call to receive from this mailbox.
abbrev pub answer_by : Mail → Option (Result (List ℕ) Error)
answer_by m = answer_of m.receiver m.things

-- Returns the mailbox after the call.
abbrev pub left_by : Mail → Mail
left_by m = record { things = things_of m.receiver m.things; receiver = receiver_of m.receiver m.things; ended = m.ended }

-- ---- the same without the failure put in

-- Returns an open and empty mailbox after a call to receive. If the connection has failed and the mailbox hadn't ended, it is broken and
-- has ended.
abbrev pub left_empty : Option Failure → Bool → Mail
left_empty None ended = record { things = []; receiver = Open; ended = ended }
left_empty (Some failure) true = record { things = []; receiver = Open; ended = true }
left_empty (Some failure) false = record { things = []; receiver = Broken; ended = true }

-- Returns the mailbox with these fields after a call to receive.
abbrev pub left_at : Option Failure → Bool → Receiver → List MailboxEntry → Mail
left_at failure ended Open [] = left_empty failure ended
left_at failure ended Open (x ∷ xs) = record { things = things_of Open (x ∷ xs); receiver = receiver_of Open (x ∷ xs); ended = ended }
left_at failure ended Closed xs = record { things = xs; receiver = Closed; ended = ended }
left_at failure ended Broken xs = record { things = xs; receiver = Broken; ended = ended }
left_at failure ended Dropped xs = record { things = xs; receiver = Dropped; ended = ended }

-- Returns the mailbox after a call to receive, with the connection's failure, if there is one.
abbrev pub taken : Option Failure → Mail → Mail
taken failure m = left_at failure m.ended m.receiver m.things

-- Returns true if a call to receive makes the text of its error, by the mailbox's fields.
abbrev pub makes_text_at : Option Failure → Bool → Receiver → List MailboxEntry → Bool
makes_text_at failure ended Dropped xs = true
makes_text_at failure ended Broken xs = true
makes_text_at failure ended Closed xs = false
makes_text_at failure ended Open (x ∷ xs) = false
makes_text_at None ended Open [] = false
makes_text_at (Some why) true Open [] = false
makes_text_at (Some why) false Open [] = true

-- Returns true if a call to receive from this mailbox makes the text of its error.
abbrev pub makes_text : Option Failure → Mail → Bool
makes_text failure m = makes_text_at failure m.ended m.receiver m.things

-- Holds if this is the result of a call to receive: that of the table, or `NoMemory` if memory for its text was refused, and nothing
-- changed.
abbrev pub Receives : Option Failure → Mail → Option (Result (List ℕ) Error) → Mail → Type 0
Receives failure old given new =
    ((given ≡ answer_by (broken failure old)) × (new ≡ taken failure old))
    ⊎ ((given ≡ Some (Err NoMemory)) × (new ≡ old) × (makes_text failure old ≡ true))
