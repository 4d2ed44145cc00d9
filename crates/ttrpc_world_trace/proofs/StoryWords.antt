-- The words that these proofs use, in one list.
pub use Rattle.ttrpc_world_trace.proofs.FlightWords.{Flying, parcels}
pub use Rattle.ttrpc_world_trace.proofs.Words.{[], Act, act_of, ActiveJob, acts, after, after_closed, AfterError, all_joined, AllByRecursion, answer_by, answer_of, Answered, ap, append-nil, append_assoc, AreInOrder, arith, Asked, asked_by, AsyncRules, Began, Body, Bool, breaks_with, Brings, BringsBeginning, broken, Broken, brought_by, by_code, by_status, CallState, call_at, Called, calls, Client, close_flags, closed, Closed, ClosedUp, closing_delivery, data_delivery, data_thing, deadline_in, Dropped, empty_mail, empty_response, Ended, EndedDown, ending_thing, Eof, Err, Error, error_of, Expired, expired_at, Failure, false, FLAG_NO_DATA, FLAG_REMOTE_CLOSED, Flow, flow_of, flows, Fresh, Gave, Gives, GivesOutcome, got, has_end, has_flag, has_method, HasOkStatus, heard_down, heard_up, HeardDown, HeardUp, if◌then◌else◌, inl, id_state_by, id_state_in, id_state_of, inr, is_due, is_end, is_entered, is_ok_code, is_some, is_stream, IsBegun, IsExactlyOnce, IsWorkOf, IsInOrder, IsDelivery, IsOneToOne, IsRequest, IsRightAt, IsStreamOf, IsToldBy, items, jobs_at, kept_for, call_result_of, LandsOn, last_id, last_thing, left_at, left_of, length, List, Mail, malformed_text, map, map-append, MemoryRefused, MESSAGE_LENGTH_MAX, MESSAGE_TYPE_DATA, MESSAGE_TYPE_REQUEST, MESSAGE_TYPE_RESPONSE, MessageHeader, Mood, nat_eq, nat_lt, new_stream, StreamDelivery, delivery_of, None, not, Ok, only_if, Open, Opened, opened_with, OpenedPayload, opening_flags, opening_thing, Option, Others, outcomes, oversize_text, past_error, pos, put_down, put_up, Ran, Reaches, read_from, Receiver, Receives, ReceivesAt, refl, RemoteClosed, Request, request_bytes, Response, response_delivery, response_step, Result, Rules, Sender, SenderDropped, SentDown, SentUp, Services, Some, StaysFound, StreamState, stream_at, stream_body, StreamBody, subst, sym, SyncRules, taken, Taking, TellsOutcome, MailboxEntry, thing_by, ThingBreaking, ThingClosing, ThingEnd, ThingItem, ThingLast, told_by, true, UnaryBody, unknown_error, unless_dropped, unless_unheard, unsendable, Waiting, with_mail, with_thing, without_reader, without_receiver, without_sender, Word, work, ℕ, ℤ, ◌%◌, ◌++◌, ◌||◌, ◌∙◌, ◌∷◌, ◌≡◌, ◌≤◌, ◌⊎◌, IsWhy, LeavesDue}
pub use Rattle.ttrpc_world_trace.proofs.Traces.{all_work, asked, calls_append, calls_work, gave_of, heard, heard_down_append, heard_up_append, outcomes_append, put_down_append, put_up_append, said, said_then, silent, told, told_of, unasked, unheard, untold, with_entry, words_of, work_append}
