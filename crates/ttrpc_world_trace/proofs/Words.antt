-- The words that these proofs use, and those above them of one call, in one list.
pub use Rattle.std.proofs.Common.{ℤ, pos, ◌||◌, ◌%◌, not, nat_lt, map}
pub use Rattle.std.specs.List.{flat_map}
pub use Rattle.std.proofs.lemmas.List.{map-append}
pub use Rattle.ttrpc_wire.specs.Fold.{read_from}
pub use Rattle.ttrpc_proto.specs.declared.error.Error.TheVariants.{Eof, NoMemory as MemoryRefused, Others, RemoteClosed}
pub use Rattle.ttrpc_proto.specs.Messages.{empty_response, response_step, is_ok_code, IsRequest}
pub use Rattle.ttrpc_proto.specs.Framing.Header.Oversize.{oversize_text}
pub use Rattle.ttrpc_proto.specs.declared.framing.header.TheConstants.{FLAG_NO_DATA, FLAG_REMOTE_CLOSED}
pub use Rattle.ttrpc_connection.specs.Failure.{IsTold as IsToldBy, error_of}
pub use Rattle.ttrpc_connection.specs.declared.thing.MailboxEntry.{MailboxEntry}
pub use Rattle.ttrpc_connection.specs.declared.thing.MailboxEntry.TheVariants.{Breaking as ThingBreaking, Closing as ThingClosing, End as ThingEnd, Item as ThingItem, Last as ThingLast}
pub use Rattle.ttrpc_connection.specs.declared.mailbox.Receiver.{Receiver}
pub use Rattle.ttrpc_connection.specs.declared.mailbox.Receiver.TheVariants.{Open, Closed, Broken, Dropped}
pub use Rattle.ttrpc_connection.specs.Items.{close_flags}
pub use Rattle.ttrpc_connection.specs.Feeds.{IsWhy}
pub use Rattle.ttrpc_connection.specs.Mail.{kept_for, answer_by, answer_of, broken, empty_mail, left_at, Mail, opened_with, past_error, Receives, taken, with_thing, without_receiver}
pub use Rattle.ttrpc_connection.specs.Things.{data_thing, has_flag, opening_thing, thing_by}
pub use Rattle.ttrpc_server.specs.declared.job.ActiveJob.{ActiveJob}
pub use Rattle.ttrpc_server.proofs.Words.{Failure, jobs_at, MESSAGE_LENGTH_MAX, MESSAGE_TYPE_REQUEST, MessageHeader}
pub use Rattle.ttrpc_server.specs.Types.{MESSAGE_TYPE_RESPONSE, MESSAGE_TYPE_DATA, Opened as OpenedPayload}
pub use Rattle.ttrpc_server.specs.Protocol.{Leaves as LeavesDue}
pub use Rattle.ttrpc_client.specs.declared.call.CallState.{CallState}
pub use Rattle.ttrpc_client.specs.declared.call.CallState.TheVariants.{Ended, Expired, Waiting}
pub use Rattle.ttrpc_client.specs.Protocol.{by_code, by_status, expired_at, Gives, GivesOutcome, call_result_of, LandsOn, last_id, left_of, request_bytes, TellsOutcome, breaks_with, Brings, BringsBeginning, closing_delivery, data_delivery, IsDelivery, malformed_text, StreamDelivery, delivery_of, Reaches, response_delivery}
pub use Rattle.ttrpc_client.specs.State.{is_due, call_at, Client, stream_at}
pub use Rattle.ttrpc_client.specs.declared.streams.StreamState.{StreamState}
pub use Rattle.ttrpc_server.specs.declared.rules.Rules.{Rules}
pub use Rattle.ttrpc_server.specs.declared.rules.Rules.TheVariants.{Async as AsyncRules, Sync as SyncRules}
pub use Rattle.ttrpc_server.specs.Table.{id_state_by, id_state_in, id_state_of}
pub use Rattle.ttrpc_server.specs.declared.rows.StreamIdState.TheVariants.{Taking}
pub use Rattle.ttrpc_server.specs.State.{brought_by, deadline_in, has_method, is_stream, Services, stream_body, with_mail}
pub use Rattle.ttrpc_server.specs.declared.job.Body.{Body}
pub use Rattle.ttrpc_server.specs.declared.job.Body.TheVariants.{Stream as StreamBody, Unary as UnaryBody}
pub use Rattle.ttrpc_client.specs.Streaming.{opening_flags, ReceivesAt, unknown_error, unsendable}
pub use Rattle.ttrpc_client.specs.Streams.{is_entered, new_stream, unless_dropped, unless_unheard, without_reader, without_sender}
pub use Rattle.ttrpc_client.specs.declared.streams.Sender.{Sender}
pub use Rattle.ttrpc_client.specs.declared.streams.Sender.TheVariants.{Dropped as SenderDropped}
pub use Rattle.ttrpc_server.proofs.Mapped.{StaysFound}
pub use Rattle.ttrpc_client.proofs.Words.{if◌then◌else◌, ℕ, ◌++◌, ◌∙◌, ◌∷◌, ◌≡◌, ◌≢◌, ◌≤◌, ◌⊎◌, [], all_joined, AllByRecursion, ap, append-nil, append_assoc, arith, Bool, eq-eqb, Err, false, inl, inr, is_some, length, List, nat_eq, ne_eqb, None, Ok, Option, refl, Result, Some, subst, sym, true}
pub use Rattle.ttrpc_world_trace.specs.Types.{Entry, Error, Event, Given, Item, Outcome, Reply, Request, Response}
pub use Rattle.ttrpc_world_trace.specs.Trace.{Act, act_of, acts, Answered, Called, Gave, IsOneToOne, IsRightAt, IsStreamOf, only_if, Opened, Ran}
pub use Rattle.ttrpc_world_trace.specs.Told.{asked_by, calls, HasOkStatus, IsBegun, IsExactlyOnce, IsWorkOf, names, outcomes, runs, work}
pub use Rattle.ttrpc_world_trace.specs.Flows.{after, after_closed, AfterError, AreInOrder, Asked, Began, closed, ClosedUp, EndedDown, ending_thing, Flow, flow_of, flows, Fresh, got, has_end, heard_down, heard_up, HeardDown, HeardUp, is_end, IsInOrder, items, last_thing, Mood, put_down, put_up, SentDown, SentUp, told_by, Word}
