-- The words that these proofs use of the crates below, in one list.
pub use Rattle.std.proofs.Common.{length-take, negsuc, pos}
pub use Rattle.std.proofs.Math.Path.{fun_ext}
pub use Rattle.std.proofs.lemmas.Bool.{cases_lt, cases_order, leb-false, leb-true, ltb-false, or_cases, or_left, or_parts, or_right}
pub use Rattle.std.proofs.lemmas.Fmt.{IsAscii-decimal}
pub use Rattle.std.proofs.lemmas.List.{nil_from_length, take-map, take_at}
pub use Rattle.std.proofs.lemmas.List.Folds.{list_any-append}
pub use Rattle.std.proofs.lemmas.Str.{IsUtf8-append, IsUtf8-from_ascii}
pub use Rattle.std.specs.Fmt.{decimal}
pub use Rattle.std.specs.List.{list_any}
pub use Rattle.std.specs.Prelude.{nat_le, not, ◌||◌}
pub use Rattle.std.specs.Str.{IsAscii, IsUtf8}
pub use Rattle.ttrpc_world_trace.specs.Clean.{AreClean, AreWholeCalls, AreWholeStreams, asks_outcome, finds_nothing_down, finds_nothing_up, is_answer_of, is_clean_answer, is_clean_event, is_clean_reply, is_none_of, IsAnsweredIn, IsAskedFor, IsClean, IsCleanAt, IsDrained, IsInTime, IsQuiet, IsWholeCall, IsWholeStream, may_be_error, moment_after, moment_behind, other, reaches, reaches_at, reaches_one, since, takes_bytes, takes_nothing}
pub use Rattle.ttrpc_world_trace.specs.Headline.{IsTold}
pub use Rattle.ttrpc_world_trace.specs.Told.{outcomes}
pub use Rattle.ttrpc_world_trace.specs.Trace.{some_of}
pub use Rattle.ttrpc_world_trace.specs.declared.events.Side.{Side}
pub use Rattle.ttrpc_world_trace.specs.declared.events.StreamEnd.{StreamEnd}
pub use Rattle.ttrpc_pair.proofs.Idle.{all_has_come, IsQueue, no_frames_come, none_reported, none_to_lend}
pub use Rattle.ttrpc_pair.proofs.Words.{[], Absent, act_as_sent, ActiveJob, ActsAll, ActsOn, after_carry, after_report, all_at, all_behind, all_changed, all_in_front, all_joined, all_less, all_thrown, AllByRecursion, and_parts, Answer, Answers, AnswersBy, AnswersError, ap, append-nil, append_assoc, AreInFlight, AreLinked, arith, arrived, arrives, request_kind_row, AskedCall, Asks, associated, astray, AsyncKind, AsyncRules, at_stays, begun_count, between_other, between_own, Bool, BreaksAt, brought_by, Busy, by_status, call_at, CallEvent, calling, CancelledDuringWrite, carried_in_flight, CarriesDown, CarriesUp, Carry, case_of, case_row, cases_Bool, cases_eq, changed_at, changed_under, Chat, Client, ClientCore, ClientEnd, ClientKind, ClientSide, Close, closed_error, codes, cond-false, cond-true, Connection, Count, Cut, cut_in_flight, cut_to, CutsDown, CutsUp, data_case, deadline_of, DeadlineDuringWrite, Deliver, Delivers, DeliversDown, DeliversUp, Disconnected, DisconnectedInside, Does, Done, Drain, drained, drop, DropCall, DropReceiver, Drops, DropSender, DropsReceiver, DropsSender, due_at, due_jobs, empty_pipe, empty_queue, empty_request, empty_response, EndsOne, EndsStream, EndStream, Entry, eq-eqb, eqb-true, Err, Error, error_of, even_id_text, EvenId, Event, ExpireAll, ExpiresOne, Fail, failed_by_hand, failing, Failure, false, Fed, fed_in_flight, Feeds, filter, Finish, Finishes, first_failure, fit_to_message, fitted, Flying, flying_without, Forgot, Full, Given, given, Gives, Halves, Handed, HandlerError, Hands, has_begun, has_method, has_response, has_service, has_stream, header_of_frame, Hears, Held, id_of, if◌then◌else◌, Ignore, inactive_text, InboundTransform, Incoming, inl, StreamIdState, id_state_of, inr, INVALID_ARGUMENT, is_due, is_open, is_over, is_some, is_stream, IsCloseFrame, IsEnd, IsErrorResponse, IsFresh, IsOwned, IsPaired, IsRequest, IsResponse, IsSentFor, IsSound, IsTaken, Item, Job, job_at, JobList, JobReceives, jobs_at, CallResult, call_result_of, LandsOn, LandsOnce, last_id, le-ltb, left_behind, length, lent_of, limit_text, List, ltb-true, Mail, mail_in, mail_of, MakeJob, MakeStream, malformed_text, map, mapped_at, MESSAGE_LENGTH_MAX, MESSAGE_TYPE_DATA, MESSAGE_TYPE_REQUEST, MESSAGE_TYPE_RESPONSE, MessageHeader, method_text, min, more_linked, Named, nat_eq, nat_lt, ne_eqb, Net, new_job, NoMethod, None, none_in_flight, none_linked, NoneWaits, NoService, nothing, nothing_due, number_of, Ok, on_mail, OnlyClient, OnlyServer, open_part, Opened, OpenEvent, opening_flags, OpensStream, Option, other_of, Others, OutboundTransform, Outbox, Outcome, oversize_text, parcels, parcels_thrown, parcels_thrown_elsewhere, Passes, path_text, Pipe, pipe_after_carry, placed_in_flight, pushed_other, pushed_own, PutIn, Queue, Queued, reads_back, ReceivesBy, ReceivesFrom, Recv, refl, Refused, Reply, Request, request_again, request_bytes, request_fields, request_fits, request_row, request_step, Requests, Respond, Responds, RespondsTo, Response, response_again, response_bytes, response_fields, response_fits, response_size, response_step, Result, Row, row_leaves, Rules, rules, Runs, safe_limit, Scene, scene, Send, Sender, SenderClosed, SendResponse, SendsAll, SendsData, SendsItem, SendsOn, SendsOne, SendsOwnAnswer, Sent, Server, ServerCore, ServerEnd, ServerPasses, ServerSide, service_text, Services, serving, Some, status_response, stays, stays_as_it_is, StaysFound, StaysUp, Steps, StreamState, stream_at, stream_body, stream_id_of, StreamReceives, subst, suc, sym, SyncKind, SyncRules, Take, take, take-append-drop, taken_back, taken_from, takes_back, TakesOutcome, Taking, thrown_in_flight, thrown_linked, throws, Tick, Ticket, timeout_response, Told, true, unary_body, under_both, under_other, under_own, under_stays, UNIMPLEMENTED, UNKNOWN, unknown_stream, unsendable, unsendable_error, waits, was_made, Ways, with_client, with_frame, with_lent, with_payload, with_sender, with_server, without, without_payload, without_receiver, zero, ℕ, ◌&&◌, ◌++◌, ◌+◌, ◌-◌, ◌<◌, ◌^◌, ◌∙◌, ◌∷◌, ◌≡◌, ◌≢◌, ◌≤◌, ◌⊎◌, Case, newer_case, newest_after, with_newest}
pub use Rattle.ttrpc_world_trace.proofs.AllGiven.{all_given_down, all_given_up, given_by_end, given_still}
pub use Rattle.ttrpc_world_trace.proofs.AtClient.{AtClient, IsBegun, status_cases}
pub use Rattle.ttrpc_world_trace.proofs.AtServer.{begun_calls, is_done, IsDown, IsItem, IsJob, IsNever, IsSent, never_down}
pub use Rattle.ttrpc_world_trace.proofs.Downward.{box_down, Goes, IsSentAs, IsTurned, plain_status, thing_down, thing_of, told_plain, wants}
pub use Rattle.ttrpc_world_trace.proofs.StoryEvents.{answers_here, asks_here, close_put, down_of, drops_here, ends_here, errs_up_here, exactly_once, expires_here, GoesOn, HasNone, hears_here, hears_up_here, in_order_here, IsPut, item_put, job_within, lands_here, one_request, only_of, responds_here, running_of, sends_down_here, sends_here, stream_within, takes_here, unheard_here, unheard_up_here, unsent_here}
pub use Rattle.ttrpc_world_trace.proofs.Flowing.{Follows, IsPlainFailure}
pub use Rattle.ttrpc_world_trace.proofs.Here.{answered_work, Asking, Birth, Born, ByCall, ByOpen, first_act, first_flow, Here, here_at, Idle, IsAnswer, never_empty, nil_parts, only_one, Origin, request_of, Unborn, ups_of, Waits, Work}
pub use Rattle.ttrpc_world_trace.proofs.Place.{Around, arrives_here, begins_here, comes_of, elsewhere, IsAsked, IsHeldBy, IsNoMethod, IsOdd, IsPassed, Known, Later, passes_here, Place, puts_here, refers_here, Settings, thrown_here, TidyOf, unchanged, untaken}
pub use Rattle.ttrpc_world_trace.proofs.Reading.{IsPlain, items_append, nothing_read}
pub use Rattle.ttrpc_world_trace.proofs.Tidy.{IsPatient, IsSentBack, IsTooSoon, once, whole_call}
pub use Rattle.ttrpc_world_trace.proofs.Turns.{IsAnsweredBy}
pub use Rattle.ttrpc_world_trace.proofs.Upward.{box_of, box_up, flags_of, IsDeaf, IsMade, IsStarted, thing_up}
pub use Rattle.ttrpc_world_trace.proofs.StoryWords.{Act, act_of, acts, Answered, AreInOrder, Asked, asked, asked_by, Began, Body, CallState, Called, calls, calls_append, calls_work, close_flags, ClosedUp, closing_delivery, data_delivery, data_thing, deadline_in, Dropped, Ended, EndedDown, ending_thing, Expired, expired_at, Flow, flow_of, flows, Gave, got, HasOkStatus, heard, heard_down, heard_down_append, heard_up, heard_up_append, HeardDown, HeardUp, is_due as is_call_due, IsInOrder, IsOneToOne, IsRightAt, IsStreamOf, IsWhy, items, last_thing, left_of, StreamDelivery, delivery_of, only_if, Open, past_error, put_down, put_down_append, put_up, put_up_append, Ran, ReceivesAt, said, said_then, SentDown, SentUp, silent, StreamBody, MailboxEntry, ThingEnd, ThingItem, ThingLast, told, told_by, UnaryBody, unasked, unheard, untold, Waiting, LeavesDue, with_entry, with_mail, Word, work, ℤ, ◌%◌}
pub use Rattle.ttrpc_world.specs.Headline.Living.{IsEmpty, IsOpen, Lives}
