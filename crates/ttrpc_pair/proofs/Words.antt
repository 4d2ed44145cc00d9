-- The words that these proofs use, and those of the headline above them, in one list.
pub use Rattle.std.proofs.Common.{codes}
pub use Rattle.std.proofs.lemmas.Bool.{and_parts, le-ltb}
pub use Rattle.ttrpc_proto.specs.declared.framing.header.TheConstants.{MESSAGE_TYPE_RESPONSE, MESSAGE_TYPE_DATA}
pub use Rattle.ttrpc_proto.specs.Messages.{empty_request, empty_response, IsRequest, IsResponse, request_fields, request_step, response_fields, response_step}
pub use Rattle.ttrpc_proto.specs.Framing.Queue.{empty_queue, has_begun}
pub use Rattle.ttrpc_secure.specs.Halves.{IsPaired}
pub use Rattle.ttrpc_connection.specs.declared.arrived.InboundResult.TheVariants.{Opened}
pub use Rattle.ttrpc_connection.specs.Outbox.{Outbox}
pub use Rattle.ttrpc_connection.proofs.Words.{[], ActsAll, after_report, all_at, all_behind, all_changed, all_in_front, all_joined, all_less, AllByRecursion, ap, append-nil, append_assoc, arith, associated, begun_count, between_other, between_own, Bool, cases_Bool, cases_eq, cond-false, cond-true, drop, eq-eqb, eqb-true, Err, Error, error_of, false, Fed, Feeds, filter, first_failure, given, header_of_frame, Held, if◌then◌else◌, Incoming, inl, inr, INVALID_ARGUMENT, is_some, IsTold, length, List, ltb-true, map, MESSAGE_LENGTH_MAX, MESSAGE_TYPE_REQUEST, MessageHeader, min, nat_eq, nat_lt, ne_eqb, None, nothing, Ok, open_part, Option, OutboundTransform, pushed_other, pushed_own, Queue, Queued, refl, Result, rules, safe_limit, scene, Scene, SendsAll, SendsOne, Sent, Some, subst, suc, sym, take, take-append-drop, true, under_both, under_other, under_own, Ways, with_frame, with_lent, with_payload, without, zero, ℕ, ◌&&◌, ◌++◌, ◌+◌, ◌-◌, ◌<◌, ◌^◌, ◌∙◌, ◌∷◌, ◌≡◌, ◌≢◌, ◌≤◌, ◌⊎◌}
pub use Rattle.ttrpc_connection.specs.Feeds.{arrived as arrives, is_open, IsFailed}
pub use Rattle.ttrpc_connection.specs.OneEnd.{failing}
pub use Rattle.ttrpc_server.specs.declared.job.ActiveJob.{ActiveJob}
pub use Rattle.ttrpc_server.specs.declared.job.Job.{Job}
pub use Rattle.ttrpc_server.specs.declared.server.ServerCore.{ServerCore}
pub use Rattle.ttrpc_server.proofs.Newest.{never_refused}
pub use Rattle.ttrpc_server.proofs.RowLeaves.{AreChanged, JobsLeft, row_leaves, same_jobs}
pub use Rattle.ttrpc_server.proofs.Streams.{stream_id_of}
pub use Rattle.ttrpc_server.proofs.Words.{Answers, Does, Drops, EndsOne, has_method, IsTaken, IsUnknown, JobList, jobs_at, MakeJob, new_job, Request, request_row, Responds, Response, response_bytes, response_size, Row, Server, serving, status_response, SendResponse}
pub use Rattle.ttrpc_server.specs.Protocol.{AnswersError, drained, due_jobs, ExpireAll, ExpiresOne, Finishes, fit_to_message, fitted, Hands, is_due, IsErrorResponse, IsSentFor, limit_text, SendsOwnAnswer, timeout_response, Passes as ServerPasses}
pub use Rattle.ttrpc_server.specs.Table.{request_kind_row, case_of, case_row, data_case, even_id_text, Ignore, inactive_text, id_state_of, MakeStream, method_text, newer_case, newest_after, other_of, path_text, PutIn, service_text}
pub use Rattle.ttrpc_client.specs.declared.client.ClientCore.{ClientCore}
pub use Rattle.ttrpc_client.proofs.Expiring.{stays_as_it_is}
pub use Rattle.ttrpc_client.proofs.Ticking.{nothing_due}
pub use Rattle.ttrpc_client.proofs.Words.{call_at, calling, Client, due_at, InboundTransform, CallResult, call_result_of, LandsOn, LandsOnce, last_id, Passes, taken_back, takes_back, throws}
pub use Rattle.ttrpc_client.specs.Protocol.{by_status, Gives, request_bytes, Requests, TakesOutcome, malformed_text}
pub use Rattle.ttrpc_world_trace.proofs.Bytes.{carried_in_flight, cut_in_flight, fed_in_flight, none_in_flight, placed_in_flight, thrown_in_flight}
pub use Rattle.ttrpc_world_trace.proofs.Losing.{all_thrown, left_behind, stays}
pub use Rattle.ttrpc_world_trace.proofs.Parcels.{id_of, parcels_thrown, parcels_thrown_elsewhere}
pub use Rattle.ttrpc_world_trace.proofs.Seals.{more_linked, none_linked, thrown_linked}
pub use Rattle.ttrpc_world_trace.proofs.FlightWords.{ActsOn, AreInFlight, AreLinked, arrived, Flying, flying_without, IsOwned, IsSound, parcels}
pub use Rattle.ttrpc_pair.specs.Types.{Answer, CallEvent, CancelledDuringWrite, Carry, Connection, Count, Cut, DeadlineDuringWrite, Deliver, Disconnected, DisconnectedInside, Done, DropCall, Entry, Event, Fail, Failure, Finish, Given, Handed, HandlerError, Named, Outcome, Refused, Reply, Respond, Take, Tick, Told, Open as OpenEvent, Recv, Send, Close, DropReceiver, DropSender, EndStream, Drain, Ticket, Item}
pub use Rattle.ttrpc_pair.specs.Net.{Halves, halves, has_response, IsFresh, Net, with_client, with_server}
pub use Rattle.ttrpc_pair.specs.Pipes.{empty_pipe, is_over, Pipe}
pub use Rattle.ttrpc_pair.specs.Steps.{after_carry, AnswersBy, BreaksAt, IsEnd, pipe_after_carry, CarriesDown, CarriesUp, cut_to, CutsDown, CutsUp, Delivers, DeliversDown, DeliversUp, StaysUp, failed_by_hand, Forgot, Hears, lent_of, OnlyClient, OnlyServer, RespondsTo, Runs, Steps, taken_from}
pub use Rattle.ttrpc_server.specs.State.{brought_by, changed_at, changed_under, has_service, has_stream, is_stream, job_at, NoneWaits, on_mail, Services, stream_body, unary_body, with_newest, without_payload}
pub use Rattle.ttrpc_server.specs.declared.rows.RequestKind.TheVariants.{Call as AskedCall, NoMethod, NoService, Stream as Chat}
pub use Rattle.ttrpc_server.specs.declared.rows.Case.{Case}
pub use Rattle.ttrpc_server.specs.declared.rows.Case.TheVariants.{Asks, EvenId}
pub use Rattle.ttrpc_server.specs.declared.rows.StreamIdState.{StreamIdState}
pub use Rattle.ttrpc_server.specs.declared.rows.StreamIdState.TheVariants.{Absent, Busy, Full, Taking}
pub use Rattle.ttrpc_server.specs.declared.rules.Rules.{Rules}
pub use Rattle.ttrpc_server.specs.declared.rules.Rules.TheVariants.{Async as AsyncRules, Sync as SyncRules}
pub use Rattle.ttrpc_client.specs.State.{waits, stream_at}
pub use Rattle.ttrpc_world_trace.specs.declared.events.Side.TheVariants.{Client as ClientSide, Server as ServerSide}
pub use Rattle.ttrpc_world_trace.specs.declared.events.StreamEnd.TheVariants.{Client as ClientEnd, Server as ServerEnd}
pub use Rattle.ttrpc_client.specs.declared.kind.ClientKind.{ClientKind}
pub use Rattle.ttrpc_client.specs.declared.kind.ClientKind.TheVariants.{Async as AsyncKind, Sync as SyncKind}
pub use Rattle.ttrpc_connection.specs.Deadlines.{deadline_of}
pub use Rattle.ttrpc_world_trace.proofs.Acting.{act_as_sent}
pub use Rattle.ttrpc_wire.proofs.Folds.{reads_back}
pub use Rattle.ttrpc_wire.specs.Number.{number_of}
pub use Rattle.ttrpc_proto.specs.Laws.{request_again, request_fits, response_again, response_fits}
pub use Rattle.ttrpc_server.proofs.Mapped.{at_stays, mapped_at, StaysFound, under_stays}
pub use Rattle.ttrpc_server.specs.Streaming.{astray, EndsStream, IsCloseFrame, ReceivesBy, SendsItem, unheard, unknown_stream, was_made, ReceivesOne as JobReceives}
pub use Rattle.ttrpc_server.specs.Mailboxes.{mail_in, mail_of, ReceivesFrom}
pub use Rattle.ttrpc_client.specs.Streaming.{closed_error, DropsReceiver, DropsSender, opening_flags, OpensStream, SendsOn, unsendable, unsendable_error, ReceivesOne as StreamReceives}
pub use Rattle.ttrpc_client.specs.Streams.{with_sender}
pub use Rattle.ttrpc_client.specs.declared.streams.Sender.TheVariants.{Closed as SenderClosed}
pub use Rattle.ttrpc_client.specs.declared.streams.Sender.{Sender}
pub use Rattle.ttrpc_client.specs.declared.streams.StreamState.{StreamState}
pub use Rattle.ttrpc_connection.specs.Items.{SendsData}
pub use Rattle.ttrpc_connection.specs.Mail.{Mail, without_receiver}
pub use Rattle.ttrpc_proto.specs.Framing.Header.Oversize.{oversize_text}
pub use Rattle.ttrpc_proto.specs.declared.error.Error.TheVariants.{Others}
pub use Rattle.ttrpc_wire.specs.declared.values.code.Code.TheVariants.{UNIMPLEMENTED, UNKNOWN}
