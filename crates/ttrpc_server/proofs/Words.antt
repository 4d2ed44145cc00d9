-- The words that these proofs use, in one list.
pub use Rattle.std.proofs.lemmas.Map.Text.{btree_map_updates_text, btree_set_updates_text, is_eq-slice_cmp, text_cmp}
pub use Rattle.std.proofs.lemmas.Option.{same_Some}
pub use Rattle.std.proofs.lemmas.Result.{IfErr-weaker, IfOk-weaker, on_ok_weaker}
pub use Rattle.std.specs.BTreeMap.{BTreeMap, get_by_text}
pub use Rattle.std.specs.Map.{set_value, update}
pub use Rattle.ttrpc_proto.specs.Framing.Queue.{Placed, Queue, with_payload}
pub use Rattle.ttrpc_connection.proofs.Leaving.{goes_not, grows_not, grows_twice, queued_goes, run_goes, run_leaves, sends_grow}
pub use Rattle.ttrpc_connection.proofs.Words.{ℕ, ◌&&◌, ◌++◌, ◌+◌, ◌-◌, ◌<◌, ◌∙◌, ◌∷◌, ◌≡◌, ◌≢◌, ◌≤◌, [], all_joined, all_less, AllByRecursion, ap, append_assoc, AreLawful, arith, between_other, between_own, Bool, cases_Bool, cond, cond_both, Equal, Equal-is, Error, false, filter, Goes, Greater, Happening, inl, inr, insert_entry, INVALID_ARGUMENT, is_at, is_some, IsSome, IsTold, first_failure, length, List, list_any, lookup, map, MESSAGE_LENGTH_MAX, MESSAGE_TYPE_REQUEST, MessageHeader, nat_cmp, nat_cmp_is, nat_eq, nat_lt, None, not, Option, OutboundTransform, pushed_other, pushed_own, Queued, refl, remove_entry, rules, safe_limit, SendsAll, SendsOne, Sent, Some, String, string_bytes, subst, sym, true, under_both, values_of}
pub use Rattle.ttrpc_server.specs.Types.{ActiveJob, Arrived, Async, Body, Connection, Failure, HandlerError, Job, Opened, Outbox, Refused, Request, Response, Rules, Sync, Unary}
pub use Rattle.ttrpc_server.specs.Calls.{Answered, Drained, Responded, Served, served, Took, AskedExpired, Ticked}
pub use Rattle.ttrpc_server.specs.Protocol.{Answers, AnswersError, Does, Drops, Finishes, QueuesResponse, serves, serving, with_jobs, fit_to_limit, fitted, IsErrorResponse, IsResponseFrame, IsStatusResponse, SendsOwnAnswer, Responds, response_bytes, response_size, IsUnsent, row_of, due_jobs, ExpireAll, ExpiresOne, is_due, IsDeadline, Passes, timeout_response}
pub use Rattle.ttrpc_server.specs.Table.{MakeJob, request_row, Row, sync_row, SendResponse, SendCode, status_response, unopened_response_text}
pub use Rattle.ttrpc_server.specs.Inside.{AreJobs, ids_waiting, IsUnsentFor, keyed, SendsAnswer, SendsSome, TellsUnsent}
pub use Rattle.ttrpc_server.specs.Kept.{AreSingle, Finds, FindsTheSame, first_id, Indexed, is_due_at, IsKept, job_found, Loses}
pub use Rattle.ttrpc_server.specs.State.{deadline_in, EndsOne, HandsOne, IsJob, IsTaken, IsUnknown, JobList, jobs_at, new_job, with_job, NoneWaits, Rising, unary_body, waits, AddsName, AddsService, has_method, has_name, knows, Names, Server, with_list}
