-- The words that these proofs use, in one list.
pub use Rattle.std.proofs.Common.{◌%◌, Bor, deque_capacity, deque_len, Global, IfNone, IfOk, IfSome, IsTrue, MatchResult, OnOk}
pub use Rattle.std.proofs.lemmas.Cmp.{by_ranked, eq_by_cmp_equiv, ranked}
pub use Rattle.std.proofs.lemmas.List.Sorted.{IsPermutation-cons, IsPermutation-middle, IsPermutation-pop_more, IsPermutation-refl, IsPermutation-sym, IsPermutation-trans, length_permutation}
pub use Rattle.std.proofs.lemmas.Map.Entries.{none_below_head, sum_by-insert_entry, sum_by-remove_entry}
pub use Rattle.std.proofs.lemmas.Option.{same_Some}
pub use Rattle.std.specs.Cmp.{nat_cmp_total}
unfoldable pub use Rattle.std.specs.List.{IsDistinct}
pub use Rattle.std.specs.List.Sorted.{IsPermutation}
unfoldable pub use Rattle.std.specs.List.Sorted.{IsStrictlySortedBy}
pub use Rattle.std.specs.Map.{keys_of}
pub use Rattle.std.specs.Option.{option_copied, option_map, unwrap_or}
pub use Rattle.std.specs.Ordering.{is_gt}
pub use Rattle.std.specs.Result.{is_err, OkIff, result_ok}
pub use Rattle.ttrpc_proto.proofs.Departures.{all_are_accounted}
pub use Rattle.ttrpc_proto.specs.Framing.Queue.{first_is_request_of, IsMerge, placed, thrown}
pub use Rattle.ttrpc_connection.specs.Outbox.{Outbox}
pub use Rattle.ttrpc_connection.proofs.Leaving.{goes_not, queued_goes, run_goes, run_leaves}
pub use Rattle.ttrpc_connection.proofs.Words.{if◌then◌else◌, ℕ, ◌&&◌, ◌++◌, ◌+◌, ◌-◌, ◌<◌, ◌^◌, ◌∙◌, ◌∷◌, ◌≡◌, ◌≢◌, ◌≤◌, ◌⊎◌, [], ActsAll, after_all, all_behind, all_in_front, all_joined, AllByRecursion, and_right, ap, append-nil, append_assoc, append_cancel_left, AreLawful, arith, associated, begun_count, Bool, Calls, cases_Bool, cases_eq, cases_lt, cond_both, departing, Did, drop, eq-eqb, Equal, Equal-is, Err, Error, Failed, false, flat_map-append, frames_without, Gave, Gives, Goes, Happening, InboundTransform, Incoming, inl, inr, insert_entry, is_at, is_some, IsTold, length, length-append, Lent, List, list_any, lookup, map, nat_cmp, nat_cmp_is, nat_eq, ne_eqb, None, not, Ok, Option, OutboundTransform, Placed, Queue, Queued, refl, remove_entry, Reported, Result, rules, Runs, Scene, scene, SendsAll, Sent, Some, String, string_bytes, subst, sym, take, take-append-drop, true, values_of, with_payload, without}
pub use Rattle.ttrpc_connection.specs.Calls.{Call as ACall}
pub use Rattle.ttrpc_client.specs.Types.{Arrived, CallState, CancelledDuringWrite, Connection, DeadlineDuringWrite, Expired, Failure, StreamState, Waiting}
pub use Rattle.ttrpc_client.specs.declared.client.ClientCore.{ClientCore}
pub use Rattle.ttrpc_client.specs.Calls.{AreQueuedOnce, Asked, asked_by, AskedEnded, AskedHeard, Called, called, Causes, core, Does, Dropped, ids_asked, ids_used, Opened, outcomes_of, Passes, Received, ReceiverDropped, requests_in, RiseByTwo, SenderDropped, SentOn, thrown_at, thrown_if, Ticked, Told, told_by, used_by}
pub use Rattle.ttrpc_client.specs.State.{call_at, call_in, Client, IsClient, OthersStay, stream_at, throws, told_left, waits, due_at, due_ids, is_due, IsDeadline}
pub use Rattle.ttrpc_client.specs.Streams.{AreStreams, stream_in, StreamsStay}
pub use Rattle.ttrpc_client.specs.Protocol.{expired_at, Expires, forgotten, GivesOutcome, LandsOnce, left_of, taken_back, takes_back, TakesOutcome, Ticks, IsRequestFrame, CallResult, call_result_of, LandsOn, last_id}
pub use Rattle.ttrpc_client.specs.Inside.{calling, Admits, AdmitsStream, ExpiresOne, Leaves, MayRefuse, Settles}
pub use Rattle.ttrpc_client.specs.Streaming.{IsOpeningFrame}
pub use Rattle.ttrpc_client.specs.Kept.{AreDeadlines, deadline_in, IsKept, waiting_in, weight}
pub use Rattle.ttrpc_connection.specs.Deadlines.{ChangesTo, has_deadline, is_moment}
