-- The words that these proofs use, in one list.
pub use Rattle.std.specs.declared.cmp.Ordering.TheVariants.{Equal, Greater}
pub use Rattle.std.proofs.Common.{if◌then◌else◌, ℕ, ◌&&◌, ◌++◌, ◌+◌, ◌-◌, ◌<◌, ◌^◌, ◌∙◌, ◌∷◌, ◌≡◌, ◌≢◌, ◌≤◌, ◌⊎◌, [], ap, append_assoc, arith, Bool, cond, drop, Err, false, filter, inl, inr, is_some, IsSome, le-ltb, length, length-append, length-drop, List, lt-ltb, map, min, nat_eq, nat_lt, None, not, Ok, Option, refl, Result, rules, Some, String, string_bytes, subst, suc, sym, take, true, zero}
pub use Rattle.std.proofs.lemmas.Bool.{and_right, cases_Bool, cases_eq, cases_lt, cond-false, cond-true, cond_both, eq-eqb, eqb-true, ltb-true, ne_eqb}
pub use Rattle.std.proofs.lemmas.List.{append-nil, append_cancel_left, length-take-le, map-append, take-append-drop}
pub use Rattle.std.proofs.lemmas.List.Concat.{flat_map-append}
pub use Rattle.std.specs.BTreeMap.{insert_entry, is_at}
pub use Rattle.std.specs.Cmp.{Equal-is, nat_cmp_is}
pub use Rattle.std.specs.List.{AllByRecursion, list_any}
pub use Rattle.std.specs.Map.{lookup, remove_entry, values_of}
pub use Rattle.std.specs.Ordering.{nat_cmp}
pub use Rattle.ttrpc_wire.specs.declared.values.code.Code.TheVariants.{INVALID_ARGUMENT}
pub use Rattle.ttrpc_proto.proofs.Frames.{count_goes_on, count_is_frame, exact, header_front, nothing_held}
pub use Rattle.ttrpc_proto.proofs.Pieces.{frames_append, is_frames, one_list}
pub use Rattle.ttrpc_proto.specs.Framing.Frames.{Fed, Frames, given, Held, held_of, Holds, nothing}
pub use Rattle.ttrpc_proto.specs.Framing.Queue.{after, after_all, after_report, all_bytes_left, Allowed, begun_count, departing, first_open, frames_without, Happening, is_request_of, IsQueue, IsWithin, MayHappen, open_part, Placed, Queue, unsent, with_frame, with_lent, with_payload, without, written, written_all}
pub use Rattle.ttrpc_secure.specs.Halves.{Moves, Refusals}
pub use Rattle.ttrpc_secure.specs.Sends.{associated}
pub use Rattle.ttrpc_connection.specs.Types.{Arrived, Connection, Error, Failure, InboundTransform, Incoming, MESSAGE_LENGTH_MAX, MESSAGE_TYPE_REQUEST, MessageHeader, NoMemory, OutboundTransform, Outbox, Queued}
pub use Rattle.ttrpc_connection.proofs.Lists.{all_at, all_behind, all_changed, all_in_front, all_joined, all_less, between_other, between_own, pushed_other, pushed_own, under_both, under_other, under_own}
pub use Rattle.ttrpc_connection.specs.Calls.{AreLawful, before_others, Call, Calls, Did, Failed, Gave, Gives, Goes, joined, Lent, Others, Own, own, Queued_one, Reported, Runs}
pub use Rattle.ttrpc_connection.specs.Failure.{error_of, IsTold, first_failure}
pub use Rattle.ttrpc_connection.specs.Feeds.{ActsAll, Breaks, Feeds, FeedsFront, is_open, IsWhy, Scene, scene, Ways, ways}
pub use Rattle.ttrpc_connection.specs.Frames.{header_of_frame, Opens, safe_limit, SendsAll, SendsOne, Sent}
