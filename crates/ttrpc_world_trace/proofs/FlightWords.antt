-- The words that these proofs use, in one list.
pub use Rattle.ttrpc_connection.specs.declared.arrived.InboundResult.{InboundResult}
pub use Rattle.ttrpc_connection.specs.declared.arrived.InboundResult.TheVariants.{Opened, Refused, TooLong}
pub use Rattle.ttrpc_connection.specs.Outbox.{Outbox}
pub use Rattle.ttrpc_connection.proofs.Words.{ℕ, ◌++◌, ◌+◌, ◌-◌, ◌<◌, ◌∙◌, ◌∷◌, ◌≡◌, ◌≤◌, ◌⊎◌, [], ActsAll, after_report, all_behind, all_in_front, all_joined, AllByRecursion, and_right, ap, append-nil, append_assoc, arith, associated, begun_count, Bool, cases_Bool, cases_eq, cases_lt, cond, cond_both, drop, eq-eqb, false, Fed, filter, first_open, flat_map-append, Frames, frames_without, header_front, Held, InboundTransform, Incoming, inl, inr, is_frames, is_request_of, IsWithin, length, length-append, length-drop, length-take-le, List, map, map-append, MessageHeader, Moves, nat_eq, ne_eqb, not, nothing, nothing_held, one_list, open_part, Opens, OutboundTransform, Queue, Queued, refl, Refusals, Scene, SendsAll, Sent, subst, suc, sym, take, take-append-drop, true, under_both, Ways, ways, with_frame, with_lent, with_payload, without, written, written_all}
pub use Rattle.ttrpc_world_trace.specs.Flight.{ActsOn, AreInFlight, AreLinked, AreSound, arrived, bytes_after_carry, Chain, Flying, flying_without, frames_of, IsOwned, IsSound, parcels}
