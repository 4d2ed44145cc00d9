-- Which request is the newest: one that is read is above those before it.
use Rattle.ttrpc_server.proofs.Words.{◌≡◌, ◌≢◌, ◌<◌, ℕ, nat_eq, length, List, Option, None, Some, Bool, true, false, nat_lt, refl, sym, subst, inl, inr, arith, MessageHeader, OutboundTransform, Rules, Async, Sync, Server, row_of}
use Rattle.std.specs.Prelude.{if◌then◌else◌}
use Rattle.std.proofs.lemmas.Bool.{lt-ltb, ltb-true}
use Rattle.ttrpc_connection.specs.declared.arrived.InboundResult.{InboundResult}
use Rattle.ttrpc_server.specs.Protocol.{case_in, seen_by}
use Rattle.ttrpc_server.specs.Table.{case_of, data_case, id_state_case, IsAbove, IsNoOlder, newer_case, newest_after}
use Rattle.ttrpc_server.specs.Types.{Absent, Asks, Busy, Case, EvenId, Full, Inactive, StreamIdState, MESSAGE_TYPE_REQUEST, NotAbove, Opened, Oversize, Refused, Skipped, Taking, TooLong}
use Rattle.ttrpc_server.proofs.Kept.{asks_where_absent}
use Rattle.ttrpc_server.proofs.RowLeaves.{row_leaves}
use Rattle.ttrpc_server.proofs.Running.{Lasts}

asks_then : (a b c d : Bool) (asked : Case) (plain : List ℕ) → (if a then Skipped else (if b then EvenId else (if c then asked else (if d then Inactive else Skipped)))) ≡ Asks plain → asked ≡ Asks plain
asks_then true b c d asked plain is = cc
asks_then false true c d asked plain is = cc
asks_then false false true d asked plain is = is
asks_then false false false true asked plain is = cc
asks_then false false false false asked plain is = cc

newer_above : (k : ℕ) (newest : Option ℕ) (bytes plain : List ℕ) → newer_case k newest bytes ≡ Asks plain → IsAbove k newest
newer_above k None bytes plain is = tt
newer_above k (Some newest) bytes plain is = by (nat_lt newest k) refl is
  where
    by : (b : Bool) → nat_lt newest k ≡ b → (if b then Asks bytes else NotAbove newest) ≡ Asks plain → newest < k
    by true e same = ltb-true newest k e
    by false e same = cc

absent_above : (h : MessageHeader) (opening : InboundResult) (newest : Option ℕ) (plain : List ℕ) → case_of Async h opening newest Absent ≡ Asks plain → IsAbove h.stream_id newest
absent_above h TooLong newest plain is = cc
absent_above h (Refused why) newest plain is = cc
absent_above h (Opened bytes) newest plain is = newer_above h.stream_id newest bytes plain (asks_then _ _ _ _ (newer_case h.stream_id newest bytes) plain is)

-- a request that is read is above the newest one
pub asks_above : (h : MessageHeader) (opening : InboundResult) (newest : Option ℕ) (id_state : StreamIdState) (plain : List ℕ) → case_of Async h opening newest id_state ≡ Asks plain → IsAbove h.stream_id newest
asks_above h opening newest id_state plain is =
    absent_above h opening newest plain (subst (λ (i : StreamIdState). case_of Async h opening newest i ≡ Asks plain) (asks_where_absent h opening newest id_state plain is) is)

-- after any frame the newest request is the one before, or the frame's own, which is above it
pub newest_moves : (r : Rules) (h : MessageHeader) (opening : InboundResult) (newest : Option ℕ) (id_state : StreamIdState) (case : Case) → case_of r h opening newest id_state ≡ case → IsNoOlder newest (newest_after r h.stream_id case newest)
newest_moves Sync h opening newest id_state case is = inl refl
newest_moves Async h opening newest id_state (Asks plain) is = inr (h.stream_id, refl, asks_above h opening newest id_state plain is)
newest_moves Async h opening newest id_state case is = inl refl

above_older : (k : ℕ) (old new : Option ℕ) → IsNoOlder old new → IsAbove k new → IsAbove k old
above_older k old new (inl same) above = subst (IsAbove k) same above
above_older k None new (inr later) above = tt
above_older k (Some old) new (inr later) above =
    let less : later.0 < k = subst (IsAbove k) later.1 above in omega (arith, later.2, less)

no_older_twice : (a b c : Option ℕ) → IsNoOlder a b → IsNoOlder b c → IsNoOlder a c
no_older_twice a b c one (inl same) = subst (IsNoOlder a) (sym same) one
no_older_twice a b c one (inr later) = inr (later.0, later.1, above_older later.0 a b one later.2)

pub newest_lasts : {O : Type 0} (out : OutboundTransform O) (first : Option ℕ) → Lasts out (λ (s : Server). IsNoOlder first s.jobs.newest)
newest_lasts out first = record {
  frame = λ old o a sent new does p.
      no_older_twice first old.jobs.newest new.jobs.newest p
      (subst (IsNoOlder old.jobs.newest) (sym (row_leaves out (row_of old a) (seen_by old a) o a.header a.now sent new does).newest)
      (newest_moves old.rules a.header a.opening old.jobs.newest _ (case_in old a) refl));
  hands = λ old handed list hands p. p;
  ends = λ old id job at p. p;
  told = λ old expired p. p;
  drains = λ old p. p;
  mails = λ old id change p. p;
  hears = λ old heard p. p;
}

-- a frame that isn't read as a request leaves it, and so do sync rules
pub newest_stays : (r : Rules) (k : ℕ) (case : Case) (newest : Option ℕ) → (r ≡ Async → (plain : List ℕ) → case ≡ Asks plain → ⊥) → newest_after r k case newest ≡ newest
newest_stays Sync k case newest other = refl
newest_stays Async k (Asks plain) newest other = absurd (other refl plain refl)
newest_stays Async k case newest other = refl

none_then : (a b c d : Bool) (asked items : Case) (m : ℕ) → (c ≡ true → asked ≢ NotAbove m) → items ≢ NotAbove m → (if a then Skipped else (if b then EvenId else (if c then asked else (if d then items else Skipped)))) ≢ NotAbove m
none_then true b c d asked items m never other is = cc
none_then false true c d asked items m never other is = cc
none_then false false true d asked items m never other is = never refl is
none_then false false false true asked items m never other is = other is
none_then false false false false asked items m never other is = cc

data_never : (plain : List ℕ) (id_state : StreamIdState) (m : ℕ) → data_case plain id_state ≢ NotAbove m
data_never plain Absent m is = cc
data_never plain Busy m is = cc
data_never plain Taking m is = cc
data_never plain Full m is = cc

request_kind_never : (k : ℕ) (newest : Option ℕ) (plain : List ℕ) (id_state : StreamIdState) (m : ℕ) → IsAbove k newest → id_state_case k newest plain id_state ≢ NotAbove m
request_kind_never k None plain Absent m above is = cc
request_kind_never k (Some newest) plain Absent m above is = let bad : Asks plain ≡ NotAbove m = rw (lt-ltb newest k above) at is in cc
request_kind_never k newest plain Busy m above is = cc
request_kind_never k newest plain Taking m above is = cc
request_kind_never k newest plain Full m above is = cc

sync_never : (a b : Bool) (n m : ℕ) (plain : List ℕ) → (if a then Oversize n else (if b then Asks plain else Skipped)) ≢ NotAbove m
sync_never true b n m plain is = cc
sync_never false true n m plain is = cc
sync_never false false n m plain is = cc

-- no frame is refused for its id whose id is above that of the newest request, if it is a request
pub never_refused : (r : Rules) (h : MessageHeader) (plain : List ℕ) (newest : Option ℕ) (id_state : StreamIdState) (m : ℕ) → (nat_eq h.type_ MESSAGE_TYPE_REQUEST ≡ true → IsAbove h.stream_id newest) → case_of r h (Opened plain) newest id_state ≢ NotAbove m
never_refused Sync h plain newest id_state m above = sync_never _ _ (length plain) m plain
never_refused Async h plain newest id_state m above =
    none_then _ _ _ _ (id_state_case h.stream_id newest plain id_state) (data_case plain id_state) m (λ asks. request_kind_never h.stream_id newest plain id_state m (above asks)) (data_never plain id_state m)
