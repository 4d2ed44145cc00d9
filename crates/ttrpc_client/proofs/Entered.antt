-- What the state of every client keeps of its streams, through each change.
use Rattle.ttrpc_client.proofs.Words.{arith, cases_eq, inl, inr, ◌⊎◌, Err, Ok, ◌≡◌, ◌≢◌, ◌<◌, ◌≤◌, ◌+◌, ◌-◌, ◌%◌, ◌&&◌, ◌∙◌, not, ℕ, List, [], ◌∷◌, Option, Some, None, Result, true, false, refl, sym, ap, subst, is_at, nat_cmp, remove_entry, CallState, StreamState, AreStreams, StreamsStay, AdmitsStream, Client, ClientCore, Error, IsClient, MayRefuse, length, OutboundTransform, Queued, associated, stream_at, OthersStay, by_ranked, call_in, ranked, stream_in, waits}
use Rattle.std.specs.Prelude.{nat_le, nat_lt}
use Rattle.std.specs.BTreeSet.{insert_key}
use Rattle.std.specs.List.{list_any}
use Rattle.std.specs.Set.{remove_key}
use Rattle.std.proofs.lemmas.Bool.Decides.{nat_tests}
use Rattle.ttrpc_proto.proofs.Tickets.{queued_are_behind}
use Rattle.ttrpc_proto.specs.Framing.Queue.{AreNumbered, has_ticket, Queue}
use Rattle.ttrpc_connection.specs.Outbox.{is_sent}
use Rattle.std.specs.Result.{OnErr}
use Rattle.ttrpc_secure.specs.declared.transform.TransformError.{TransformError}
use Rattle.ttrpc_secure.specs.declared.transform.TransformError.TheVariants.{Refused, NoMemory}
use Rattle.ttrpc_secure.specs.Halves.{MayFail}
use Rattle.ttrpc_client.specs.Types.{Closed, Dropped, LocalClosed}
use Rattle.ttrpc_client.specs.Streaming.{ReceivesAt, ReceivesOne, unsendable}
use Rattle.ttrpc_connection.specs.Frames.{safe_limit}
use Rattle.ttrpc_client.proofs.Entries.{at_or_apart, same_place, undone}

-- ---- calls change

-- where no call of another id is kept than before, none is that of a stream
fewer_calls : (next : ℕ) (old new : List (ℕ × CallState)) (streams : List (ℕ × StreamState)) → AreStreams next old streams → ((k : ℕ) → call_in new k ≢ None → call_in old k ≢ None) → AreStreams next new streams
fewer_calls next old new streams are fewer = record { fresh = are.fresh; odd_streams = are.odd_streams; apart = λ k some. are.apart k (fewer k some) }

waits_there : (call : Option CallState) → waits call ≡ true → call ≢ None
waits_there None h none = cc
waits_there (Some call) h none = cc

pub ended_apart : (next : ℕ) (old new : List (ℕ × CallState)) (streams : List (ℕ × StreamState)) → AreStreams next old streams → (id : ℕ) → waits (call_in old id) ≡ true → OthersStay old id new → AreStreams next new streams
ended_apart next old new streams are id was others = fewer_calls next old new streams are
    (at_or_apart (λ k. call_in new k ≢ None → call_in old k ≢ None) id (λ _. waits_there (call_in old id) was) (λ k apart some none. some (others k apart ∙ none)))

pub gone_apart : (next : ℕ) (old new : List (ℕ × CallState)) (streams : List (ℕ × StreamState)) → AreStreams next old streams → (id : ℕ) → call_in new id ≡ None → OthersStay old id new → AreStreams next new streams
gone_apart next old new streams are id gone others = fewer_calls next old new streams are
    (at_or_apart (λ k. call_in new k ≢ None → call_in old k ≢ None) id (λ some. absurd (some gone)) (λ k apart some none. some (others k apart ∙ none)))

pub call_apart : (next : ℕ) (old new : List (ℕ × CallState)) (streams : List (ℕ × StreamState)) → AreStreams next old streams → (id : ℕ) → id ≡ next → OthersStay old id new → AreStreams (next + 2) new streams
call_apart next old new streams are id is others = record {
  fresh = λ k le. are.fresh k (omega (arith, le));
  odd_streams = are.odd_streams;
  apart = at_or_apart (λ k. call_in new k ≢ None → stream_in streams k ≡ None) id (λ _. are.fresh id (omega (arith, is))) (λ k apart some. are.apart k (λ none. some (others k apart ∙ none)));
}

-- ---- streams change

-- no stream is at an id where none was
pub no_more_streams : (next : ℕ) (calls : List (ℕ × CallState)) (old new : List (ℕ × StreamState)) → AreStreams next calls old → (id : ℕ) → (stream_in old id ≡ None → stream_in new id ≡ None) → StreamsStay old id new → AreStreams next calls new
no_more_streams next calls old new are id own others =
    let none : (k : ℕ) → stream_in old k ≡ None → stream_in new k ≡ None = at_or_apart (λ k. stream_in old k ≡ None → stream_in new k ≡ None) id own (λ k apart none. others k apart ∙ none) in
    record {
      fresh = λ k le. none k (are.fresh k le);
      odd_streams = λ k some. are.odd_streams k (λ was. some (none k was));
      apart = λ k call. none k (are.apart k call);
    }

pub gone_stream : (next : ℕ) (calls : List (ℕ × CallState)) (old new : List (ℕ × StreamState)) → AreStreams next calls old → (id : ℕ) → stream_in new id ≡ None → StreamsStay old id new → AreStreams next calls new
gone_stream next calls old new are id gone others = no_more_streams next calls old new are id (λ _. gone) others

pub stream_apart : (next : ℕ) (calls : List (ℕ × CallState)) (old new : List (ℕ × StreamState)) → IsClient next calls → AreStreams next calls old → (id : ℕ) → id ≡ next → StreamsStay old id new → AreStreams (next + 2) calls new
stream_apart next calls old new valid are id is others = record {
  fresh = λ k le. let apart : k ≢ id = omega (arith, le, is) in others k apart ∙ are.fresh k (omega (arith, le));
  odd_streams = at_or_apart (λ k. stream_in new k ≢ None → k % 2 ≡ 1) id (λ _. subst (λ n. n % 2 ≡ 1) (sym is) valid.odd) (λ k apart some. are.odd_streams k (λ none. some (others k apart ∙ none)));
  apart = at_or_apart (λ k. call_in calls k ≢ None → stream_in new k ≡ None) id (λ call. absurd (call (valid.fresh id (omega (arith, is))))) (λ k apart call. others k apart ∙ are.apart k call);
}

-- ---- a stream that is admitted and withdrawn

same_client : (c : Client) (d : Client) → d.kind ≡ c.kind → d.next ≡ c.next → d.calls ≡ c.calls → d.ended ≡ c.ended → d.streams ≡ c.streams → d.heard ≡ c.heard → d ≡ c
same_client c d p q r s t u = rw (p, q, r, s, t, u) refl

pub stream_withdrawn : (old mid : Client) (id : ℕ) (stream : StreamState) → AdmitsStream old id stream mid
    → record mid { next = mid.next - 2; streams = remove_entry (is_at (nat_cmp id)) mid.streams } ≡ old
stream_withdrawn old mid id stream admits =
    let next_was : mid.next ≡ id + 2 = ap (λ (c : Client). c.next) admits.same in
    let id_is = admits.id_is in
    same_client old (record mid { next = mid.next - 2; streams = remove_entry (is_at (nat_cmp id)) mid.streams })
    (ap (λ (c : Client). c.kind) admits.same)
    (omega (arith, next_was, id_is))
    (ap (λ (c : Client). c.calls) admits.same)
    (ap (λ (c : Client). c.ended) admits.same)
    (ap (remove_entry (is_at (nat_cmp id))) admits.streams ∙ undone id stream old.streams admits.fresh)
    (ap (λ (c : Client). c.heard) admits.same)

pub view_back : (old : Client) (streams : List (ℕ × StreamState)) (heard : List ℕ) → streams ≡ old.streams → heard ≡ old.heard → record old { streams = streams; heard = heard } ≡ old
view_back old streams heard p q = rw (p, q) refl

-- ---- the last id that was given is free again

none_even : {X : Type 0} (k : ℕ) (x : Option X) → (x ≢ None → k % 2 ≡ 1) → k % 2 ≡ 0 → x ≡ None
none_even k None odd even = refl
none_even k (Some x) odd even = let o = odd (λ none. cc) in absurd (omega (arith, o, even))

none_from : {X : Type 0} (next id : ℕ) (at : ℕ → Option X) → next ≡ id + 2 → next % 2 ≡ 1 → ((k : ℕ) → next ≤ k → at k ≡ None) → ((k : ℕ) → at k ≢ None → k % 2 ≡ 1) → at id ≡ None
    → (k : ℕ) → id ≤ k → at k ≡ None
none_from next id at is odd fresh odds none k le = elim (cases_eq k id) [
  | inl same ↦ ap at same ∙ none
  | inr apart ↦ elim (cases_eq k (id + 1)) [
    | inl after ↦ none_even k (at k) (odds k) (omega (arith, is, odd, after))
    | inr later ↦ fresh k (omega (arith, is, le, apart, later))
  ]
]

pub client_below : (next id : ℕ) (calls : List (ℕ × CallState)) → IsClient next calls → next ≡ id + 2 → call_in calls id ≡ None → IsClient (next - 2) calls
client_below next id calls valid is none =
    let odd = valid.odd in
    let range = valid.in_range in
    let below : next - 2 ≡ id = omega (arith, is) in
    record {
      odd = omega (arith, odd, is);
      in_range = omega (arith, range, is);
      fresh = λ k le. none_from next id (call_in calls) is odd valid.fresh valid.odd_calls none k (omega (arith, le, below));
      odd_calls = valid.odd_calls;
    }

pub streams_below : (next id : ℕ) (calls : List (ℕ × CallState)) (streams : List (ℕ × StreamState)) → AreStreams next calls streams → next % 2 ≡ 1 → next ≡ id + 2 → stream_in streams id ≡ None → AreStreams (next - 2) calls streams
streams_below next id calls streams are odd is none =
    let below : next - 2 ≡ id = omega (arith, is) in
    record {
      fresh = λ k le. none_from next id (stream_in streams) is odd are.fresh are.odd_streams none k (omega (arith, le, below));
      odd_streams = are.odd_streams;
      apart = are.apart;
    }

-- ---- where a step fails

pub on_err : {T E P Q : Type 0} (r : Result T E) → OnErr r P → (P → Q) → OnErr r Q
on_err (Ok x) h so = tt
on_err (Err x) h so = so h

-- ---- a stream that may not be sent on

pub closed_is : (s : Option StreamState) (t : StreamState) → s ≡ Some t → t.streaming_client ≡ true → (t.sender ≡ Closed) ⊎ (t.sender ≡ Dropped) → unsendable s ≡ Some LocalClosed
closed_is s t is client (inl closed) = rw (is, client, closed) refl
closed_is s t is client (inr dropped) = rw (is, client, dropped) refl

-- ---- two streams

pub received_apart : {O I : Type 0} (old mid new : ClientCore O I) (j k : ℕ) (other given : Option (Result (List ℕ) Error)) → k ≢ j → ReceivesOne old j other mid → ReceivesOne mid k given new
    → ReceivesAt old.connection.failure (stream_at old.state k) given (stream_at new.state k)
received_apart old mid new j k other given apart one two =
    subst (λ f. ReceivesAt f (stream_at old.state k) given (stream_at new.state k)) (ap (λ c. c.connection.failure) one.same)
    (subst (λ s. ReceivesAt mid.connection.failure s given (stream_at new.state k)) (one.others k apart) two.own)

-- ---- tickets

not_both : (sent t given : ℕ) → 0 < t → t ≤ given → (nat_lt 0 t && nat_le t sent) ≡ not (nat_lt sent t && nat_le t given)
not_both sent t given some le = grind (arith, nat_tests, some, le)

pub sent_or_queued : (q : Queue) (given t : ℕ) → AreNumbered q.sent q.frames given → 0 < t → t ≤ given → is_sent q t ≡ not (has_ticket t q.frames)
sent_or_queued q given t numbered some le = not_both q.sent t given some le ∙ ap not (sym (queued_are_behind q.frames q.sent given t numbered))

-- ---- data that aren't sealed

pub may_refuse : {O I : Type 0} (out : OutboundTransform O) (old : ClientCore O I) (is_such : Queued → Type 0) (plain : List ℕ) (frame : Queued) (error : TransformError) → is_such frame
    → MayFail out.refuses old.connection.outbox.half plain (associated frame.message.header) error → MayRefuse out old is_such plain error
may_refuse out old is_such plain frame (Refused why) is refuses = record { frame = frame; is_frame = is; refuses = refuses }
may_refuse out old is_such plain frame NoMemory is refuses = tt
