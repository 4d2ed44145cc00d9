-- What a frame does to the state of a client: it lands on a call, or reaches a stream, or finds neither.
use Rattle.ttrpc_client.proofs.Words.{◌≡◌, ◌≢◌, ◌++◌, ◌∙◌, ℕ, List, [], ◌∷◌, Option, Some, None, IfSome, Result, Bool, true, false, refl, ap, append-nil, Arrived, CallState, Waiting, StreamState, Error, Client, AreStreams, StreamsStay, call_at, call_in, option_map, stream_at, stream_in, waits, Settles, CallResult, LandsOn, LandsOnce, call_result_of}
use Rattle.ttrpc_proto.specs.declared.messages.Response.{Response}
use Rattle.ttrpc_proto.specs.declared.framing.header.MessageHeader.{MessageHeader}
use Rattle.ttrpc_connection.specs.declared.arrived.InboundResult.{InboundResult}
use Rattle.ttrpc_client.specs.Types.{Ended, MailboxEntry}
use Rattle.ttrpc_client.specs.Streams.{is_entered, with_delivery}
use Rattle.ttrpc_client.specs.Protocol.{IsCallResult, IsDelivery, Reaches, ReachesOne, ended_by, heard_with, delivery_of}

-- ---- calls

lands_on : (landing : CallResult) (call new : Option CallState) (outcome : Result Response Error) → waits call ≡ true → IsCallResult landing outcome → new ≡ Some (Ended outcome) → LandsOn landing call new
lands_on landing (Some (Waiting deadline)) new outcome was is own = (outcome, is, own)
lands_on landing call new outcome was is own = cc

lands_not : (landing : CallResult) (call new : Option CallState) → waits call ≡ false → new ≡ call → LandsOn landing call new
lands_not landing (Some (Waiting deadline)) new was same = cc
lands_not landing call new was same = same

is_kept : (call : Option CallState) → waits call ≡ true → call ≢ None
is_kept None was none = cc
is_kept (Some call) was none = cc

-- ---- streams

heard_not : (stream : Option StreamState) (id : ℕ) (heard : List ℕ) → is_entered stream ≡ false → heard_with stream id heard ≡ heard
heard_not None id heard e = refl
heard_not (Some s) id heard e = rw e refl

reaches_not : (h : MessageHeader) (opening : InboundResult) (old new : List (ℕ × StreamState)) → new ≡ old → is_entered (stream_in old h.stream_id) ≡ false → ReachesOne h opening old new
reaches_not h opening old new same e = record { own = rw e (ap (λ ss. stream_in ss h.stream_id) same); others = λ k apart. ap (λ ss. stream_in ss k) same }

reaches_some : (h : MessageHeader) (opening : InboundResult) (streaming_server : Bool) (thing : MailboxEntry) (ends : Bool) (s new : Option StreamState) → is_entered s ≡ true → IfSome s (λ t. t.streaming_server ≡ streaming_server)
    → IsDelivery (delivery_of streaming_server h opening) thing ends → new ≡ option_map (with_delivery thing ends) s → Reaches (is_entered s) h opening s new
reaches_some h opening server thing ends None new e is delivery own = cc
reaches_some h opening server thing ends (Some s) new e is delivery own = rw e (thing, ends, rw is delivery, own)

-- ---- the state

calls_changed : (c : Client) (calls : List (ℕ × CallState)) (ended more : List ℕ) (streams : List (ℕ × StreamState)) (heard : List ℕ) → more ≡ ended → streams ≡ c.streams → heard ≡ c.heard
    → record c { calls = calls; ended = ended } ≡ record c { calls = calls; ended = more; streams = streams; heard = heard }
calls_changed c calls ended more streams heard p q r = rw (p, q, r) refl

streams_changed : (c : Client) (calls : List (ℕ × CallState)) (ended : List ℕ) (streams : List (ℕ × StreamState)) (heard : List ℕ) → calls ≡ c.calls → ended ≡ c.ended
    → record c { streams = streams; heard = heard } ≡ record c { calls = calls; ended = ended; streams = streams; heard = heard }
streams_changed c calls ended streams heard p q = rw (p, q) refl

pub lands_on_call : (old new : Client) (a : Arrived) (outcome : Result Response Error) → AreStreams old.next old.calls old.streams → waits (call_at old a.header.stream_id) ≡ true
    → IsCallResult (call_result_of a.header a.opening) outcome → Settles old a.header.stream_id (Ended outcome) new → LandsOnce old a [] new
lands_on_call old new a outcome are was is settles =
    let id = a.header.stream_id in
    let streams : new.streams ≡ old.streams = ap (λ (c : Client). c.streams) settles.same in
    let none : stream_at old id ≡ None = are.apart id (is_kept (call_at old id) was) in
    let entered : is_entered (stream_at old id) ≡ false = ap is_entered none in
    record {
      lands = record { own = lands_on (call_result_of a.header a.opening) (call_at old id) (call_at new id) outcome was is settles.own; others = settles.others };
      reaches = reaches_not a.header a.opening old.streams new.streams streams entered;
      same = settles.same ∙ calls_changed old new.calls (old.ended ++ id ∷ []) (old.ended ++ ended_by (call_at old id) id) new.streams (heard_with (stream_at old id) id old.heard)
          (rw was refl) streams (heard_not (stream_at old id) id old.heard entered);
      sent_is = refl;
    }

pub reaches_stream : (old new : Client) (a : Arrived) (streaming_server : Bool) (thing : MailboxEntry) (ends : Bool) → waits (call_at old a.header.stream_id) ≡ false
    → is_entered (stream_at old a.header.stream_id) ≡ true → IfSome (stream_at old a.header.stream_id) (λ s. s.streaming_server ≡ streaming_server)
    → IsDelivery (delivery_of streaming_server a.header a.opening) thing ends
    → stream_at new a.header.stream_id ≡ option_map (with_delivery thing ends) (stream_at old a.header.stream_id) → StreamsStay old.streams a.header.stream_id new.streams
    → new ≡ record old { streams = new.streams; heard = heard_with (stream_at old a.header.stream_id) a.header.stream_id old.heard }
    → LandsOnce old a [] new
reaches_stream old new a server thing ends was entered is delivery own others same =
    let id = a.header.stream_id in
    let calls : new.calls ≡ old.calls = ap (λ (c : Client). c.calls) same in
    let none : old.ended ++ ended_by (call_at old id) id ≡ old.ended = rw was (append-nil old.ended) in
    record {
      lands = record { own = lands_not (call_result_of a.header a.opening) (call_at old id) (call_at new id) was (ap (λ cs. call_in cs id) calls); others = λ k apart. ap (λ cs. call_in cs k) calls };
      reaches = record { own = reaches_some a.header a.opening server thing ends (stream_at old id) (stream_at new id) entered is delivery own; others = others };
      same = same ∙ streams_changed old new.calls (old.ended ++ ended_by (call_at old id) id) new.streams (heard_with (stream_at old id) id old.heard) calls none;
      sent_is = refl;
    }

pub reaches_nobody : (old : Client) (a : Arrived) → waits (call_at old a.header.stream_id) ≡ false → is_entered (stream_at old a.header.stream_id) ≡ false → LandsOnce old a [] old
reaches_nobody old a was entered =
    let id = a.header.stream_id in
    record {
      lands = record { own = lands_not (call_result_of a.header a.opening) (call_at old id) (call_at old id) was refl; others = λ k apart. refl };
      reaches = reaches_not a.header a.opening old.streams old.streams refl entered;
      same = rw (was, append-nil old.ended, heard_not (stream_at old id) id old.heard entered) refl;
      sent_is = refl;
    }
