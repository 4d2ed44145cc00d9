-- What is queued while a piece is fed: for each frame that is whole at most one response, under its id.
use Rattle.ttrpc_server.proofs.Words.{◌≡◌, inl, inr, ◌∙◌, ℕ, List, [], ◌∷◌, ◌++◌, append_assoc, Option, Some, None, refl, sym, ap, subst, Queued, OutboundTransform, Connection, Outbox, MessageHeader, Response, Sent, SendsAll, Server, serving, row_of, Row, Rules, SendResponse, SendCode, Does, SendsOwnAnswer, fitted, IsResponseFrame, response_bytes, safe_limit}
use Rattle.std.specs.Prelude.{◌⊎◌}
use Rattle.ttrpc_server.specs.Protocol.{seen_by}
use Rattle.ttrpc_connection.specs.Calls.{Queues}
use Rattle.ttrpc_connection.specs.Feeds.{arrived}
use Rattle.ttrpc_connection.proofs.Words.{append-nil, ActsAll, given, Gives, header_of_frame, InboundTransform, Incoming, Scene, scene}
use Rattle.ttrpc_connection.proofs.Feeding.{nothing_taken}
use Rattle.ttrpc_server.specs.Calls.{AnswersPiece, AreAnswers, streams_of}
use Rattle.ttrpc_server.proofs.Calls.{one_is_queued}

-- ---- one frame

-- nothing was sent, or one response under this id
abbrev SendsAtMostOne : ℕ → List Sent → Type 0
SendsAtMostOne k sent = (sent ≡ []) ⊎ ((one : Sent) × IsResponseFrame k one.frame × (sent ≡ one ∷ []))

own_sends : {O : Type 0} (rules : Rules) (out : OutboundTransform O) (o : O) (k : ℕ) (r : Response) (sent : List Sent) → SendsOwnAnswer rules out o k r sent → SendsAtMostOne k sent
own_sends rules out o k r sent (inl one) =
    let first : Sent = record { frame = one.frame; plain = response_bytes (fitted rules (safe_limit out o) r) } in inr (first, one.is_frame, one.is)
own_sends rules out o k r sent (inr none) = inl none.0

row_sends : {O : Type 0} (out : OutboundTransform O) (row : Row) (old : Server) (o : O) (header : MessageHeader) (now : ℕ) (sent : List Sent) (new : Server) → Does out row old o header now sent new
    → SendsAtMostOne header.stream_id sent
row_sends out (SendResponse r) old o header now sent new does = own_sends old.rules out o header.stream_id r sent does.1
row_sends out (SendCode code) old o header now sent new does = own_sends old.rules out o header.stream_id does.1.0 sent does.1.2
row_sends out row old o header now sent new does = inl does.1

-- nothing was queued, or one response under this id
abbrev QueuesAtMostOne : {O : Type 0} → ℕ → Outbox O → Outbox O → Type 0
QueuesAtMostOne k old new = (new.queue.frames ≡ old.queue.frames) ⊎ ((f : Queued) × IsResponseFrame k f × (new.queue.frames ≡ old.queue.frames ++ f ∷ []))

sent_is_queued : {O : Type 0} (out : OutboundTransform O) (k : ℕ) (old new : Outbox O) (sent : List Sent) → SendsAtMostOne k sent → SendsAll out old sent new → QueuesAtMostOne k old new
sent_is_queued out k old new sent (inl none) sends = let same : new ≡ old = subst (λ (xs : List Sent). SendsAll out old xs new) none sends in inl (ap (λ (b : Outbox _). b.queue.frames) same)
sent_is_queued out k old new sent (inr one) sends = inr (one_is_queued out k old new one.0 one.1 (subst (λ (xs : List Sent). SendsAll out old xs new) one.2 sends))

-- ---- frames one after the other

-- these were queued for those frames
abbrev QueuesAnswers : {O : Type 0} → List Incoming → Outbox O → Outbox O → Type 0
QueuesAnswers frames old new = (queued : List Queued) × (new.queue.frames ≡ old.queue.frames ++ queued) × AreAnswers (streams_of frames) queued

one_more : {O : Type 0} (f : Incoming) (fs : List Incoming) (old mid new : Outbox O) → QueuesAtMostOne (header_of_frame f).stream_id old mid → QueuesAnswers fs mid new → QueuesAnswers (f ∷ fs) old new
one_more f fs old mid new (inl same) later = (later.0, later.1 ∙ ap (λ gs. gs ++ later.0) same, inl later.2)
one_more f fs old mid new (inr one) later = (
  one.0 ∷ later.0,
  later.1 ∙ ap (λ gs. gs ++ later.0) one.2 ∙ append_assoc old.queue.frames (one.0 ∷ []) later.0,
  inr (one.0, later.0, one.1, refl, later.2),
)

last_unanswered : (fs : List Incoming) (last : Option Incoming) (queued : List Queued) → AreAnswers (streams_of fs) queued → AreAnswers (streams_of (fs ++ given last)) queued
last_unanswered [] None queued are = are
last_unanswered [] (Some f) queued are = inl are
last_unanswered (f ∷ fs) last queued (inl are) = inl (last_unanswered fs last queued are)
last_unanswered (f ∷ fs) last queued (inr are) = inr (are.0, are.1, are.2, are.3, last_unanswered fs last are.1 are.4)

module _ {O I : Type 0} (out : OutboundTransform O) (in_ : InboundTransform I) where
  acts_answer : (at : ℕ) (fs : List Incoming) (old new : Scene Server O I) → ActsAll (serving out in_) at old fs new → QueuesAnswers fs old.outbox new.outbox
  acts_answer at [] old new same = ([], ap (λ c. c.outbox.queue.frames) same ∙ sym (append-nil old.outbox.queue.frames), refl)
  acts_answer at (f ∷ fs) old new acts =
      let a = acts.1 in
      let row = row_of old.state (arrived f a.opening at) in
      let sends = row_sends out row (seen_by old.state (arrived f a.opening at)) old.outbox.half (header_of_frame f) at a.sent acts.0.state a.reacts in
      one_more f fs old.outbox acts.0.outbox new.outbox (sent_is_queued out (header_of_frame f).stream_id old.outbox acts.0.outbox a.sent sends a.sends) (acts_answer at fs acts.0 new acts.2)

  pub gives_answers : (s : Server) (old : Connection O I) (piece : List ℕ) (at : ℕ) (t : Server) (new : Connection O I) → Gives (serving out in_) s old piece at t new
      → (queued : List Queued) × Queues old queued new × AnswersPiece old piece queued new
  gives_answers s old piece at t new (inl feeds) =
      let all = acts_answer at feeds.frames (scene s old) (scene t new) feeds.acts in
      (all.0, all.1, record { taken = piece; rest = []; piece_is = sym (append-nil piece); frames = feeds.frames; fed = feeds.fed; answers = all.2 })
  gives_answers s old piece at t new (inr (inl breaks)) =
      let b = breaks.1 in
      let all = acts_answer at b.frames (scene s old) b.mid b.acts in (
        all.0,
        ap (λ o. o.queue.frames) b.outbox ∙ all.1,
        record {
          taken = b.taken;
          rest = b.rest;
          piece_is = b.piece_is;
          frames = b.frames ++ given b.last;
          fed = b.fed;
          answers = last_unanswered b.frames b.last all.0 all.2;
        },
      )
  gives_answers s old piece at t new (inr (inr failed)) = (
    [],
    ap (λ c. c.outbox.queue.frames) failed.2 ∙ sym (append-nil old.outbox.queue.frames),
    record { taken = []; rest = piece; piece_is = refl; frames = []; fed = rw failed.2 (nothing_taken old.decoder); answers = refl },
  )
