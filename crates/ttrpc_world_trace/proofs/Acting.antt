-- What a connection sends takes wing, and what comes in acts as it was sent.
use Rattle.ttrpc_world_trace.proofs.FlightWords.{◌≡◌, ℕ, List, [], ◌∷◌, ◌++◌, map, refl, sym, ap, subst, ◌∙◌, append_assoc, append-nil, Queue, with_payload, OutboundTransform, Moves, Refusals, Outbox, InboundResult, Sent, SendsAll, Ways, Scene, ActsAll, Flying, ActsOn, AreLinked, arrived, frames_of}
use Rattle.ttrpc_world_trace.proofs.Seals.{first_opened, more_linked}

abbrev pub TakesWing : {O I : Type 0} → OutboundTransform O → Moves I → Refusals I → List Sent → Outbox O → Outbox O → List Flying → I → Type 0
TakesWing out opens refuses sent old new flights in_ =
    (more : List Flying) × (map Flying.plain more ≡ map Sent.plain sent) × (new.queue.frames ≡ old.queue.frames ++ frames_of more)
    × AreLinked out.seals opens refuses (flights ++ more) new.half in_

pub takes_wing : {O I : Type 0} (out : OutboundTransform O) (opens : Moves I) (refuses : Refusals I) (sent : List Sent) (old new : Outbox O) (flights : List Flying) (in_ : I)
    → AreLinked out.seals opens refuses flights old.half in_ → SendsAll out old sent new → TakesWing out opens refuses sent old new flights in_
takes_wing out opens refuses [] old new flights in_ linked same = (
  [],
  refl,
  ap (λ b. b.queue.frames) same ∙ sym (append-nil old.queue.frames),
  subst (λ xs. AreLinked out.seals opens refuses xs new.half in_) (sym (append-nil flights)) (subst (λ b. AreLinked out.seals opens refuses flights b.half in_) (sym same) linked),
)
takes_wing out opens refuses (s ∷ sent) old new flights in_ linked sends =
    let mid = sends.0 in
    let one : Flying = record { frame = with_payload s.frame sends.1.sealed; plain = s.plain } in
    let more = takes_wing out opens refuses sent mid new (flights ++ one ∷ []) in_ (more_linked out.seals opens refuses flights old.half in_ one mid.half linked sends.1.seal) sends.2 in (
      one ∷ more.0,
      ap (λ xs. s.plain ∷ xs) more.1,
      more.2 ∙ ap (λ (q : Queue). q.frames ++ frames_of more.0) sends.1.queue ∙ append_assoc old.queue.frames (one.frame ∷ []) (frames_of more.0),
      subst (λ xs. AreLinked out.seals opens refuses xs new.half in_) (append_assoc flights (one ∷ []) more.0) more.3,
    )

pub act_as_sent : {O S A I : Type 0} (seals : Moves O) (w : Ways S A I) (now : ℕ) (front rest : List Flying) (out : O) (old new : Scene S A I)
    → AreLinked seals w.in_.opens w.in_.refuses (front ++ rest) out old.inbound → ActsAll w now old (map arrived front) new
    → ActsOn w now old front new × AreLinked seals w.in_.opens w.in_.refuses rest out new.inbound
act_as_sent seals w now [] rest out old new linked same = (same, subst (λ c. AreLinked seals w.in_.opens w.in_.refuses rest out c.inbound) (sym same) linked)
act_as_sent seals w now (x ∷ front) rest out old new linked acts =
    let mid = acts.0 in
    let one = acts.1 in
    let first = first_opened seals w.in_ x (front ++ rest) out old.inbound one.opening mid.inbound linked one.opens in
    let later = act_as_sent seals w now front rest out mid new first.1 acts.2 in (
      (
        mid,
        one.sent,
        subst (λ (o : InboundResult). w.core.reacts old.state old.outbox.half (record { header = x.frame.message.header; opening = o; now = now }) one.sent mid.state) first.0 one.reacts,
        one.sends,
        later.0,
      ),
      later.1,
    )
