-- How the end of a handler is told.
use Rattle.std.proofs.Common.{◌≡◌, ◌≢◌, ◌∙◌, ℕ, Ok, Err, inl, inr, subst}
use Rattle.ttrpc_proto.specs.declared.error.Error.{Error}
use Rattle.ttrpc_proto.specs.declared.error.Error.TheVariants.{NoRoom}
use Rattle.ttrpc_secure.specs.declared.transform.OutboundTransform.{Ghosts as OutboundTransform}
use Rattle.ttrpc_connection.specs.OneEnd.{failing}
use Rattle.ttrpc_connection.specs.declared.failure.Failure.TheVariants.{Told}
use Rattle.ttrpc_server.specs.declared.server.ServerCore.{ServerCore}
use Rattle.ttrpc_polled_server.specs.declared.ended.Ended.{Ended}
use Rattle.ttrpc_polled_server.specs.declared.ended.Ended.TheVariants.{Answers, Ends, Dropped}
use Rattle.ttrpc_polled_server.specs.Steps.{EndsJob, IsEnded, LacksRoomFor, failed_by}

-- an end that is refused changes nothing
refused_stays : {O I : Type 0} (out : OutboundTransform O) (old : ServerCore O I) (id : ℕ) (ended : Ended) (e : Error) (new : ServerCore O I) → IsEnded out old id ended (Err e) new → new ≡ old
refused_stays out old id (Answers given) e new x = x.err
refused_stays out old id (Ends given) e new x = x.0
refused_stays out old id Dropped e new x = absurd x

-- what refused it was told
pub refusal_told : {O I : Type 0} (out : OutboundTransform O) (old : ServerCore O I) (id : ℕ) (ended : Ended) (refusal : Error) (mid : ServerCore O I) → refusal ≢ NoRoom → IsEnded out old id ended (Err refusal) mid
    → (told : Ended) → told ≡ failed_by ended refusal → (new : ServerCore O I) → IsEnded out mid id told (Ok tt) new → EndsJob out old id ended new
refusal_told out old id ended refusal mid other refused told is new tells =
    let stays = refused_stays out old id ended refusal mid refused in
    inr (
      refusal,
      other,
      subst (λ m. IsEnded out old id ended (Err refusal) m) stays refused,
      inr (inl (subst (λ t. IsEnded out old id t (Ok tt) new) is (subst (λ m. IsEnded out m id told (Ok tt) new) stays tells))),
    )

-- that was refused, too, and the connection fails
pub refusal_fails : {O I : Type 0} (out : OutboundTransform O) (old : ServerCore O I) (id : ℕ) (ended : Ended) (refusal : Error) (mid : ServerCore O I) → refusal ≢ NoRoom → IsEnded out old id ended (Err refusal) mid
    → (told : Ended) → told ≡ failed_by ended refusal → (last : Error) (late : ServerCore O I) → last ≢ NoRoom → IsEnded out mid id told (Err last) late
    → (new : ServerCore O I) → new ≡ record late { connection = failing late.connection (Told last) } → EndsJob out old id ended new
refusal_fails out old id ended refusal mid other refused told is last late another again new fails =
    let stays = refused_stays out old id ended refusal mid refused in
    let stays_late = refused_stays out mid id told last late again ∙ stays in
    inr (
      refusal,
      other,
      subst (λ m. IsEnded out old id ended (Err refusal) m) stays refused,
      inr (inr (
        last,
        another,
        subst (λ l. IsEnded out old id (failed_by ended refusal) (Err last) l) stays_late
            (subst (λ t. IsEnded out old id t (Err last) late) is (subst (λ m. IsEnded out m id told (Err last) late) stays again)),
        subst (λ l. new ≡ record l { connection = failing l.connection (Told last) }) stays_late fails,
      )),
    )

-- for that there is no room
pub refusal_waits : {O I : Type 0} (out : OutboundTransform O) (old : ServerCore O I) (id : ℕ) (ended : Ended) (refusal : Error) (mid : ServerCore O I) → IsEnded out old id ended (Err refusal) mid
    → (told : Ended) → told ≡ failed_by ended refusal → (late : ServerCore O I) → IsEnded out mid id told (Err NoRoom) late → (late ≡ old) × LacksRoomFor out old id ended
refusal_waits out old id ended refusal mid refused told is late again =
    let stays = refused_stays out old id ended refusal mid refused in
    let stays_late = refused_stays out mid id told NoRoom late again ∙ stays in (
      stays_late,
      inr (
        refusal,
        subst (λ m. IsEnded out old id ended (Err refusal) m) stays refused,
        subst (λ l. IsEnded out old id (failed_by ended refusal) (Err NoRoom) l) stays_late
            (subst (λ t. IsEnded out old id t (Err NoRoom) late) is (subst (λ m. IsEnded out m id told (Err NoRoom) late) stays again)),
      ),
    )
