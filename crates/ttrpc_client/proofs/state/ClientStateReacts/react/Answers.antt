use Rattle.ttrpc_client.proofs.Words.{◌≡◌, ◌∙◌, [], false, refl, subst, sym, true, AreStreams, Client, IfSome, LandsOnce, stream_at}
use Rattle.ttrpc_client.specs.Streams.{is_entered}
use Rattle.ttrpc_client.proofs.Reacting.{lands_on_call, reaches_nobody, reaches_stream}
use Rattle.ttrpc_client.proofs.state.ClientStateReacts.react.Goals.{then-waits+in_ok-outcome, else-waits+in-Some+in_ok-delivery+in_ok-deliver, else-waits+in_default+in-Opened-1, else-waits+in_default+in-Refused-1, else-waits+in_default+in-TooLong-1}
use Rattle.ttrpc_client.proofs.state.ClientStateReacts.react.Goals as goal

pub returns-clause-ok : goal.returns-clause-ok
returns-clause-ok g c =
    let old = c.args.self.now in
    let a = c.args.arrived in
    let are : AreStreams old.next old.calls old.streams = subst (λ (s : Client). AreStreams s.next s.calls s.streams) c.self.view_is c.self.invariant.1 in
    let id = a.header.stream_id in
    let waited = sym c.waits.ensures in
    let lands : LandsOnce old a [] c.if-waits.self = elim c.if-waits.branch [
      | then-waits+in_ok-outcome w ↦ subst (LandsOnce old a []) (sym w.self-is) (lands_on_call old w.settle.new.self a w.in_ok-outcome.outcome are (waited ∙ w.if-waits.true) w.in_ok-outcome.ensures w.settle.ensures)
      | else-waits+in-Some+in_ok-delivery+in_ok-deliver w ↦ subst (LandsOnce old a []) (sym w.self-is)
          (reaches_stream old w.deliver.new.self a w.in-Some.streaming_server w.in_ok-delivery.delivery.thing w.in_ok-delivery.delivery.ends (waited ∙ w.if-waits.false) (subst (λ (s : Client). is_entered (stream_at s id) ≡ true) c.self.view_is w.in-Some.ensures.some)
          (subst (λ (s : Client). IfSome (stream_at s id) (λ t. t.streaming_server ≡ w.in-Some.streaming_server)) c.self.view_is w.in-Some.ensures.is) w.in_ok-delivery.ensures
          w.in_ok-deliver.ensures.own w.in_ok-deliver.ensures.others w.in_ok-deliver.ensures.same)
      | else-waits+in_default+in-Opened-1 w ↦ subst (LandsOnce old a []) (sym w.self-is) (reaches_nobody old a (waited ∙ w.if-waits.false) (subst (λ (s : Client). is_entered (stream_at s id) ≡ false) c.self.view_is w.in_default.ensures.none))
      | else-waits+in_default+in-Refused-1 w ↦ subst (LandsOnce old a []) (sym w.self-is) (reaches_nobody old a (waited ∙ w.if-waits.false) (subst (λ (s : Client). is_entered (stream_at s id) ≡ false) c.self.view_is w.in_default.ensures.none))
      | else-waits+in_default+in-TooLong-1 w ↦ subst (LandsOnce old a []) (sym w.self-is) (reaches_nobody old a (waited ∙ w.if-waits.false) (subst (λ (s : Client). is_entered (stream_at s id) ≡ false) c.self.view_is w.in_default.ensures.none))
    ] in
    ([], lands, refl)
