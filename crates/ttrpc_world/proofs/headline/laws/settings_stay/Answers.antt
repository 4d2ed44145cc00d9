use Rattle.ttrpc_world.proofs.Constants.{constant}
use Rattle.ttrpc_world.proofs.headline.laws.settings_stay.Goals as goal

pub returns : goal.returns
returns g c = λ old new trace steps.
    let stays = constant _ _ _ g.met.SO.OutboundTransform.lawful.fixed old trace new steps in
    (stays.rules, stays.services, stays.limit)
