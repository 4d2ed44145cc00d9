use Rattle.ttrpc_client.proofs.Words.{called, calling}
use Rattle.ttrpc_connection.proofs.Cuts.{any_cutting}
use Rattle.ttrpc_client.proofs.Calls.{called_is_lawful}
use Rattle.ttrpc_client.proofs.laws.cuts_do_not_matter.Goals as goal

pub returns : goal.returns
returns g c = λ s t old new calls cut happenings start same run.
    any_cutting (calling g.O.OutboundTransform g.I.InboundTransform) (called g.O.OutboundTransform g.O.OutboundTransform.SEALS) (called_is_lawful g.O.OutboundTransform g.O.OutboundTransform.SEALS) calls cut s old happenings t new start same run
