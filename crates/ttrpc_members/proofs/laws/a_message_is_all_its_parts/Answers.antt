use Rattle.ttrpc_members.proofs.MeaningLaws.{message_means}
use Rattle.ttrpc_members.proofs.laws.a_message_is_all_its_parts.Goals as goal

pub returns : goal.returns
returns g c = message_means g.M.WireMessage.is_value g.M.WireMessage.empty g.M.WireMessage.step g.M.WireMessage.fields
