use Rattle.ttrpc_members.specs.Maps.{entry_item}
use Rattle.ttrpc_members.proofs.MeaningLaws.{map_means}
use Rattle.ttrpc_members.proofs.laws.a_map_has_the_last_entry_of_a_key.Goals as goal

pub returns : goal.returns
returns g c = map_means g.K.Item.Ord.cmp g.met.K.Item.Ord.total (entry_item g.K.ItemKind.form g.V.ItemKind.form)
