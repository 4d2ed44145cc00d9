use Rattle.ttrpc_members.proofs.MeaningLaws.{repeated_means, packed_means}
use Rattle.ttrpc_members.proofs.laws.a_list_has_all_values_in_order.Goals as goal

pub returns-clause-one_by_one : goal.returns-clause-one_by_one
returns-clause-one_by_one g c = repeated_means g.I.ItemKind.form

pub returns-clause-joined : goal.returns-clause-joined
returns-clause-joined g c = packed_means g.C.Coding64.coding
