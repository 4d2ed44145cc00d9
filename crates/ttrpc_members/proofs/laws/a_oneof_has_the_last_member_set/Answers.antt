use Rattle.ttrpc_members.proofs.MeaningLaws.{choice_begins, choice_goes_on, choice_ends}
use Rattle.ttrpc_members.proofs.laws.a_oneof_has_the_last_member_set.Goals as goal

pub returns-clause-begins : goal.returns-clause-begins
returns-clause-begins g c = λ number. choice_begins g.S.Members.choices g.S.Members.passes number g.I.ItemKind.form

pub returns-clause-goes_on : goal.returns-clause-goes_on
returns-clause-goes_on g c = λ number. choice_goes_on g.S.Members.choices g.S.Members.passes number g.I.ItemKind.form

pub returns-clause-ends : goal.returns-clause-ends
returns-clause-ends g c = λ number. choice_ends g.S.Members.choices g.S.Members.passes number g.I.ItemKind.form
