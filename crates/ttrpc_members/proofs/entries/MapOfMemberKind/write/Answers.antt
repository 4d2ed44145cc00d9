use Rattle.ttrpc_members.proofs.entries.MapOfMemberKind.write.Goals as goal

pub returns-clause-ok : goal.returns-clause-ok
returns-clause-ok g c = rw c.as_map.ensures at c.put_entries.ensures.ok

pub returns-clause-too_long : goal.returns-clause-too_long
returns-clause-too_long g c = rw c.as_map.ensures at c.put_entries.ensures.too_long
