use Rattle.ttrpc_members.proofs.Groups.{two_after}
use Rattle.ttrpc_members.proofs.entries.put_parts.Goals as goal

pub returns-clause-ok : goal.returns-clause-ok
returns-clause-ok g c = two_after c.args.out.now.items _ _ _ _ c.in_ok-put_item.ensures.ok c.in_ok-put_item-2.ensures.ok
