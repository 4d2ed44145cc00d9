use Rattle.std.proofs.Common.{ap, ◌∙◌}
use Rattle.std.specs.BTreeMap.{is_at}
use Rattle.std.specs.Map.{keys_of}
use Rattle.std.specs.Ordering.{nat_cmp}
use Rattle.std.specs.Set.{remove_key}
use Rattle.ttrpc_table.proofs.Users.{keys_taken}
use Rattle.ttrpc_polled.proofs.wakers.Wakers.wake.Goals as goal

pub returns : goal.returns
returns c = ap keys_of c.remove.ensures.entries ∙ keys_taken c.self.inside.slots c.args.key ∙ ap (remove_key (is_at (nat_cmp c.args.key))) c.self.view_is
