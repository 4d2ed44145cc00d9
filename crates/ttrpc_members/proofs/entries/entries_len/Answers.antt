use Rattle.std.proofs.Common.{◌≡◌, [], rules, ap, length, arith}
use Rattle.ttrpc_members.specs.Maps.{entry_item}
use Rattle.ttrpc_members.proofs.MapLaws.{none_left}
use Rattle.ttrpc_members.proofs.entries.entries_len.Goals as goal

pub returns : goal.returns
returns g c =
    let none : c.loop-key.key-iterator ≡ [] = search rules in
    let e = none_left (entry_item g.K.ItemKind.form g.V.ItemKind.form) c.args.number.value c.loop-key.key-iterator none in
    omega (arith, ap length e, c.loop-key.invariant.0, c.loop-key.invariant.1)
