use Rattle.std.proofs.Common.{◌≡◌, length}
use Rattle.ttrpc_wire.specs.Fold.{read_from}
use Rattle.ttrpc_members.specs.Maps.{entry}
use Rattle.ttrpc_members.proofs.entries.read_entry.Given as goal

abbrev pub invariant-loop-reader : goal.invariant-loop-reader
invariant-loop-reader g l =
    let e = entry g.K.ItemKind.form g.V.ItemKind.form in
    read_from e.step (l.key, l.value) l.reader ≡ read_from e.step e.empty l.bytes

abbrev pub decreases-loop-reader : goal.decreases-loop-reader
decreases-loop-reader g l = length l.reader
