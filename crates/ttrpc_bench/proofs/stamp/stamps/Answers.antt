use Rattle.std.proofs.Common.{◌∙◌, sym}
use Rattle.ttrpc_bench.proofs.Pairs.{PairedFor-stamps}
use Rattle.ttrpc_bench.proofs.stamp.stamps.Goals as goal

pub returns-clause-paired : goal.returns-clause-paired
returns-clause-paired c = λ n. PairedFor-stamps n _ _ (c.new.ensures ∙ sym c.new-2.ensures)
