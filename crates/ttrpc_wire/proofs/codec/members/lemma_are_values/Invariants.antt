use Rattle.std.proofs.Common.{take}
use Rattle.std.specs.List.{AllByRecursion}
use Rattle.ttrpc_wire.proofs.codec.members.lemma_are_values.Given as goal

abbrev pub invariant-loop-part : goal.invariant-loop-part
invariant-loop-part g l = AllByRecursion g.M.WireMessage.is_value (take l.part-index l.parts)
