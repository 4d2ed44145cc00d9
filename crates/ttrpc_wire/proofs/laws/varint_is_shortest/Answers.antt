use Rattle.ttrpc_wire.proofs.Varints.{varint_spells, varint_shortest, varint_below}
use Rattle.ttrpc_wire.proofs.laws.varint_is_shortest.Goals as goal

pub returns-clause-spells : goal.returns-clause-spells
returns-clause-spells c = varint_spells

pub returns-clause-shortest : goal.returns-clause-shortest
returns-clause-shortest c = varint_shortest

pub returns-clause-fits : goal.returns-clause-fits
returns-clause-fits c = varint_below
