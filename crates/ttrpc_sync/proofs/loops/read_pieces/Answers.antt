use Rattle.std.proofs.Common.{◌≤◌, length, take, arith}
use Rattle.std.proofs.lemmas.List.{length-take}
use Rattle.ttrpc_sync.proofs.Handing.{handed_in_part, handed_still}
use Rattle.ttrpc_sync.proofs.loops.read_pieces.Goals as goal

pub returns-then-not-offer-clause-handed : goal.returns-then-not-offer-clause-handed
returns-then-not-offer-clause-handed g c =
    let fits : length (take c.in-Ok.n c.read_wanted.new.buffer) ≤ length c.args.buffer.now = omega (arith, length-take c.in-Ok.n c.read_wanted.new.buffer, c.loop.invariant.size) in
    handed_in_part _ _ _ _ _ _ _ _ fits (handed_still _ _ _ _ _ c.loop.invariant.handed c.wants.ensures.taken) c.in-Ok.ensures.bytes.0 c.if-not-offer.ensures.taken.0
