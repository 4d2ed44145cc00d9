use Rattle.std.proofs.Common.{rules, arith, ◌≡◌, ◌∙◌, ap}
use Rattle.ttrpc_proto.specs.Framing.Queue.{with_frame, withdrawn}
use Rattle.ttrpc_proto.proofs.Queues.{placed_withdrawn}
use Rattle.ttrpc_secure.specs.declared.sending.SendError.TheVariants.{Failed}
use Rattle.ttrpc_secure.proofs.Settles.{sealed_is_queued, settled_ok, settled_err}
use Rattle.ttrpc_secure.specs.Sends.{emptied, joined}
use Rattle.ttrpc_secure.proofs.sending.send.Goals as goal

pub returns-then-leaves_as_is-clause-ok : goal.returns-then-leaves_as_is-clause-ok
returns-then-leaves_as_is-clause-ok g c =
    let placed : c.make_room.new.outgoing ≡ with_frame c.args.outgoing.now (emptied c.args.frame) = search rules in
    let seal = c.leaves_as_is.ensures c.if-leaves_as_is.true (joined c.args.parts) c.associated_bytes-associated.result in
    let longer = g.met.O.OutboundTransform.lawful.longer _ _ _ _ _ seal in
    record {
      sealed = joined c.args.parts;
      seal = rw (← c.associated_bytes-associated.ensures) seal;
      fits = omega (arith, longer, c.in_ok-check_limit.ensures.ok, c.len.ensures);
      room = omega (arith, c.in_ok-make_room.ensures.room, c.max_overhead.ensures, c.in_ok-check_limit.ensures.ok, c.len.ensures, c.len-2.ensures);
      queue = c.fill.ensures.filled ∙ sealed_is_queued c.args.outgoing.now c.make_room.new.outgoing c.args.frame (joined c.args.parts) _ placed c.in_ok-make_room.ensures.was c.in_ok-make_room.ensures.room (omega (arith, longer, c.max_overhead.ensures, c.in_ok-check_limit.ensures.ok, c.len.ensures, c.len-2.ensures));
    }

pub returns-clause-ok : goal.returns-clause-ok
returns-clause-ok g c =
    let placed : c.make_room.new.outgoing ≡ with_frame c.args.outgoing.now (emptied c.args.frame) = search rules in
    settled_ok _ Failed c.seal_parts-sealed.result c.settle.result c.settle.ensures c.seal_parts-sealed.ensures.ok (λ sealed seal fill.
    let longer = g.met.O.OutboundTransform.lawful.longer _ _ _ _ _ seal in
    record {
      sealed = sealed.items;
      seal = rw (← c.associated_bytes-associated.ensures) seal;
      fits = omega (arith, longer, c.in_ok-check_limit.ensures.ok, c.len.ensures);
      room = omega (arith, c.in_ok-make_room.ensures.room, c.max_overhead.ensures, c.in_ok-check_limit.ensures.ok, c.len.ensures, c.len-2.ensures);
      queue = fill ∙ sealed_is_queued c.args.outgoing.now c.make_room.new.outgoing c.args.frame sealed.items _ placed c.in_ok-make_room.ensures.was c.in_ok-make_room.ensures.room (omega (arith, longer, c.max_overhead.ensures, c.in_ok-check_limit.ensures.ok, c.len.ensures, c.len-2.ensures));
    })

pub returns-clause-err : goal.returns-clause-err
returns-clause-err g c =
    let placed : c.make_room.new.outgoing ≡ with_frame c.args.outgoing.now (emptied c.args.frame) = search rules in
    settled_err _ Failed c.seal_parts-sealed.result c.settle.result c.settle.ensures c.seal_parts-sealed.ensures.err (λ error same back.
    (same, back ∙ ap withdrawn placed ∙ placed_withdrawn c.args.outgoing.now (emptied c.args.frame) c.in_ok-make_room.ensures.was))
