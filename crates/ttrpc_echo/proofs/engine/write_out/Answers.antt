use Rattle.std.proofs.Common.{◌≡◌, ◌≤◌, ◌∙◌, ap, length, take, arith}
use Rattle.std.proofs.lemmas.List.{take-take, length-take}
use Rattle.ttrpc_proto.specs.Framing.Queue.{open_part, after_report}
use Rattle.ttrpc_secure.specs.declared.plain.Plain.{Plain}
use Rattle.ttrpc_server.specs.declared.server.ServerCore.{ServerCore}
use Rattle.ttrpc_echo.proofs.Writing.{lent_and_reported, still_ready, with_queue, writes_more}
use Rattle.ttrpc_echo.proofs.engine.write_out.Goals as goal

pub loop-preserved : goal.loop-preserved
loop-preserved g c =
    let ready = c.loop.invariant.ready in
    let n = c.lend-lent.result in
    let k = c.in_ok-taken.taken in
    let count = rw ready.alive at c.lend-lent.ensures.lends.count in
    let within : n ≤ length (open_part c.loop.core.connection.outbox.queue) = omega (arith, count) in
    let less : k ≤ n = omega (arith, c.in_ok-taken.ensures.count, length-take n c.lend-lent.new.buffer) in
    let is : c.wrote.new.self ≡ lent_and_reported c.loop.core n k =
    c.wrote.ensures ∙ ap (λ (s : ServerCore Plain Plain). with_queue s (after_report s.connection.outbox.queue k)) c.lend-lent.ensures.lent in
    rw is
    (record {
      ready = still_ready c.loop.core n k ready within less;
      out = writes_more c.args.core.now c.loop.core n k _ _ _ _ ready c.loop.invariant.out within less (ap (λ xs. take k xs) c.lend-lent.ensures.lends.copied ∙ take-take k n (open_part c.loop.core.connection.outbox.queue) less) c.in_ok-taken.ensures.bytes;
    })
