use Rattle.std.proofs.Common.{◌≡◌, ◌≢◌, ◌<◌, ◌≤◌, arith, rules}
use Rattle.std.proofs.KnownBytes.{Keeps-refl}
use Rattle.std.proofs.lemmas.List.{length-take}
use Rattle.std.specs.IoError.{error_kind}
use Rattle.std.specs.declared.io.ErrorKind.TheVariants.{Interrupted}
use Rattle.ttrpc_sync.proofs.Counting.{one_more_still}
use Rattle.ttrpc_sync.proofs.Writing.{ends_here, goes_on, reported_as_lent, written_more, written_no_more}
use Rattle.ttrpc_sync.proofs.loops.write_pieces.Goals as goal

pub loop-preserved-else-not-more : goal.loop-preserved-else-not-more
loop-preserved-else-not-more g c =
    let so = c.loop.invariant in
    let more = c.if-not-more.ensures in
    record {
      next = tt;
      finite = tt;
      state = more.state;
      begun = one_more_still _ _ _ (one_more_still _ _ _ so.begun c.lend-lent.ensures.begun) more.begun;
      size = search rules;
      written = written_no_more _ _ _ _ _ _ (written_no_more _ _ _ _ _ _ so.written c.in-Ok.ensures.bytes c.lend-lent.ensures.reported) (Keeps-refl _) more.reported;
      calls = goes_on _ _ _ _ so.calls c.in-Ok.ensures.calls tt;
    }

pub loop-preserved-else-ne : goal.loop-preserved-else-ne
loop-preserved-else-ne g c =
    let so = c.loop.invariant in
    let kind : error_kind c.in-Err.error ≡ Interrupted = search rules in
    record {
      next = tt;
      finite = tt;
      state = c.lend-lent.ensures.state;
      begun = one_more_still _ _ _ so.begun c.lend-lent.ensures.begun;
      size = search rules;
      written = written_no_more _ _ _ _ _ _ so.written c.in-Err.ensures.bytes c.lend-lent.ensures.reported;
      calls = goes_on _ _ _ _ so.calls c.in-Err.ensures.calls kind;
    }

pub returns-then-ne-clause-calls : goal.returns-then-ne-clause-calls
returns-then-ne-clause-calls g c =
    let kind : error_kind c.in-Err.error ≢ Interrupted = search rules in
    ends_here _ _ _ _ _ c.loop.invariant.calls c.in-Err.ensures.calls (kind, c.broke.ensures.state)

pub loop-preserved-in-Ok-write : goal.loop-preserved-in-Ok-write
loop-preserved-in-Ok-write g c =
    let so = c.loop.invariant in
    let bound = c.in-Ok-write.ensures.bound in
    let fits : c.in-Ok-write.n ≤ c.lend-lent.result = omega (arith, length-take c.lend-lent.result c.lend-lent.new.buffer, bound) in
    let some : 0 < c.in-Ok-write.n = (let not = c.in-Ok-write.n-test.1 in omega (arith, not)) in
    let told = reported_as_lent (g.P.WritePort.told c.lend-lent.new.self) _ _ c.in-Ok-write.n c.lend-lent.result fits c.lend-lent.ensures.bytes c.wrote.ensures.reported in
    let lent = written_no_more _ _ _ _ _ _ so.written (Keeps-refl (g.W.Sink.contents c.loop.writer)) c.lend-lent.ensures.reported in
    record {
      next = tt;
      finite = tt;
      state = c.wrote.ensures.state;
      begun = one_more_still _ _ _ (one_more_still _ _ _ so.begun c.lend-lent.ensures.begun) c.wrote.ensures.begun;
      size = search rules;
      written = written_more _ _ _ _ _ _ _ lent c.in-Ok-write.ensures.bytes told;
      calls = goes_on _ _ _ _ so.calls c.in-Ok-write.ensures.calls some;
    }

pub returns-then-ne-2-clause-calls : goal.returns-then-ne-2-clause-calls
returns-then-ne-2-clause-calls g c =
    let kind : error_kind c.in-Err-write.error ≢ Interrupted = search rules in
    ends_here _ _ _ _ _ c.loop.invariant.calls c.in-Err-write.ensures.calls (kind, c.broke-then-ne-2.ensures.state)

pub loop-preserved : goal.loop-preserved
loop-preserved g c =
    let so = c.loop.invariant in
    let kind : error_kind c.in-Err-write.error ≡ Interrupted = search rules in
    record {
      next = tt;
      finite = tt;
      state = c.lend-lent.ensures.state;
      begun = one_more_still _ _ _ so.begun c.lend-lent.ensures.begun;
      size = search rules;
      written = written_no_more _ _ _ _ _ _ so.written c.in-Err-write.ensures.bytes c.lend-lent.ensures.reported;
      calls = goes_on _ _ _ _ so.calls c.in-Err-write.ensures.calls kind;
    }
