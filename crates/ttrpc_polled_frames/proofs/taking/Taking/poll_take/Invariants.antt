use Rattle.futures.specs.Task.{Keeps}
use Rattle.ttrpc_polled_frames.specs.Reading.{Continues}
use Rattle.ttrpc_polled_frames.proofs.taking.Taking.poll_take.Given as goal

-- the frame isn't whole yet
abbrev pub invariant-loop : goal.invariant-loop
invariant-loop g l = Continues g.S.AsyncRead.reads l.fn.self.reader l.fn.self.decoder l.self.reader l.self.decoder × Keeps l.fn.cx l.cx
