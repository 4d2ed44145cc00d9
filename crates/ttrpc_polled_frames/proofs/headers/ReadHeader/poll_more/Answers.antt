use Rattle.std.proofs.Common.{◌≡◌, Ok, subst, sym, rules}
use Rattle.futures.specs.declared.task.Poll.TheVariants.{Ready}
use Rattle.tokio.specs.Io.Moved.{bytes_moved}
use Rattle.ttrpc_proto.proofs.Bytes.{front_with}
use Rattle.ttrpc_polled_frames.proofs.headers.ReadHeader.poll_more.Goals as goal

pub returns-in-Ready-Ok-clause-fills : goal.returns-in-Ready-Ok-clause-fills
returns-in-Ready-Ok-clause-fills g c =
    let some : c.poll_read-polled.result ≡ Ready (Ok c.in-Ready-Ok.count) = search rules in
    let read = subst (λ q. g.S.AsyncRead.reads c.args.self.now.reader (bytes_moved q c.poll_read-polled.new.buf) c.poll_read-polled.new.self) some c.poll_read-polled.ensures.bytes in
    (_, read, sym (front_with c.args.self.now.filled _ c.in-Ready-Ok.count c.args.self.now.bytes c.poll_read-polled.new.buf (search rules) (search rules)))
