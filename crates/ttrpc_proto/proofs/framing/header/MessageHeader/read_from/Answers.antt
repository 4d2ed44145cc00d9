use Rattle.std.proofs.Common.{arith, sym, take_all}
use Rattle.ttrpc_proto.proofs.framing.header.MessageHeader.read_from.Goals as goal

pub returns-clause-ok : goal.returns-clause-ok
returns-clause-ok g c =
    let same = take_all c.fill-count.result.0 c.fill-count.new.buffer (let all = c.if-count-lt-MESSAGE_HEADER_LENGTH.false in let size = c.fill-count.auto.buffer in omega (arith, size, all)) in
    (c.fill-count.new.buffer, c.fill-count.auto.buffer, sym c.from.ensures, rw same at c.fill-count.ensures.bytes)
