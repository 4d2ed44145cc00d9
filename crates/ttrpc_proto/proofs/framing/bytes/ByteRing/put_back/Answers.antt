use Rattle.std.proofs.Common.{arith, ℕ, length, ap}
use Rattle.circular_buffer.specs.Buffer.{Buffer}
use Rattle.ttrpc_proto.proofs.framing.bytes.ByteRing.put_back.Goals as goal

pub put-requires : goal.put-requires
put-requires c =
    let none = ap (λ (b : Buffer ℕ). length b.items) c.clear.ensures in
    let same = ap (λ (b : Buffer ℕ). b.capacity) c.clear.ensures in
    let whole = ap (λ (b : Buffer ℕ). b.capacity) c.self.view_is in
    let copied = ap length c.copy_all-n.ensures.copied in
    let count = c.copy_all-n.ensures.count in
    let within = c.copy_all-n.ensures.within in
    omega (arith, none, same, whole, copied, count, within)
