use Rattle.std.proofs.Common.{arith, ℕ, ◌≡◌, ◌∙◌, ◌-◌, ◌+◌, length, take, drop, sym, ap, length-drop}
use Rattle.std.proofs.lemmas.List.{drop-take}
use Rattle.circular_buffer.specs.Buffer.{Buffer, buffer}
use Rattle.ttrpc_proto.proofs.framing.bytes.ByteRing.cut.Goals as goal

pub returns : goal.returns
returns c =
    let ring = c.self.inside.ring in let passed = c.self.inside.passed in let n = c.args.n in
    let size = ap (λ (b : Buffer ℕ). length b.items) (sym c.self.view_is) ∙ length-drop passed ring.items in
    let all = c.len-2.ensures.len in let left = c.len.ensures.len in let asked = c.requires in let inside = c.self.invariant in
    let number : c.len-2.result - (c.len.result - n) ≡ passed + n = omega (arith, size, all, left, asked, inside) in
    ap (λ (b : Buffer ℕ). buffer (drop passed b.items) b.capacity) c.truncate_back.ensures
    ∙ ap (λ k. buffer (drop passed (take k ring.items)) ring.capacity) number
    ∙ ap (λ xs. buffer xs ring.capacity) (drop-take passed n ring.items)
    ∙ ap (λ (b : Buffer ℕ). buffer (take n b.items) b.capacity) c.self.view_is
