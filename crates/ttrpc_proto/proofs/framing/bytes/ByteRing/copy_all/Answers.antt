use Rattle.std.proofs.Common.{arith, ◌≡◌, ◌∙◌, length, take, drop, sym, ap, length-take}
use Rattle.std.proofs.lemmas.List.{take_at, take_all}
use Rattle.ttrpc_proto.proofs.framing.bytes.ByteRing.copy_all.Goals as goal

pub returns-clause-copied : goal.returns-clause-copied
returns-clause-copied c =
    let items = c.args.self.now.items in let n = c.len-n.result in
    let count : n ≡ length items = c.len-n.ensures.len in
    let few = c.requires in
    let mine : length (take n c.args.to.now) ≡ n = simp length-take (omega (arith, count, few)) in
    let copied : c.copy_to.new.to ≡ take n items = c.copy_to.ensures ∙ ap (λ k. take k items) mine in
    let all : take n items ≡ items = take_all n items (omega (arith, count)) in
    let long : length c.copy_to.new.to ≡ n = ap length (copied ∙ all) ∙ sym count in
    take_at c.copy_to.new.to (drop n c.args.to.now) n long ∙ copied ∙ all
