use Rattle.std.proofs.Common.{◌≡◌, ◌∙◌, length, take, drop, arith, ap, length-take}
use Rattle.std.proofs.lemmas.List.{take_at}
use Rattle.ttrpc_proto.specs.Framing.Queue.{Queue, open_part}
use Rattle.ttrpc_proto.proofs.Laying.{holding, open_fits, open_taken}
use Rattle.ttrpc_proto.proofs.framing.outgoing.Outgoing.lend.Goals as goal

pub copy_to-requires : goal.copy_to-requires
copy_to-requires c =
    let fits = open_fits (holding c.self.inside c.self.invariant) in
    let same = ap (λ (q : Queue). length (open_part q)) c.self.view_is in
    omega (arith, fits, same, c.open_len.ensures, c.min-count.ensures, length-take c.min-count.result c.args.buffer.now)

pub returns-clause-copied : goal.returns-clause-copied
returns-clause-copied c =
    let a = c.self.inside in
    let h = holding a c.self.invariant in
    let fits = open_fits h in
    let same = ap (λ (q : Queue). length (open_part q)) c.self.view_is in
    let n = c.min-count.result in
    let mine : length (take n c.args.buffer.now) ≡ n = simp length-take (omega (arith, c.min-count.ensures)) in
    let copied : c.copy_to.new.to ≡ take n a.ring.items = c.copy_to.ensures ∙ ap (λ k. take k a.ring.items) mine in
    let long : length c.copy_to.new.to ≡ n = ap (λ xs. length xs) copied ∙ simp length-take (omega (arith, c.min-count.ensures, c.open_len.ensures, same, fits)) in
    take_at c.copy_to.new.to (drop n c.args.buffer.now) n long ∙ copied
    ∙ open_taken h n (omega (arith, c.min-count.ensures, c.open_len.ensures, same)) ∙ ap (λ (q : Queue). take n (open_part q)) c.self.view_is
