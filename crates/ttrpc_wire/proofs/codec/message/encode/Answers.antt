use Rattle.std.proofs.Common.{◌≡◌, ◌<◌, ◌^◌, ◌-◌, ◌++◌, [], length, ap, ◌∙◌, arith, rules}
use Rattle.ttrpc_wire.specs.Field.{fields_bytes}
use Rattle.ttrpc_wire.specs.Fold.{read_from}
use Rattle.ttrpc_wire.proofs.Folds.{reads_back}
use Rattle.ttrpc_wire.proofs.codec.message.encode.Goals as goal

pub returns-clause-again : goal.returns-clause-again
returns-clause-again g c =
    let m = c.args.message.now in
    let fs = g.M.WireMessage.fields m in
    let step = g.M.WireMessage.step in
    let short : length (fields_bytes fs) < 2 ^ 64 - 1 = omega (arith, c.length-length.ensures, c.if-length.false) in
    let back = reads_back step g.M.WireMessage.empty m fs (g.met.M.WireMessage.fits m c.lemma_is_value.ensures short) (g.met.M.WireMessage.again m c.lemma_is_value.ensures short) in
    let none : c.in_ok-out.out.items ≡ [] = search rules in
    ap (read_from step g.M.WireMessage.empty) (c.in_ok-write.ensures.ok ∙ ap (λ l. l ++ fields_bytes fs) none) ∙ back
