use Rattle.std.proofs.Common.{◌∙◌, ◌++◌, ◌-◌, length, take, drop, ap}
use Rattle.std.proofs.lemmas.List.{take_rest}
use Rattle.ttrpc_proto.proofs.Slices.{behind_both}
use Rattle.ttrpc_proto.proofs.framing.bytes.slices_after.Goals as goal

pub returns : goal.returns
returns c =
    let xs = c.args.front.now in let ys = c.args.back.now in let a = c.min-in_front.result in let n = c.args.n in
    ap (λ l. l ++ take (length ys - (n - a)) (drop (n - a) ys)) (take_rest xs a) ∙ ap (λ l. drop a xs ++ l) (take_rest ys (n - a)) ∙ behind_both n a xs ys c.min-in_front.ensures
