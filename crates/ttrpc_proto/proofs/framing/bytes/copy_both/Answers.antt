use Rattle.std.proofs.Common.{arith, ◌≡◌, ◌∙◌, ◌++◌, ◌-◌, [], length, min, take, drop, ap, length-drop}
use Rattle.std.proofs.lemmas.List.{append-nil, drop_all, take_rest}
use Rattle.ttrpc_proto.proofs.Slices.{copied_both}
use Rattle.ttrpc_proto.proofs.framing.bytes.copy_both.Goals as goal

pub returns : goal.returns
returns c =
    let b = c.args.to.now in let front = c.copy_front-in_front.new.to in let back = c.copy_front-in_back.new.to in
    let a = c.copy_front-in_front.result in let n = c.copy_front-in_back.result in
    let xs = c.args.front.now in let ys = c.args.back.now in
    let rest : take (length front - a) (drop a front) ≡ drop a front = take_rest front a in
    let all : drop (length front - a) (drop a front) ≡ [] = drop_all (length front - a) (drop a front) (omega (arith, length-drop a front)) in
    let count : n ≡ min (length (drop a front)) (length ys) = c.copy_front-in_back.ensures.count ∙ ap (λ l. min (length l) (length ys)) rest in
    let copied : back ≡ take n ys ++ drop n (drop a front) = c.copy_front-in_back.ensures.copied ∙ ap (λ l. take n ys ++ drop n l) rest in
    ap (λ l. take a front ++ (back ++ l)) all ∙ ap (λ l. take a front ++ l) (append-nil back)
    ∙ copied_both xs ys b front back a n c.copy_front-in_front.ensures.count c.copy_front-in_front.ensures.copied count copied c.requires
