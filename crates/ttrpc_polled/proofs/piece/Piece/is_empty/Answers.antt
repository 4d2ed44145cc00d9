use Rattle.std.proofs.Common.{◌≡◌, length, drop, take, arith, ap, ◌∙◌, length-drop, length-take}
use Rattle.ttrpc_polled.proofs.piece.Piece.is_empty.Goals as goal

pub returns-clause-no : goal.returns-clause-no
returns-clause-no c differ empty =
    let i = c.self.inside in
    let short : length (drop i.from (take i.to i.bytes.items)) ≡ 0 = ap length (c.self.view_is ∙ empty) in
    grind (arith, c.self.invariant, length-drop i.from (take i.to i.bytes.items), length-take i.to i.bytes.items, short)
