use Rattle.std.proofs.Common.{rules, ◌≡◌, ◌∙◌, ap, get_or, sym}
use Rattle.std.specs.declared.cmp.Ordering.TheVariants.{Equal, Greater, Less}
use Rattle.ttrpc_client.proofs.Places.{empty_at, flat, found, seen, taken_at}
use Rattle.ttrpc_client.proofs.Searching.{asked, middle, none_left, read_middle, went_left, went_right}
use Rattle.ttrpc_client.proofs.pending.Pending.find.Goals as goal

pub loop-low-preserved-in-Less : goal.loop-low-preserved-in-Less
loop-low-preserved-in-Less g c =
    let ps = c.args.self.now in let p = c.index.result.now in let kept = seen _ ps _ c.self.view_is c.self.invariant in
    let read : p ≡ get_or ps (middle c.loop-low.low c.loop-low.high) p = search rules in
    went_left _ ps _ _ _ _ _ p kept.0.rise c.loop-low.invariant c.loop-low-test.true read (asked _ _ p.0 Less c.new-wanted.ensures c.in-Less.ensures.order) c.compare.ensures.look

pub loop-low-preserved : goal.loop-low-preserved
loop-low-preserved g c =
    let ps = c.args.self.now in let p = c.index.result.now in let kept = seen _ ps _ c.self.view_is c.self.invariant in
    let read : p ≡ get_or ps (middle c.loop-low.low c.loop-low.high) p = search rules in
    went_right _ ps _ _ _ _ _ p kept.0.rise c.loop-low.invariant c.loop-low-test.true read (asked _ _ p.0 Greater c.new-wanted.ensures c.in-Greater.ensures.order) c.compare.ensures.look

pub returns-in-Equal-clause-some : goal.returns-in-Equal-clause-some
returns-in-Equal-clause-some g c =
    let ps = c.args.self.now in let p = c.index.result.now in let kept = seen _ ps _ c.self.view_is c.self.invariant in
    let read : p ≡ get_or ps (middle c.loop-low.low c.loop-low.high) p = search rules in
    let here = read_middle _ ps _ _ _ _ p c.loop-low.invariant c.loop-low-test.true read in
    taken_at _ _ ps p kept.0.rise here (asked _ _ p.0 Equal c.new-wanted.ensures c.in-Equal.ensures.order) (sym c.is_some.ensures ∙ c.if-is_some.true)

pub returns-in-Equal-2-clause-none : goal.returns-in-Equal-2-clause-none
returns-in-Equal-2-clause-none g c =
    let ps = c.args.self.now in let p = c.index.result.now in let kept = seen _ ps _ c.self.view_is c.self.invariant in
    let read : p ≡ get_or ps (middle c.loop-low.low c.loop-low.high) p = search rules in
    let here = read_middle _ ps _ _ _ _ p c.loop-low.invariant c.loop-low-test.true read in
    empty_at _ _ ps p kept.0.rise here (asked _ _ p.0 Equal c.new-wanted.ensures c.in-Equal-2.ensures.order) (sym c.is_some.ensures ∙ c.if-is_some.false)

pub returns-clause-none : goal.returns-clause-none
returns-clause-none g c =
    let ps = c.args.self.now in let kept = seen _ ps _ c.self.view_is c.self.invariant in
    found ps c.args.id kept.0.rise ∙ ap flat (none_left _ ps _ _ _ _ kept.0.rise c.loop-low.invariant c.loop-low-test.false)
