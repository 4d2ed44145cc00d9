-- Where the loop ends, the keys before are below the key, and those behind are above.
use Rattle.std.proofs.Common.{◌≡◌, ◌∙◌, ◌<◌, add-one, ap, arith, below_more, length, refl, sym}
use Rattle.ttrpc_table.proofs.Parts.{begins, ends, gap_at_end, gap_before}
use Rattle.ttrpc_table.proofs.place.Goals as goal

pub returns-then-last-key : goal.returns-then-last-key
returns-then-last-key c =
    let q = c.args.keys.now in
    let some : 0 < q.len = c.in-Some.ensures.variant.0 refl in
    rw c.len.ensures (gap_at_end q.items c.args.key c.in-Some.last.now q.len c.requires some q.ok.0 c.in-Some.ensures.lookup c.if-last-key.true)

pub returns-else-key-other-2 : goal.returns-else-key-other-2
returns-else-key-other-2 c =
    let b = begins c.args.keys.now.items c.loop-i.i c.in-Some-other.other.now _ (sym c.loop-i.invariant.rest ∙ c.in-Some-other.ensures.steps) in
    gap_before c.args.keys.now.items c.args.key c.loop-i.i c.requires b.within c.loop-i.invariant.behind (omega (arith, b.is, c.if-key-other.true, c.if-key-other-2.false))

pub loop-i-preserved : goal.loop-i-preserved
loop-i-preserved c =
    let b = begins c.args.keys.now.items c.loop-i.i c.in-Some-other.other.now _ (sym c.loop-i.invariant.rest ∙ c.in-Some-other.ensures.steps) in
    record {
      rest = rw add-one (sym b.behind);
      behind = below_more _ _ c.loop-i.invariant.behind (omega (arith, b.is, c.if-key-other.false));
      within = omega (arith, b.within);
    }

pub returns : goal.returns
returns c =
    let q = c.args.keys.now in
    let long : length q.items ≡ c.loop-i.i = omega (arith, c.loop-i.invariant.within, ends q.items c.loop-i.i (ap length (sym c.loop-i.invariant.rest) ∙ c.in-None.ensures.steps.0)) in
    let is : c.len-2.result ≡ c.loop-i.i = omega (arith, long, c.len-2.ensures, q.ok.0) in
    rw is (omega (arith, long), c.loop-i.invariant.behind, λ j more within. absurd (omega (arith, long, more, within)))
