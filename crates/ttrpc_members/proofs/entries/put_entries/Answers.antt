use Rattle.std.proofs.Common.{◌≡◌, [], rules, sym, ap, ◌++◌, ◌∙◌, arith}
use Rattle.std.proofs.lemmas.List.{append-nil}
use Rattle.std.proofs.lemmas.Map.Iter.{rest_more}
use Rattle.std.specs.Map.Iter.{deref_pair}
use Rattle.ttrpc_members.specs.Maps.{entry_item}
use Rattle.ttrpc_members.proofs.MapLaws.{none_left, one_less, less_left}
use Rattle.ttrpc_members.proofs.entries.put_entries.Goals as goal

pub loop-key-preserved : goal.loop-key-preserved
loop-key-preserved g c =
    let i = entry_item g.K.ItemKind.form g.V.ItemKind.form in
    let k = c.args.number.value in
    let e = rest_more deref_pair c.loop-key.key-iterator c.next.new.self c.next.result (c.in-Some.key, c.in-Some.value) c.in-Some.is c.next.ensures.steps in (
      one_less i k c.loop-key.out.items c.put_entry.new.out.items _ (c.in-Some.key.now, c.in-Some.value.now) c.loop-key.key-iterator c.next.new.self e c.in_ok-put_entry.ensures.ok c.loop-key.invariant.0,
      omega (arith, less_left i k (c.in-Some.key.now, c.in-Some.value.now) c.loop-key.key-iterator c.next.new.self e, c.loop-key.invariant.1),
    )

pub returns-clause-ok : goal.returns-clause-ok
returns-clause-ok g c =
    let none : c.loop-key.key-iterator ≡ [] = search rules in
    let e = none_left (entry_item g.K.ItemKind.form g.V.ItemKind.form) c.args.number.value c.loop-key.key-iterator none in
    sym (append-nil c.loop-key.out.items) ∙ ap (λ w. c.loop-key.out.items ++ w) (sym e) ∙ c.loop-key.invariant.0
