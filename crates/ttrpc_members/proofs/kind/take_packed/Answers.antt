use Rattle.std.proofs.Common.{◌≡◌, [], rules, sym, subst, ◌∙◌}
use Rattle.std.proofs.lemmas.Result.{err_from_is_err_and}
use Rattle.ttrpc_wire.specs.declared.field.WireType.{WireType}
use Rattle.ttrpc_wire.specs.Field.{IsValueOf}
use Rattle.ttrpc_wire.specs.Front.{Begins, BeginsNone}
use Rattle.ttrpc_wire.specs.Seen.{seen_value}
use Rattle.ttrpc_wire.proofs.Folds.{refused}
use Rattle.ttrpc_members.proofs.PackedLaws.{packed_end, packed_none, packed_went, packed_refused}
use Rattle.ttrpc_members.proofs.kind.take_packed.Goals as goal

pub returns-in_err-value : goal.returns-in_err-value
returns-in_err-value g c =
    let p = err_from_is_err_and c.from_residual.result c.from_residual.ensures.1 in
    let some : c.loop-reader.reader ≡ [] → ⊥ = search rules in
    let none = subst (λ (t : WireType). BeginsNone (IsValueOf t) c.loop-reader.reader) c.wire_type.ensures c.in_err-value.ensures.err.none in
    rw (p.1, p.2) (refused c.in_err-value.field-0.0 _ (sym c.loop-reader.invariant ∙ packed_none g.I.ItemKind.form c.loop-reader.member c.loop-reader.reader some none))

pub loop-reader-preserved : goal.loop-reader-preserved
loop-reader-preserved g c =
    let begins = subst (λ (t : WireType). Begins (IsValueOf t) c.loop-reader.reader (seen_value c.in_ok-value.value) c.value.new.self) c.wire_type.ensures c.in_ok-value.ensures.ok in
    packed_went g.I.ItemKind.form c.loop-reader.member c.take_number.new.member c.loop-reader.reader c.value.new.self (seen_value c.in_ok-value.value) _ begins c.in_ok-take_number.ensures c.loop-reader.invariant

pub returns-in_err-take_number : goal.returns-in_err-take_number
returns-in_err-take_number g c =
    let p = err_from_is_err_and c.from_residual-in_err-take_number.result c.from_residual-in_err-take_number.ensures.1 in
    let begins = subst (λ (t : WireType). Begins (IsValueOf t) c.loop-reader.reader (seen_value c.in_ok-value.value) c.value.new.self) c.wire_type.ensures c.in_ok-value.ensures.ok in
    rw (p.1, p.2) (packed_refused g.I.ItemKind.form c.loop-reader.member c.loop-reader.reader c.value.new.self (seen_value c.in_ok-value.value) _ c.in_err-take_number.field-0.0 begins c.loop-reader.invariant c.in_err-take_number.ensures)

pub returns : goal.returns
returns g c =
    let none : c.loop-reader.reader ≡ [] = search rules in
    sym c.loop-reader.invariant ∙ packed_end g.I.ItemKind.form c.loop-reader.member c.loop-reader.reader none
