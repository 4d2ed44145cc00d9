use Rattle.std.proofs.Common.{◌≡◌, ◌≤◌, ◌-◌, [], ℕ, List, Option, rules, refl, sym, ap, ◌∙◌}
use Rattle.std.proofs.lemmas.Result.{err_from_is_err_and}
use Rattle.ttrpc_wire.specs.Field.{Field}
use Rattle.ttrpc_wire.specs.Seen.{seen}
use Rattle.ttrpc_wire.specs.Fold.{read_from}
use Rattle.ttrpc_wire.proofs.Folds.{reads_none, reads_end, refused, went_on, step_refused}
use Rattle.ttrpc_members.specs.declared.nesting.Rule.{Rule}
use Rattle.ttrpc_members.specs.Nesting.{field_in, nested_upto}
use Rattle.ttrpc_members.proofs.NestingLaws.{level_down, no_level, none_anyhow, rest_none, step_none}
use Rattle.ttrpc_members.proofs.nesting.+check.Goals as goal

-- what one more field of a message makes, with so many levels below it
abbrev step_at : List Rule → ℕ → ℕ → Unit {0} → Field → Option (Unit {0})
step_at rules k message = field_in rules (λ m b. nested_upto rules k m b) message

pub check_message-returns-then-levels-eq0-clause-taken : goal.check_message-returns-then-levels-eq0-clause-taken
check_message-returns-then-levels-eq0-clause-taken t c = no_level c.args.rules.now c.args.levels c.args.message c.args.bytes.now (search rules)

pub check_message-returns-then-levels-eq0-clause-told : goal.check_message-returns-then-levels-eq0-clause-told
check_message-returns-then-levels-eq0-clause-told t c = ((λ e. cc), (λ other. absurd (other refl)))

pub check_message-loop-reader-init : goal.check_message-loop-reader-init
check_message-loop-reader-init t c =
    let some : 1 ≤ c.args.levels = search rules in (
      some,
      ap (read_from (step_at c.args.rules.now (c.args.levels - 1) c.args.message) tt) c.new-reader.ensures ∙ sym (level_down c.args.rules.now c.args.levels c.args.message c.args.bytes.now some),
      (λ k e. ap (read_from (step_at c.args.rules.now k c.args.message) tt) (sym c.new-reader.ensures) ∙ e),
    )

pub check_message-returns-in_err-field-clause-taken : goal.check_message-returns-in_err-field-clause-taken
check_message-returns-in_err-field-clause-taken t c =
    let p = err_from_is_err_and c.from_residual.result c.from_residual.ensures.1 in
    let some : c.loop-reader.reader ≡ [] → ⊥ = search rules in
    rw (p.1, p.2) (refused c.in_err-field.field-0.0 _ (sym c.loop-reader.invariant.1 ∙ reads_none (step_at c.args.rules.now (c.args.levels - 1) c.args.message) tt c.loop-reader.reader some c.in_err-field.ensures.err.none))

pub check_message-returns-in_err-field-clause-told : goal.check_message-returns-in_err-field-clause-told
check_message-returns-in_err-field-clause-told t c =
    let p = err_from_is_err_and c.from_residual.result c.from_residual.ensures.1 in
    let some : c.loop-reader.reader ≡ [] → ⊥ = search rules in
    rw (p.1, p.2) (
      c.in_err-field.ensures.err.not_memory,
      (λ other. none_anyhow c.args.rules.now c.args.message c.args.bytes.now (λ k. c.loop-reader.invariant.2 k (reads_none (step_at c.args.rules.now k c.args.message) tt c.loop-reader.reader some c.in_err-field.ensures.err.none))),
    )

pub check_message-loop-reader-preserved : goal.check_message-loop-reader-preserved
check_message-loop-reader-preserved t c = (
  c.loop-reader.invariant.0,
  went_on (step_at c.args.rules.now (c.args.levels - 1) c.args.message) tt tt c.loop-reader.reader c.field.new.self (seen c.in_ok-field.field) _ c.in_ok-field.ensures.ok c.in_ok-check_field.ensures.taken c.loop-reader.invariant.1,
  (λ k e. c.loop-reader.invariant.2 k (rest_none (step_at c.args.rules.now k c.args.message) c.loop-reader.reader c.field.new.self (seen c.in_ok-field.field) c.in_ok-field.ensures.ok e)),
)

pub check_message-returns-in_err-check_field-clause-taken : goal.check_message-returns-in_err-check_field-clause-taken
check_message-returns-in_err-check_field-clause-taken t c =
    let p = err_from_is_err_and c.from_residual-in_err-check_field.result c.from_residual-in_err-check_field.ensures.1 in
    rw (p.1, p.2) (step_refused (step_at c.args.rules.now (c.args.levels - 1) c.args.message) tt c.loop-reader.reader c.field.new.self (seen c.in_ok-field.field) _ c.in_err-check_field.field-0.0 c.in_ok-field.ensures.ok c.loop-reader.invariant.1 c.in_err-check_field.ensures.taken)

pub check_message-returns-in_err-check_field-clause-told : goal.check_message-returns-in_err-check_field-clause-told
check_message-returns-in_err-check_field-clause-told t c =
    let p = err_from_is_err_and c.from_residual-in_err-check_field.result c.from_residual-in_err-check_field.ensures.1 in
    rw (p.1, p.2) (
      c.in_err-check_field.ensures.told.0,
      (λ other. none_anyhow c.args.rules.now c.args.message c.args.bytes.now
          (λ k. c.loop-reader.invariant.2 k (step_none (step_at c.args.rules.now k c.args.message) c.loop-reader.reader c.field.new.self (seen c.in_ok-field.field) c.in_ok-field.ensures.ok (c.in_err-check_field.ensures.told.1 other k)))),
    )

pub check_message-returns-clause-taken : goal.check_message-returns-clause-taken
check_message-returns-clause-taken t c =
    let none : c.loop-reader.reader ≡ [] = search rules in
    sym c.loop-reader.invariant.1 ∙ reads_end (step_at c.args.rules.now (c.args.levels - 1) c.args.message) tt c.loop-reader.reader none
