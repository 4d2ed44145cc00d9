use Rattle.std.proofs.Common.{◌≡◌, [], rules, sym, ◌∙◌}
use Rattle.std.proofs.lemmas.Result.{err_from_is_err_and}
use Rattle.ttrpc_wire.specs.Seen.{seen_value}
use Rattle.ttrpc_members.proofs.NestingLaws.{numbers_end, numbers_none, numbers_on}
use Rattle.ttrpc_members.proofs.nesting.check_numbers.Goals as goal

pub returns-in_err-value : goal.returns-in_err-value
returns-in_err-value c =
    let p = err_from_is_err_and c.from_residual.result c.from_residual.ensures.1 in
    let some : c.loop-reader.reader ≡ [] → ⊥ = search rules in
    rw (p.1, p.2) (sym c.loop-reader.invariant ∙ numbers_none c.args.wire_type c.loop-reader.reader some c.in_err-value.ensures.err.none, c.in_err-value.ensures.err.not_memory)

pub loop-reader-preserved : goal.loop-reader-preserved
loop-reader-preserved c = sym (numbers_on c.args.wire_type c.loop-reader.reader c.value.new.self (seen_value c.in_ok-value.field-0) c.in_ok-value.ensures.ok) ∙ c.loop-reader.invariant

pub returns : goal.returns
returns c =
    let none : c.loop-reader.reader ≡ [] = search rules in
    sym c.loop-reader.invariant ∙ numbers_end c.args.wire_type c.loop-reader.reader none
