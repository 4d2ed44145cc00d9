use Rattle.std.proofs.Common.{rules, ◌≢◌, ◌<◌, ◌^◌, ◌-◌, length, ap, sym, ◌∙◌, arith, inr}
use Rattle.std.proofs.lemmas.Result.{err_from_is_err_and}
use Rattle.ttrpc_wire.specs.Field.{fields_bytes}
use Rattle.ttrpc_wire.specs.Fold.{read_from}
use Rattle.ttrpc_wire.proofs.Folds.{reads_append, reads_back, refused_other}
use Rattle.ttrpc_wire.proofs.codec.message.merge.Goals as goal

pub returns-in_err-read_into-clause-refused : goal.returns-in_err-read_into-clause-refused
returns-in_err-read_into-clause-refused g c =
    let m = c.args.message.now in
    let fs = g.M.WireMessage.fields m in
    let step = g.M.WireMessage.step in
    let less : c.length.result ≢ 2 ^ 64 - 1 = search (rules, c.if-length-eq18446744073709551615.false) in
    let short : length (fields_bytes fs) < 2 ^ 64 - 1 = omega (arith, c.length.ensures, less) in
    let p = err_from_is_err_and c.from_residual-in_err-read_into.result c.from_residual-in_err-read_into.ensures.1 in
    let back = reads_back step g.M.WireMessage.empty m fs (g.met.M.WireMessage.fits m c.lemma_is_value.ensures short) (g.met.M.WireMessage.again m c.lemma_is_value.ensures short) in
    let joined = reads_append step g.M.WireMessage.empty m (fields_bytes fs) c.args.bytes.now back in
    rw (p.1, p.2) (λ other. inr (joined ∙ ap (λ x. read_from step x c.args.bytes.now) (sym c.in_ok-whole.ensures) ∙ refused_other c.in_err-read_into.field-0.0 _ c.in_err-read_into.ensures other))

pub returns-clause-ok : goal.returns-clause-ok
returns-clause-ok g c =
    let m = c.args.message.now in
    let fs = g.M.WireMessage.fields m in
    let step = g.M.WireMessage.step in
    let less : c.length.result ≢ 2 ^ 64 - 1 = search (rules, c.if-length-eq18446744073709551615.false) in
    let short : length (fields_bytes fs) < 2 ^ 64 - 1 = omega (arith, c.length.ensures, less) in
    let back = reads_back step g.M.WireMessage.empty m fs (g.met.M.WireMessage.fits m c.lemma_is_value.ensures short) (g.met.M.WireMessage.again m c.lemma_is_value.ensures short) in
    let joined = reads_append step g.M.WireMessage.empty m (fields_bytes fs) c.args.bytes.now back in
    joined ∙ ap (λ x. read_from step x c.args.bytes.now) (sym c.in_ok-whole.ensures) ∙ c.in_ok-read_into.ensures
