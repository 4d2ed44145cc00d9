use Rattle.std.proofs.Common.{◌≡◌, [], rules, sym, ap, ◌∙◌}
use Rattle.std.proofs.lemmas.Result.{err_from_is_err_and}
use Rattle.ttrpc_wire.specs.Seen.{seen}
use Rattle.ttrpc_wire.proofs.Folds.{reads_none, reads_end, refused}
use Rattle.ttrpc_wire.specs.Codec.InPlace.{payload_in}
use Rattle.ttrpc_wire.specs.Codec.Members.{delimited_field}
use Rattle.ttrpc_wire.proofs.Around.{kept, passed, refuses}
use Rattle.ttrpc_wire.proofs.codec.in_place.read_around.Goals as goal

pub returns-in_err-field : goal.returns-in_err-field
returns-in_err-field g c =
    let p = err_from_is_err_and c.from_residual.result c.from_residual.ensures.1 in
    let some : c.loop-reader.reader ≡ [] → ⊥ = search rules in
    rw (p.1, p.2) (refused c.in_err-field.field-0.0 _ (sym c.loop-reader.invariant.reads ∙ reads_none g.M.WireMessage.step _ c.loop-reader.reader some c.in_err-field.ensures.err.none))

pub loop-reader-preserved-in-Some : goal.loop-reader-preserved-in-Some
loop-reader-preserved-in-Some g c =
    let is = c.in-Some.ensures.some ∙ ap (λ k. delimited_field k c.in-Some.payload.now) c.payload_number.ensures in
    let around = kept g.met.M.CarriesPayload.carries _ _ _ _ _ _ c.loop-reader.invariant _ c.in_ok-field.ensures.ok c.in-Some.payload.now is in
    rw c.rest.ensures around

pub loop-reader-preserved : goal.loop-reader-preserved
loop-reader-preserved g c =
    let other = ap (λ k. payload_in k (seen c.in_ok-field.field)) (sym c.payload_number.ensures) ∙ c.in-None.ensures.none in
    passed g.met.M.CarriesPayload.carries _ _ _ _ _ _ c.loop-reader.invariant _ c.in_ok-field.ensures.ok _ other c.in_ok-put-in-None.ensures

pub returns-in_err-put-in-None : goal.returns-in_err-put-in-None
returns-in_err-put-in-None g c =
    let p = err_from_is_err_and c.from_residual-in_err-put-in-None.result c.from_residual-in_err-put-in-None.ensures.1 in
    let other = ap (λ k. payload_in k (seen c.in_ok-field.field)) (sym c.payload_number.ensures) ∙ c.in-None.ensures.none in
    rw (p.1, p.2) (refuses g.met.M.CarriesPayload.carries _ _ _ _ _ _ c.loop-reader.invariant _ c.in_ok-field.ensures.ok c.in_err-put-in-None.field-0.0 other c.in_err-put-in-None.ensures)

pub returns : goal.returns
returns g c =
    let none : c.loop-reader.reader ≡ [] = search rules in
    sym c.loop-reader.invariant.reads ∙ reads_end g.M.WireMessage.step _ c.loop-reader.reader none
