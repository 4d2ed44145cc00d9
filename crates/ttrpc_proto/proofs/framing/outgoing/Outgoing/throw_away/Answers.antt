use Rattle.std.proofs.Common.{◌≡◌, ◌+◌, ◌∷◌, ◌∙◌, ℕ, arith, ap}
use Rattle.circular_buffer.specs.Buffer.{Buffer}
use Rattle.ttrpc_proto.specs.Framing.Laid.{kept_records}
use Rattle.ttrpc_proto.specs.Framing.Queue.{without}
use Rattle.ttrpc_proto.proofs.Laying.{first_holds, first_small_gone, first_view, holding, none_begun, none_holds, queue_in, rebuilt, rest_small}
use Rattle.ttrpc_proto.proofs.framing.outgoing.Outgoing.throw_away.Goals as goal

pub throw_from-gone-requires : goal.throw_from-gone-requires
throw_from-gone-requires g c =
    let a = c.self.inside in
    let h = holding a c.self.invariant in
    let rest = c.take_begun-first.new.records.items in
    rest_small h rest c.take_begun-first.ensures.rest

pub overflow_add-record : goal.overflow_add-record
overflow_add-record g c =
    let a = c.self.inside in
    let h = holding a c.self.invariant in
    let rest = c.take_begun-first.new.records.items in
    let owners = g.W.Owners.has c.args.owners.now in
    let gone = c.throw_from-gone in
    let small = first_small_gone h rest c.take_begun-first.ensures.rest owners gone.new.records.items gone.result gone.ensures.gone c.in-Some.record c.in-Some.ensures.first in
    omega (arith, small)

pub invariant_of-self : goal.invariant_of-self
invariant_of-self g c =
    let a = c.self.inside in
    let h = holding a c.self.invariant in
    let rest = c.take_begun-first.new.records.items in
    let owners = g.W.Owners.has c.args.owners.now in
    let gone = c.throw_from-gone in
    let x = c.in-Some.record in
    let kept : c.push_front_reserved.new.self.items ≡ record x { gone = x.gone + gone.result } ∷ kept_records owners rest = c.push_front_reserved.ensures.items ∙ ap (λ l. record x { gone = x.gone + gone.result } ∷ l) gone.ensures.kept in
    let holds = first_holds h rest c.take_begun-first.ensures.rest owners c.push_front_reserved.new.self.items gone.result gone.ensures.gone x c.in-Some.ensures.first kept in
    (holds.valid, holds.laid, holds.size, holds.few, c.self.invariant.4)

pub pass-requires : goal.pass-requires
pass-requires g c =
    let a = c.self.inside in
    let h = holding a c.self.invariant in
    let rest = c.take_begun-first.new.records.items in
    let owners = g.W.Owners.has c.args.owners.now in
    let gone = c.throw_from-gone in
    (none_begun h rest c.take_begun-first.ensures.rest owners gone.new.records.items gone.result gone.ensures.gone c.in_default.ensures.first gone.ensures.kept).0

pub invariant_of-self-in_default : goal.invariant_of-self-in_default
invariant_of-self-in_default g c =
    let a = c.self.inside in
    let h = holding a c.self.invariant in
    let rest = c.take_begun-first.new.records.items in
    let owners = g.W.Owners.has c.args.owners.now in
    let gone = c.throw_from-gone in
    rebuilt (none_holds h rest c.take_begun-first.ensures.rest owners gone.new.records.items gone.result gone.ensures.gone c.in_default.ensures.first gone.ensures.kept) c.pass.ensures c.self.invariant.4

pub returns-in-Some-clause-without : goal.returns-in-Some-clause-without
returns-in-Some-clause-without g c =
    let a = c.self.inside in
    let h = holding a c.self.invariant in
    let rest = c.take_begun-first.new.records.items in
    let owners = g.W.Owners.has c.args.owners.now in
    let gone = c.throw_from-gone in
    let x = c.in-Some.record in
    let kept : c.push_front_reserved.new.self.items ≡ record x { gone = x.gone + gone.result } ∷ kept_records owners rest = c.push_front_reserved.ensures.items ∙ ap (λ l. record x { gone = x.gone + gone.result } ∷ l) gone.ensures.kept in
    first_view h rest c.take_begun-first.ensures.rest owners c.push_front_reserved.new.self.items gone.result gone.ensures.gone x c.in-Some.ensures.first kept ∙ ap (λ q. without q owners) c.self.view_is

pub returns-in-Some-clause-valid : goal.returns-in-Some-clause-valid
returns-in-Some-clause-valid g c =
    let a = c.self.inside in
    let h = holding a c.self.invariant in
    let rest = c.take_begun-first.new.records.items in
    let owners = g.W.Owners.has c.args.owners.now in
    let gone = c.throw_from-gone in
    let x = c.in-Some.record in
    let kept : c.push_front_reserved.new.self.items ≡ record x { gone = x.gone + gone.result } ∷ kept_records owners rest = c.push_front_reserved.ensures.items ∙ ap (λ l. record x { gone = x.gone + gone.result } ∷ l) gone.ensures.kept in
    (first_holds h rest c.take_begun-first.ensures.rest owners c.push_front_reserved.new.self.items gone.result gone.ensures.gone x c.in-Some.ensures.first kept).valid

pub returns-in_default-clause-without : goal.returns-in_default-clause-without
returns-in_default-clause-without g c =
    let a = c.self.inside in
    let h = holding a c.self.invariant in
    let rest = c.take_begun-first.new.records.items in
    let owners = g.W.Owners.has c.args.owners.now in
    let gone = c.throw_from-gone in
    ap (λ (b : Buffer ℕ). queue_in gone.new.records.items a.told.bytes b.items a.reported a.lent a.begun a.sent) c.pass.ensures
    ∙ (none_begun h rest c.take_begun-first.ensures.rest owners gone.new.records.items gone.result gone.ensures.gone c.in_default.ensures.first gone.ensures.kept).2 ∙ ap (λ q. without q owners) c.self.view_is

pub returns-in_default-clause-valid : goal.returns-in_default-clause-valid
returns-in_default-clause-valid g c =
    let a = c.self.inside in
    let h = holding a c.self.invariant in
    let rest = c.take_begun-first.new.records.items in
    let owners = g.W.Owners.has c.args.owners.now in
    let gone = c.throw_from-gone in
    (rebuilt (none_holds h rest c.take_begun-first.ensures.rest owners gone.new.records.items gone.result gone.ensures.gone c.in_default.ensures.first gone.ensures.kept) c.pass.ensures c.self.invariant.4).0
