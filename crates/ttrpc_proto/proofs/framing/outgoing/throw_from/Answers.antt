use Rattle.std.proofs.Common.{◌≡◌, ◌<◌, ◌+◌, ◌∷◌, ◌++◌, [], List, length, arith, ap, sym, ◌∙◌, append_assoc, length-append}
use Rattle.ttrpc_proto.specs.declared.framing.record.Record.{Record}
use Rattle.ttrpc_proto.specs.Framing.Laid.{gone_records, kept_records, spans}
use Rattle.ttrpc_proto.proofs.Laying.{kept_step, last_of_both, step_fits, thrown_step}
use Rattle.ttrpc_proto.proofs.framing.outgoing.throw_from.Goals as goal

pub span-gone-requires : goal.span-gone-requires
span-gone-requires g c =
    let owners = g.W.Owners.has c.args.owners.now in
    let inv = c.loop-left.invariant in
    let e = c.in-Some.record in
    let split : kept_records owners inv.1 ++ inv.0 ≡ c.pop_back.new.self.items ++ e ∷ [] = sym inv.3 ∙ c.in-Some.ensures.items in
    let some : 0 < length inv.0 = let left = inv.5 in omega (arith, left, c.loop-left-test.true) in
    let front = last_of_both (kept_records owners inv.1) inv.0 c.pop_back.new.self.items e some split in
    let whole : c.args.records.now.items ≡ front.0 ++ e ∷ inv.1 = inv.2 ∙ ap (λ l. l ++ inv.1) front.1 ∙ append_assoc front.0 (e ∷ []) inv.1 in
    let fits = step_fits owners front.0 e inv.1 in
    let held = ap spans whole in
    omega (arith, fits, held, c.requires)

pub overflow_add-gone : goal.overflow_add-gone
overflow_add-gone g c =
    let owners = g.W.Owners.has c.args.owners.now in
    let inv = c.loop-left.invariant in
    let e = c.in-Some.record in
    let split : kept_records owners inv.1 ++ inv.0 ≡ c.pop_back.new.self.items ++ e ∷ [] = sym inv.3 ∙ c.in-Some.ensures.items in
    let some : 0 < length inv.0 = let left = inv.5 in omega (arith, left, c.loop-left-test.true) in
    let front = last_of_both (kept_records owners inv.1) inv.0 c.pop_back.new.self.items e some split in
    let whole : c.args.records.now.items ≡ front.0 ++ e ∷ inv.1 = inv.2 ∙ ap (λ l. l ++ inv.1) front.1 ∙ append_assoc front.0 (e ∷ []) inv.1 in
    let gone = inv.4 in
    let fits = step_fits owners front.0 e inv.1 in
    let held = ap spans whole in
    omega (arith, fits, held, gone, c.requires, c.span-gone.ensures)

pub loop-left-preserved-then-is_request_of : goal.loop-left-preserved-then-is_request_of
loop-left-preserved-then-is_request_of g c =
    let owners = g.W.Owners.has c.args.owners.now in
    let inv = c.loop-left.invariant in
    let e = c.in-Some.record in
    let split : kept_records owners inv.1 ++ inv.0 ≡ c.pop_back.new.self.items ++ e ∷ [] = sym inv.3 ∙ c.in-Some.ensures.items in
    let some : 0 < length inv.0 = let left = inv.5 in omega (arith, left, c.loop-left-test.true) in
    let front = last_of_both (kept_records owners inv.1) inv.0 c.pop_back.new.self.items e some split in
    let whole : c.args.records.now.items ≡ front.0 ++ e ∷ inv.1 = inv.2 ∙ ap (λ l. l ++ inv.1) front.1 ∙ append_assoc front.0 (e ∷ []) inv.1 in
    let gone = inv.4 in
    let size = ap (λ (l : List Record). length l) front.1 in
    let left = inv.5 in
    let len = c.in-Some.ensures.cases in
    let short = inv.6 in
    let step = thrown_step owners e inv.1 (sym c.is_request_of.ensures ∙ c.if-is_request_of.true) in (
      front.0,
      e ∷ inv.1,
      whole,
      front.2 ∙ ap (λ l. l ++ front.0) (sym step.0),
      omega (arith, step.1, gone, c.span-gone.ensures),
      omega (arith, size, left, length-append front.0 (e ∷ [])),
      omega (arith, len, short),
      c.in-Some.ensures.capacity ∙ inv.7,
    )

pub overflow_add-record : goal.overflow_add-record
overflow_add-record g c =
    let owners = g.W.Owners.has c.args.owners.now in
    let inv = c.loop-left.invariant in
    let e = c.in-Some.record in
    let split : kept_records owners inv.1 ++ inv.0 ≡ c.pop_back.new.self.items ++ e ∷ [] = sym inv.3 ∙ c.in-Some.ensures.items in
    let some : 0 < length inv.0 = let left = inv.5 in omega (arith, left, c.loop-left-test.true) in
    let front = last_of_both (kept_records owners inv.1) inv.0 c.pop_back.new.self.items e some split in
    let whole : c.args.records.now.items ≡ front.0 ++ e ∷ inv.1 = inv.2 ∙ ap (λ l. l ++ inv.1) front.1 ∙ append_assoc front.0 (e ∷ []) inv.1 in
    let gone = inv.4 in
    let fits = step_fits owners front.0 e inv.1 in
    let held = ap spans whole in
    omega (arith, fits, held, gone, c.requires)

pub loop-left-preserved : goal.loop-left-preserved
loop-left-preserved g c =
    let owners = g.W.Owners.has c.args.owners.now in
    let inv = c.loop-left.invariant in
    let e = c.in-Some.record in
    let split : kept_records owners inv.1 ++ inv.0 ≡ c.pop_back.new.self.items ++ e ∷ [] = sym inv.3 ∙ c.in-Some.ensures.items in
    let some : 0 < length inv.0 = let left = inv.5 in omega (arith, left, c.loop-left-test.true) in
    let front = last_of_both (kept_records owners inv.1) inv.0 c.pop_back.new.self.items e some split in
    let whole : c.args.records.now.items ≡ front.0 ++ e ∷ inv.1 = inv.2 ∙ ap (λ l. l ++ inv.1) front.1 ∙ append_assoc front.0 (e ∷ []) inv.1 in
    let gone = inv.4 in
    let size = ap (λ (l : List Record). length l) front.1 in
    let left = inv.5 in
    let len = c.in-Some.ensures.cases in
    let short = inv.6 in
    let step = kept_step owners e inv.1 (sym c.is_request_of.ensures ∙ c.if-is_request_of.false) in (
      front.0,
      e ∷ inv.1,
      whole,
      c.push_front_reserved.ensures.items
          ∙ ap (λ n. record e { gone = e.gone + n } ∷ c.pop_back.new.self.items) gone
          ∙ ap (λ l. record e { gone = e.gone + gone_records owners inv.1 } ∷ l) front.2
          ∙ ap (λ l. l ++ front.0) (sym step.0),
      sym step.1,
      omega (arith, size, left, length-append front.0 (e ∷ [])),
      let more = c.push_front_reserved.ensures.len in omega (arith, len, short, more),
      c.push_front_reserved.ensures.capacity ∙ c.in-Some.ensures.capacity ∙ inv.7,
    )
