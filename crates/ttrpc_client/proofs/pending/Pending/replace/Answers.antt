use Rattle.std.proofs.Common.{rules, ◌≡◌, ◌∙◌, IfNone, IfSome, Option, Some, None, get_or, slice_set, sym}
use Rattle.std.proofs.lemmas.Option.{slice_get_within}
use Rattle.ttrpc_client.proofs.Places.{put_back, rise_entries, seen, was_there}
use Rattle.ttrpc_client.proofs.pending.Pending.replace.Goals as goal

whenever : {A P : Type 0} (o : Option A) → P → IfSome o (λ _. P)
whenever None h = tt
whenever (Some x) h = h

never_none : {A : Type 0} (P : Type 0) (o : Option A) (x : A) → o ≡ Some x → IfNone o P
never_none P None x is = cc
never_none P (Some y) x is = tt

pub returns-in_err-place-clause-rise : goal.returns-in_err-place-clause-rise
returns-in_err-place-clause-rise g c = let kept = seen _ c.args.self.now _ c.self.view_is c.self.invariant in rise_entries _ kept.0.rise

pub index_mut-requires : goal.index_mut-requires
index_mut-requires g c = let there = c.in_ok-place.ensures.some in let within = slice_get_within c.args.self.now c.in_ok-place.place (c.args.id, Some there.0) there.1 in search (rules, within)

pub invariant_of-self : goal.invariant_of-self
invariant_of-self g c =
    let ps = c.args.self.now in let place = c.in_ok-place.place in let there = c.in_ok-place.ensures.some in
    let put : c.replace-was.new.dest ≡ (c.args.id, Some c.args.call) = search rules in
    let is : slice_set c.self.inside.places.items place c.replace-was.new.dest ≡ slice_set ps place (c.args.id, Some c.args.call) = cc (put, c.self.view_is) in
    let back = put_back c.args.id place _ there.0 c.args.call ps _ (seen _ ps _ c.self.view_is c.self.invariant) there.1 is in
    back.kept

pub returns-clause-entries : goal.returns-clause-entries
returns-clause-entries g c =
    let ps = c.args.self.now in let place = c.in_ok-place.place in let there = c.in_ok-place.ensures.some in
    let put : c.replace-was.new.dest ≡ (c.args.id, Some c.args.call) = search rules in
    let is : slice_set c.self.inside.places.items place c.replace-was.new.dest ≡ slice_set ps place (c.args.id, Some c.args.call) = cc (put, c.self.view_is) in
    let back = put_back c.args.id place _ there.0 c.args.call ps _ (seen _ ps _ c.self.view_is c.self.invariant) there.1 is in
    whenever c.replace-was.result.1 back.entries

pub returns-clause-was : goal.returns-clause-was
returns-clause-was g c =
    let ps = c.args.self.now in let place = c.in_ok-place.place in let there = c.in_ok-place.ensures.some in let p = c.replace-was.result in
    let read : p ≡ get_or ps place p = search rules in
    was_there c.args.id place there.0 ps p there.1 read ∙ sym there.2

pub returns-clause-none : goal.returns-clause-none
returns-clause-none g c = never_none _ c.replace-was.result.1 _ (returns-clause-was g c ∙ c.in_ok-place.ensures.some.2)

pub returns-clause-rise : goal.returns-clause-rise
returns-clause-rise g c = let kept = invariant_of-self g c in rise_entries _ kept.0.rise
