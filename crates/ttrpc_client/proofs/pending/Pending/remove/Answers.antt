use Rattle.std.proofs.Common.{rules, ◌≡◌, ◌∙◌, Some, None, get_or, slice_set, sym}
use Rattle.std.proofs.lemmas.Option.{slice_get_within}
use Rattle.std.specs.BTreeMap.{is_at}
use Rattle.std.specs.Ordering.{nat_cmp}
use Rattle.ttrpc_client.specs.pending.Places.{entries_in}
use Rattle.ttrpc_client.proofs.Places.{absent, removed, rise_entries, seen, was_there}
use Rattle.ttrpc_client.proofs.pending.Pending.remove.Goals as goal

pub returns-in_err-place-clause-entries : goal.returns-in_err-place-clause-entries
returns-in_err-place-clause-entries g c = absent (is_at (nat_cmp c.args.id)) (entries_in c.args.self.now) c.in_err-place.ensures.none

pub returns-in_err-place-clause-rise : goal.returns-in_err-place-clause-rise
returns-in_err-place-clause-rise g c = let kept = seen _ c.args.self.now _ c.self.view_is c.self.invariant in rise_entries _ kept.0.rise

pub index_mut-requires : goal.index_mut-requires
index_mut-requires g c = let there = c.in_ok-place.ensures.some in let within = slice_get_within c.args.self.now c.in_ok-place.place (c.args.id, Some there.0) there.1 in search (rules, within)

pub invariant_of-self : goal.invariant_of-self
invariant_of-self g c =
    let ps = c.args.self.now in let place = c.in_ok-place.place in let there = c.in_ok-place.ensures.some in
    let put : c.replace-was.new.dest ≡ (c.args.id, None) = search rules in
    let is : slice_set c.self.inside.places.items place c.replace-was.new.dest ≡ slice_set ps place (c.args.id, None) = cc (put, c.self.view_is) in
    let less = removed c.args.id place _ there.0 ps _ _ (seen _ ps _ c.self.view_is c.self.invariant) there.1 is c.tidy.ensures.trimmed c.tidy.ensures.few in
    less.kept

pub returns-clause-entries : goal.returns-clause-entries
returns-clause-entries g c =
    let ps = c.args.self.now in let place = c.in_ok-place.place in let there = c.in_ok-place.ensures.some in
    let put : c.replace-was.new.dest ≡ (c.args.id, None) = search rules in
    let is : slice_set c.self.inside.places.items place c.replace-was.new.dest ≡ slice_set ps place (c.args.id, None) = cc (put, c.self.view_is) in
    let less = removed c.args.id place _ there.0 ps _ _ (seen _ ps _ c.self.view_is c.self.invariant) there.1 is c.tidy.ensures.trimmed c.tidy.ensures.few in
    less.entries

pub returns-clause-value : goal.returns-clause-value
returns-clause-value g c =
    let ps = c.args.self.now in let place = c.in_ok-place.place in let there = c.in_ok-place.ensures.some in let p = c.replace-was.result in
    let read : p ≡ get_or ps place p = search rules in
    was_there c.args.id place there.0 ps p there.1 read ∙ sym there.2

pub returns-clause-rise : goal.returns-clause-rise
returns-clause-rise g c = let kept = invariant_of-self g c in rise_entries _ kept.0.rise
