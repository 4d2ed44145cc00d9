use Rattle.std.proofs.Common.{rules, arith, ◌≡◌, ◌++◌, ◌∷◌, [], Some}
use Rattle.ttrpc_client.proofs.Places.{few_entries, put_last, rise_entries, seen}
use Rattle.ttrpc_client.proofs.pending.Pending.push_last.Goals as goal

pub returns-in_err-push-clause-rise : goal.returns-in_err-push-clause-rise
returns-in_err-push-clause-rise g c =
    let is : c.self.inside.places.items ≡ c.push.new.self.items = search rules in
    let kept = seen _ _ _ is c.self.invariant in
    rise_entries _ kept.0.rise

pub overflow_add-self : goal.overflow_add-self
overflow_add-self g c =
    let few = few_entries c.self.inside.places.items in let count = c.self.invariant.1 in let small = c.self.inside.places.small in let within = c.self.inside.places.ok in
    omega (arith, few, count, small, within)

pub invariant_of-self-2 : goal.invariant_of-self-2
invariant_of-self-2 g c =
    let ps = c.args.self.now in
    let is : c.push.new.self.items ≡ ps ++ (c.args.id, Some c.args.call) ∷ [] = search rules in
    let put = put_last c.args.id _ c.args.call ps _ (seen _ ps _ c.self.view_is c.self.invariant) c.requires is in
    put.kept

pub returns-clause-entries : goal.returns-clause-entries
returns-clause-entries g c =
    let ps = c.args.self.now in
    let is : c.push.new.self.items ≡ ps ++ (c.args.id, Some c.args.call) ∷ [] = search rules in
    let put = put_last c.args.id _ c.args.call ps _ (seen _ ps _ c.self.view_is c.self.invariant) c.requires is in
    put.entries

pub returns-clause-rise : goal.returns-clause-rise
returns-clause-rise g c = let kept = invariant_of-self-2 g c in rise_entries _ kept.0.rise
