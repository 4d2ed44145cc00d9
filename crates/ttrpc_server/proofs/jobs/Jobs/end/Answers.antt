use Rattle.ttrpc_server.proofs.Words.{rules, ◌≡◌, ◌∙◌, ℕ, List, ap, is_at, remove_entry, nat_cmp}
use Rattle.std.specs.Map.{keys_of}
use Rattle.std.specs.Set.{remove_key}
use Rattle.ttrpc_table.proofs.Users.{keys_taken}
use Rattle.ttrpc_table.specs.Table.{without}
use Rattle.ttrpc_server.proofs.Keyed.{ended, jobs_rise}
use Rattle.ttrpc_server.proofs.jobs.Jobs.end.Goals as goal

pub invariant_of-self : goal.invariant_of-self
invariant_of-self c =
    let out : c.remove.new.self ≡ without c.self.inside.waiting c.args.id = search rules in
    let key : keys_of c.remove.new.self ≡ remove_key (is_at (nat_cmp c.args.id)) (keys_of c.self.inside.waiting) = ap (λ (es : List (ℕ × Unit {0})). keys_of es) out ∙ keys_taken c.self.inside.waiting c.args.id in
    let entry : c.remove-2.new.self ≡ remove_entry (is_at (nat_cmp c.args.id)) c.self.inside.jobs = search rules in
    rw (key, entry) (ended c.self.invariant c.args.id c.requires.0 (rw (← c.self.view_is) at c.requires.1)).0

pub returns-clause-ended : goal.returns-clause-ended
returns-clause-ended c =
    let entry : c.remove-2.new.self ≡ remove_entry (is_at (nat_cmp c.args.id)) c.self.inside.jobs = search rules in
    rw (← c.self.view_is, entry) (λ job at. (ended c.self.invariant c.args.id job at).1)

pub returns-clause-rise : goal.returns-clause-rise
returns-clause-rise c = rw (← c.self.view_is) (jobs_rise c.self.invariant)
