use Rattle.ttrpc_server.proofs.Words.{rules, ◌≡◌, ◌+◌, ◌∙◌, inl, ℕ, ap, refl, List, insert_entry, is_at, remove_entry, nat_cmp, ActiveJob, JobList, new_job}
use Rattle.std.specs.BTreeSet.{insert_key}
use Rattle.std.specs.Map.{keys_of}
use Rattle.ttrpc_table.proofs.Users.{keys_put}
use Rattle.ttrpc_table.specs.Table.{with_entry}
use Rattle.ttrpc_server.proofs.Keyed.{made, unmade}
use Rattle.ttrpc_server.proofs.jobs.Jobs.make.Goals as goal

pub invariant_of-self-2 : goal.invariant_of-self-2
invariant_of-self-2 c =
    let last = c.self.inside.last in
    let job = new_job (last + 1) c.args.header c.args.request c.args.body in
    let put : c.insert.new.self ≡ insert_entry nat_cmp c.self.inside.jobs (last + 1) job = search rules in
    let more : c.insert-2.new.self ≡ with_entry c.self.inside.waiting (last + 1) tt = search rules in
    let key : keys_of c.insert-2.new.self ≡ insert_key nat_cmp (keys_of c.self.inside.waiting) (last + 1) = ap (λ (es : List (ℕ × Unit {0})). keys_of es) more ∙ keys_put c.self.inside.waiting (last + 1) tt in
    rw (put, key) (made c.self.invariant job refl refl).0

pub returns-clause-ok : goal.returns-clause-ok
returns-clause-ok c =
    let last = c.self.inside.last in
    let job = new_job (last + 1) c.args.header c.args.request c.args.body in
    let put : c.insert.new.self ≡ insert_entry nat_cmp c.self.inside.jobs (last + 1) job = search rules in
    rw (← c.self.view_is, put)
    (ap {B = JobList} (λ (l : List ActiveJob). record { last = last + 1; list = l; newest = c.self.inside.newest }) (made c.self.invariant job refl refl).1)

pub invariant_of-self-then-is_err-2 : goal.invariant_of-self-then-is_err-2
invariant_of-self-then-is_err-2 c =
    let last = c.self.inside.last in
    let job = new_job (last + 1) c.args.header c.args.request c.args.body in
    let put : c.insert.new.self ≡ insert_entry nat_cmp c.self.inside.jobs (last + 1) job = search rules in
    let gone : c.remove.new.self ≡ remove_entry (is_at (nat_cmp (last + 1))) c.insert.new.self = search rules in
    let back : c.remove.new.self ≡ c.self.inside.jobs = gone ∙ ap (λ (es : List (ℕ × ActiveJob)). remove_entry (is_at (nat_cmp (last + 1))) es) put ∙ unmade c.self.invariant job refl in
    let same : c.insert-2.new.self ≡ c.self.inside.waiting = search rules in
    rw (back, same) c.self.invariant

pub returns-then-is_err-2-clause-err : goal.returns-then-is_err-2-clause-err
returns-then-is_err-2-clause-err c =
    let last = c.self.inside.last in
    let job = new_job (last + 1) c.args.header c.args.request c.args.body in
    let put : c.insert.new.self ≡ insert_entry nat_cmp c.self.inside.jobs (last + 1) job = search rules in
    let gone : c.remove.new.self ≡ remove_entry (is_at (nat_cmp (last + 1))) c.insert.new.self = search rules in
    let back : c.remove.new.self ≡ c.self.inside.jobs = gone ∙ ap (λ (es : List (ℕ × ActiveJob)). remove_entry (is_at (nat_cmp (last + 1))) es) put ∙ unmade c.self.invariant job refl in
    (rw (← c.self.view_is, back) refl, inl refl)
