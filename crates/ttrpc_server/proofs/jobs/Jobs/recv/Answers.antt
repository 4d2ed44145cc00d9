use Rattle.ttrpc_server.proofs.Words.{rules, refl, ◌≡◌, None, is_at, lookup, nat_cmp, set_value}
use Rattle.ttrpc_server.proofs.Boxes.{rebodied, received, received_not}
use Rattle.ttrpc_server.proofs.jobs.Jobs.recv.Goals as goal

pub returns-in_default-clause-answer : goal.returns-in_default-clause-answer
returns-in_default-clause-answer c =
    let none : lookup (is_at (nat_cmp c.args.id)) c.self.inside.jobs ≡ None = search rules in
    rw (← c.self.view_is) (received_not c.self.invariant c.args.id none, refl)

pub invariant_of-self-2 : goal.invariant_of-self-2
invariant_of-self-2 c =
    let job = c.in-Some.job.now in
    let body = c.recv.new.self in
    let new = set_value (is_at (nat_cmp c.args.id)) c.self.inside.jobs (record { id = job.id; header = job.header; request = job.request; body = body }) in
    (rebodied c.self.invariant c.args.id job body new (search rules) (search rules)).0

pub returns-clause-answer : goal.returns-clause-answer
returns-clause-answer c =
    let job = c.in-Some.job.now in
    let body = c.recv.new.self in
    let new = set_value (is_at (nat_cmp c.args.id)) c.self.inside.jobs (record { id = job.id; header = job.header; request = job.request; body = body }) in
    rw (← c.self.view_is) (received c.self.invariant c.args.id c.args.failure.now c.recv.result job body new (search rules) (search rules) c.recv.ensures.none c.recv.ensures.given)
