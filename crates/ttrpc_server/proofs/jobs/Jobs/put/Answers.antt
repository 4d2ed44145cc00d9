use Rattle.ttrpc_server.proofs.Words.{rules, ◌≡◌, sym, ap, None, is_at, lookup, nat_cmp, set_value, on_ok_weaker}
use Rattle.std.proofs.lemmas.Result.{on_err_weaker}
use Rattle.ttrpc_connection.specs.Mail.{with_thing}
use Rattle.ttrpc_server.specs.Types.{Mail}
use Rattle.ttrpc_server.proofs.Boxes.{mail_changed, mail_none, mail_same, rebodied}
use Rattle.ttrpc_server.proofs.jobs.Jobs.put.Goals as goal

pub returns-in_default-clause-ok : goal.returns-in_default-clause-ok
returns-in_default-clause-ok c =
    let none : lookup (is_at (nat_cmp c.args.id)) c.self.inside.jobs ≡ None = search rules in
    rw (← c.self.view_is) (ap (λ js. record { last = c.self.inside.last; list = js; newest = c.self.inside.newest }) (sym (mail_none c.self.invariant c.args.id (λ (m : Mail). with_thing m c.args.thing c.args.ends) none)))

pub invariant_of-self-2 : goal.invariant_of-self-2
invariant_of-self-2 c =
    let job = c.in-Some.job.now in
    let body = c.put.new.self in
    let new = set_value (is_at (nat_cmp c.args.id)) c.self.inside.jobs (record { id = job.id; header = job.header; request = job.request; body = body }) in
    (rebodied c.self.invariant c.args.id job body new (search rules) (search rules)).0

pub returns-clause-ok : goal.returns-clause-ok
returns-clause-ok c =
    let job = c.in-Some.job.now in
    let body = c.put.new.self in
    let new = set_value (is_at (nat_cmp c.args.id)) c.self.inside.jobs (record { id = job.id; header = job.header; request = job.request; body = body }) in
    rw (← c.self.view_is) (on_ok_weaker c.put.result (λ is. ap (λ js. record { last = c.self.inside.last; list = js; newest = c.self.inside.newest }) (mail_changed c.self.invariant c.args.id (λ (m : Mail). with_thing m c.args.thing c.args.ends) job body new (search rules) (search rules) is)) c.put.ensures.ok)

pub returns-clause-err : goal.returns-clause-err
returns-clause-err c =
    let job = c.in-Some.job.now in
    let body = c.put.new.self in
    let new = set_value (is_at (nat_cmp c.args.id)) c.self.inside.jobs (record { id = job.id; header = job.header; request = job.request; body = body }) in
    rw (← c.self.view_is) (on_err_weaker c.put.result (λ is. ap (λ js. record { last = c.self.inside.last; list = js; newest = c.self.inside.newest }) (mail_same c.self.invariant c.args.id job body new (search rules) (search rules) is)) c.put.ensures.err)
