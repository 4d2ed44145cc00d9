use Rattle.ttrpc_server.proofs.Words.{rules, ◌≡◌, sym, ap, None, is_at, lookup, nat_cmp, set_value}
use Rattle.ttrpc_connection.specs.Mail.{without_receiver}
use Rattle.ttrpc_server.proofs.Boxes.{mail_changed, mail_none, rebodied}
use Rattle.ttrpc_server.proofs.jobs.Jobs.drop_receiver.Goals as goal

pub returns-in_default : goal.returns-in_default
returns-in_default c =
    let none : lookup (is_at (nat_cmp c.args.id)) c.self.inside.jobs ≡ None = search rules in
    rw (← c.self.view_is) (ap (λ js. record { last = c.self.inside.last; list = js; newest = c.self.inside.newest }) (sym (mail_none c.self.invariant c.args.id without_receiver none)))

pub invariant_of-self-2 : goal.invariant_of-self-2
invariant_of-self-2 c =
    let job = c.in-Some.job.now in
    let body = c.drop_receiver.new.self in
    let new = set_value (is_at (nat_cmp c.args.id)) c.self.inside.jobs (record { id = job.id; header = job.header; request = job.request; body = body }) in
    (rebodied c.self.invariant c.args.id job body new (search rules) (search rules)).0

pub returns : goal.returns
returns c =
    let job = c.in-Some.job.now in
    let body = c.drop_receiver.new.self in
    let new = set_value (is_at (nat_cmp c.args.id)) c.self.inside.jobs (record { id = job.id; header = job.header; request = job.request; body = body }) in
    rw (← c.self.view_is) (ap (λ js. record { last = c.self.inside.last; list = js; newest = c.self.inside.newest }) (mail_changed c.self.invariant c.args.id without_receiver job body new (search rules) (search rules) c.drop_receiver.ensures))
