use Rattle.ttrpc_server.proofs.Words.{rules, ◌≡◌, ◌∙◌, ℕ, None, ap, inl, inr, subst, sym}
use Rattle.ttrpc_connection.proofs.Words.{cases_eq}
use Rattle.ttrpc_connection.specs.Deadlines.{has_deadline}
use Rattle.ttrpc_table.proofs.Users.{put_elsewhere, put_there, taken_elsewhere, taken_there}
use Rattle.ttrpc_table.specs.Table.{at, with_entry, without}
use Rattle.ttrpc_server.proofs.index.Index.add.Goals as goal

pub returns-clause-ok : goal.returns-clause-ok
returns-clause-ok c =
    let were = c.self.inside.streams in
    let k = c.args.stream_id in
    let are : c.insert.new.self ≡ with_entry were k c.args.id = search rules in
    rw (← c.self.view_is) (record {
      own = ap (λ es. at es k) are ∙ put_there were k c.args.id;
      others = λ q apart. ap (λ es. at es q) are ∙ put_elsewhere were k c.args.id q apart;
      deadlines = search rules;
    })

pub returns-then-is_err-clause-err : goal.returns-then-is_err-clause-err
returns-then-is_err-clause-err c =
    let were = c.self.inside.streams in
    let k = c.args.stream_id in
    let put : c.insert.new.self ≡ with_entry were k c.args.id = search rules in
    let out : c.remove.new.self ≡ without c.insert.new.self k = search rules in
    let same : c.add.new.self ≡ c.self.inside.deadlines = search rules in
    let none : at were k ≡ None = rw (← c.self.view_is) at c.requires in
    let here : at c.remove.new.self k ≡ at were k = ap (λ es. at es k) out ∙ taken_there c.insert.new.self k c.remove.ensures.rise ∙ sym none in
    rw (← c.self.view_is) (record {
      streams = λ q. elim (cases_eq q k) [
        | inl is ↦ subst (λ (n : ℕ). at c.remove.new.self n ≡ at were n) (sym is) here
        | inr apart ↦ ap (λ es. at es q) out ∙ taken_elsewhere c.insert.new.self k q apart ∙ ap (λ es. at es q) put ∙ put_elsewhere were k c.args.id q apart
      ];
      deadlines = λ moment id. ap (λ ds. has_deadline ds moment id) same;
    })
