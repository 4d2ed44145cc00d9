use Rattle.ttrpc_server.proofs.Words.{rules, ◌≡◌, ◌∙◌, ap}
use Rattle.ttrpc_table.proofs.Users.{taken_elsewhere, taken_there}
use Rattle.ttrpc_table.specs.Table.{at, without}
use Rattle.ttrpc_server.proofs.index.Index.take_away.Goals as goal

pub returns : goal.returns
returns c =
    let were = c.self.inside.streams in
    let k = c.args.stream_id in
    let are : c.remove.new.self ≡ without were k = search rules in
    rw (← c.self.view_is) (record {
      own = ap (λ es. at es k) are ∙ taken_there were k c.remove.ensures.rise;
      others = λ q apart. ap (λ es. at es q) are ∙ taken_elsewhere were k q apart;
      deadlines = c.take_away.ensures;
    })
