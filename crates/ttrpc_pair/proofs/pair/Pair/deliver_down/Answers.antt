use Rattle.ttrpc_pair.proofs.Words.{rules, ◌≡◌, take, min, length, inl, inr}
use Rattle.ttrpc_pair.proofs.Replies.{breaks_or_failed, delivers}
use Rattle.ttrpc_pair.proofs.pair.Pair.deliver_down.Goals as goal

pub returns-in-Ok : goal.returns-in-Ok
returns-in-Ok g c =
    let w = c.self.inside in
    let piece : c.front.result.now ≡ take (min c.args.n (length w.down.bytes)) w.down.bytes = search rules in
    let state : c.end_down.new.self.client.state ≡ c.feed.new.self.state = search rules in
    rw (← c.self.view_is) (record {
      does = rw state (delivers _ _ _ w.down _ c.args.n c.in-Ok.taken _ _ c.feed.new.self.connection _ piece c.in-Ok.ensures.takes.taken c.in-Ok.ensures.takes.ok (search rules));
      only = search rules;
    })

pub returns-in-Err : goal.returns-in-Err
returns-in-Err g c =
    let w = c.self.inside in
    let piece : c.front.result.now ≡ take (min c.args.n (length w.down.bytes)) w.down.bytes = search rules in
    rw (← c.self.view_is) (elim (breaks_or_failed _ ((c.feed.new.self.state ≡ w.client.state) × (c.feed.new.self.connection ≡ w.client.connection)) w.client.connection.failure c.in-Err.error c.in-Err.ensures.takes.fails (λ k e. let x = c.in-Err.ensures.takes.failed k e in (x.0, (x.1, x.2)))) [
      | inl b ↦ inl (rw (← piece) b, search rules)
      | inr f ↦ inr (f.0, search rules)
    ])
