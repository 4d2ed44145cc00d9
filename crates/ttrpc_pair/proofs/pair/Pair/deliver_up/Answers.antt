use Rattle.ttrpc_pair.proofs.Words.{rules, ◌≡◌, take, min, length, inl, inr}
use Rattle.ttrpc_pair.proofs.Replies.{breaks_or_failed, by_taking, delivers}
use Rattle.ttrpc_pair.proofs.pair.Pair.deliver_up.Goals as goal

pub returns-in-Ok : goal.returns-in-Ok
returns-in-Ok g c =
    let w = c.self.inside in
    let piece : c.front.result.now ≡ take (min c.args.n (length w.up.bytes)) w.up.bytes = search rules in
    let state : c.end_up.new.self.server.state ≡ c.feed.new.self.state = search rules in
    rw (← c.self.view_is) (elim (by_taking _ _ _ _ _ _ _ _ c.in-Ok.ensures) [
      | inl takes ↦ inl (record { does = rw state (delivers _ _ _ w.up _ c.args.n c.in-Ok.taken _ _ c.feed.new.self.connection _ piece takes.taken takes.ok (search rules)); only = search rules })
      | inr drains ↦ inr (record { alive = search rules; shut = drains.0; none = search rules; hears = search rules; only = search rules })
    ])

pub returns-in-Err : goal.returns-in-Err
returns-in-Err g c =
    let w = c.self.inside in
    let piece : c.front.result.now ≡ take (min c.args.n (length w.up.bytes)) w.up.bytes = search rules in
    rw (← c.self.view_is) (elim (by_taking _ _ _ _ _ _ _ _ c.in-Err.ensures) [
      | inl takes ↦
          elim (breaks_or_failed _ ((c.feed.new.self.state ≡ w.server.state) × (c.feed.new.self.connection ≡ w.server.connection)) w.server.connection.failure c.in-Err.error takes.fails (λ k e. let x = takes.failed k e in (x.0, (x.1, x.2)))) [
            | inl b ↦ inl (rw (← piece) b, search rules)
            | inr f ↦ inr (f.0, search rules)
          ]
      | inr drains ↦ inr (drains.1.failed, search rules)
    ])
