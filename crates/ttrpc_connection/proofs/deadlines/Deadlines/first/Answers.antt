use Rattle.ttrpc_connection.proofs.Words.{◌≡◌, ◌≤◌, ℕ, List, true, false, Option, Some, None}
use Rattle.std.proofs.Common.{Bor, IfSome, IsTrue}
use Rattle.std.specs.Option.{option_copied}
use Rattle.std.specs.Ordering.{is_gt}
use Rattle.ttrpc_connection.specs.Deadlines.{has_deadline, sooner}
use Rattle.ttrpc_connection.proofs.Soonest.{least, least_id}
use Rattle.ttrpc_connection.proofs.deadlines.Deadlines.first.Goals as goal

of_copy : (P : ℕ × ℕ → Type 0) (r : Option (Bor (ℕ × ℕ))) → IfSome r (λ k. P k.now) → IfSome (option_copied r) P
of_copy P None h = h
of_copy P (Some k) h = h

least_copy : (keys : List (ℕ × ℕ)) (r : Option (Bor (ℕ × ℕ))) → IfSome r (λ k. (q : ℕ × ℕ) → IsTrue (has_deadline keys q.0 q.1) → is_gt (sooner k.now q) ≡ false)
    → IfSome (option_copied r) (λ p. (at id : ℕ) → has_deadline keys at id ≡ true → p.0 ≤ at)
least_copy keys None h = h
least_copy keys (Some k) h = λ at id there. least k.now (at, id) (h (at, id) there)

least_id_copy : (keys : List (ℕ × ℕ)) (r : Option (Bor (ℕ × ℕ))) → IfSome r (λ k. (q : ℕ × ℕ) → IsTrue (has_deadline keys q.0 q.1) → is_gt (sooner k.now q) ≡ false)
    → IfSome (option_copied r) (λ p. (id : ℕ) → has_deadline keys p.0 id ≡ true → p.1 ≤ id)
least_id_copy keys None h = h
least_id_copy keys (Some k) h = λ id there. least_id k.now id (h (k.now.0, id) there)

pub returns-clause-some : goal.returns-clause-some
returns-clause-some c =
    rw (c.copied.ensures, ← c.self.view_is)
    (of_copy (λ p. has_deadline c.self.inside.pairs.keys p.0 p.1 ≡ true) c.first.result c.first.ensures.member)

pub returns-clause-least : goal.returns-clause-least
returns-clause-least c = rw (c.copied.ensures, ← c.self.view_is) (least_copy c.self.inside.pairs.keys c.first.result c.first.ensures.least)

pub returns-clause-least_id : goal.returns-clause-least_id
returns-clause-least_id c = rw (c.copied.ensures, ← c.self.view_is) (least_id_copy c.self.inside.pairs.keys c.first.result c.first.ensures.least)
