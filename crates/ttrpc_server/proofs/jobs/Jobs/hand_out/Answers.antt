use Rattle.ttrpc_server.proofs.Words.{rules, ◌≡◌, ◌∙◌, ℕ, List, ap, sym, [], ◌∷◌, None, is_some, true, false, subst, is_at, nat_cmp, set_value, NoneWaits, ids_waiting}
use Rattle.std.specs.Map.{keys_of}
use Rattle.ttrpc_server.proofs.Keyed.{found, handed, is_there, list_is, none_waits}
use Rattle.ttrpc_server.proofs.jobs.Jobs.hand_out.Goals as goal

-- the key of the first entry is the first
first_key : (old new : List (ℕ × Unit {0})) (k : ℕ) → old ≡ (k, tt) ∷ new → keys_of old ≡ k ∷ keys_of new
first_key old new k is = ap (λ (es : List (ℕ × Unit {0})). keys_of es) is

pub invariant_of-self-2 : goal.invariant_of-self-2
invariant_of-self-2 c = (handed c.self.invariant c.in-Some.id (keys_of c.pop_first.new.self) (first_key c.self.inside.waiting c.pop_first.new.self c.in-Some.id c.in-Some.ensures.some) c.in-Some-get_mut.job.now c.in-Some-request.request _ c.is_stream-stream.ensures (search rules) (search rules) _ (search rules)).0

pub returns-clause-given : goal.returns-clause-given
returns-clause-given c =
    let job = c.in-Some-get_mut.job.now in
    let new = set_value (is_at (nat_cmp c.in-Some.id)) c.self.inside.jobs (record { id = job.id; header = job.header; request = c.take-request.new.self; body = job.body }) in
    rw (← c.self.view_is) (handed c.self.invariant c.in-Some.id (keys_of c.pop_first.new.self) (first_key c.self.inside.waiting c.pop_first.new.self c.in-Some.id c.in-Some.ensures.some) job c.in-Some-request.request _ c.is_stream-stream.ensures (search rules) (search rules) new (search rules)).1

pub unreachable-requires : goal.unreachable-requires
unreachable-requires c =
    let f = found c.self.invariant c.in-Some.id (keys_of c.pop_first.new.self) (first_key c.self.inside.waiting c.pop_first.new.self c.in-Some.id c.in-Some.ensures.some) in
    let some : is_some c.in-Some-get_mut.job.now.request ≡ true = f.1 c.in-Some-get_mut.job.now (search rules) in
    let none : c.in-Some-get_mut.job.now.request ≡ None = search rules in
    let bad : false ≡ true = rw none at some in cc

pub unreachable-requires-in-None : goal.unreachable-requires-in-None
unreachable-requires-in-None c = is_there c.self.invariant c.in-Some.id (keys_of c.pop_first.new.self) (first_key c.self.inside.waiting c.pop_first.new.self c.in-Some.id c.in-Some.ensures.some) (search rules)

pub returns-in_default-clause-none : goal.returns-in_default-clause-none
returns-in_default-clause-none c =
    let none : [] ≡ ids_waiting c.self.invariant.list = ap (λ (es : List (ℕ × Unit {0})). keys_of es) (sym c.in_default.ensures.none.0) ∙ c.self.invariant.wait in
    (c.self.view_is, rw (← c.self.view_is) (subst NoneWaits (sym (list_is c.self.invariant)) (none_waits c.self.invariant.list none)))
