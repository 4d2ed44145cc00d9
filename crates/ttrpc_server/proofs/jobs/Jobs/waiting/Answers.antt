use Rattle.ttrpc_server.proofs.Words.{◌≡◌, ◌∙◌, ap, sym, List, ℕ, length, filter, ActiveJob, waits}
use Rattle.ttrpc_server.proofs.Keyed.{counted, jobs_rise, list_is}
use Rattle.std.proofs.lemmas.Map.Entries.{length-keys_of}
use Rattle.std.specs.Map.{keys_of}
use Rattle.ttrpc_server.proofs.jobs.Jobs.waiting.Goals as goal

pub returns-clause-count : goal.returns-clause-count
returns-clause-count c =
    let a = c.self.invariant in
    let n : c.len.result ≡ length (keys_of c.self.inside.waiting) = c.len.ensures.count ∙ sym (length-keys_of c.self.inside.waiting) in
    rw (← c.self.view_is) (n ∙ ap (λ (l : List ℕ). length l) a.wait ∙ counted a.list ∙ ap (λ (l : List ActiveJob). length (filter waits l)) (sym (list_is a)))

pub returns-clause-rise : goal.returns-clause-rise
returns-clause-rise c = rw (← c.self.view_is) (jobs_rise c.self.invariant)
