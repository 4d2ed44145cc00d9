use Rattle.std.proofs.Common.{rules, ◌≡◌, true, inl, inr}
use Rattle.ttrpc_polled_server.proofs.held.PolledServerState.end.Goals as goal
use Rattle.ttrpc_polled_server.proofs.held.PolledServerState.end.Goals.{else-not-passes_on-via-then-not-passes_on+else-not-tell_end, else-not-passes_on-via-else-not-passes_on}

pub returns-clause-ends : goal.returns-clause-ends
returns-clause-ends g c = elim c.else-not-passes_on.branch [
  | else-not-passes_on-via-then-not-passes_on+else-not-tell_end w ↦
      let told : w.tell_end.result ≡ true = search rules in
      rw w.self-is (λ _. inl (w.tell_end.ensures.ends told))
  | else-not-passes_on-via-else-not-passes_on w ↦
      let passes : c.passes_on.result ≡ true = search rules in
      rw w.self-is (λ _. inr (c.passes_on.ensures.yes passes))
]

pub returns-clause-told : goal.returns-clause-told
returns-clause-told g c = elim c.else-not-passes_on.branch [
  | else-not-passes_on-via-then-not-passes_on+else-not-tell_end w ↦
      let told : w.tell_end.result ≡ true = search rules in
      rw w.self-is (λ _ no. w.tell_end.ensures.ends told)
  | else-not-passes_on-via-else-not-passes_on w ↦
      let passes : c.passes_on.result ≡ true = search rules in
      λ _ no. absurd (no (c.passes_on.ensures.yes passes))
]
