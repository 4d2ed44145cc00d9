-- What one receiver is given doesn't depend on whether another was asked before.
use Rattle.ttrpc_server.proofs.Words.{◌≡◌, ◌≢◌, ◌∙◌, ℕ, List, [], ◌∷◌, Bool, true, false, cond, nat_eq, Option, Some, refl, sym, ap, subst, inl, inr, ActiveJob, Async, Failure, Rules, Server, Sync, with_list, Error}
use Rattle.std.specs.Prelude.{Result}
use Rattle.std.specs.Option.{option_map}
use Rattle.std.proofs.lemmas.Bool.{ne_eqb}
use Rattle.ttrpc_connection.proofs.Words.{cases_eq}
use Rattle.ttrpc_connection.specs.Mail.{past_error}
use Rattle.ttrpc_server.proofs.Boxes.{eq_test}
use Rattle.ttrpc_server.specs.declared.server.ServerCore.{ServerCore}
use Rattle.ttrpc_server.specs.Mailboxes.{mail_at, mail_in}
use Rattle.ttrpc_server.specs.State.{job_at, on_mail, with_mail}
use Rattle.ttrpc_server.specs.Streaming.{ReceivesBy, ReceivesOne, astray, was_made}
use Rattle.ttrpc_server.specs.Types.{Mail}

-- where the mailbox of one job changed, another job is as it was
other_at : (i j : ℕ) (change : Mail → Mail) (js : List ActiveJob) → j ≢ i → job_at (on_mail i change js) j ≡ job_at js j
other_at i j change [] apart = refl
other_at i j change (x ∷ js) apart = elim (cases_eq x.id i) [
  | inl same ↦ rw (same, eq_test i, ne_eqb i j (λ e. apart (sym e))) (other_at i j change js apart)
  | inr other ↦ rw (ne_eqb x.id i other) (by (nat_eq x.id j) (other_at i j change js apart))
]
  where
    by : (t : Bool) {a b : Option ActiveJob} → a ≡ b → cond t (Some x) a ≡ cond t (Some x) b
    by true same = refl
    by false same = same

abbrev rebodied : (Mail → Mail) → ActiveJob → ActiveJob
rebodied change x = record x { body = with_mail change x.body }

own_at : (j : ℕ) (change : Mail → Mail) (js : List ActiveJob) → job_at (on_mail j change js) j ≡ option_map (rebodied change) (job_at js j)
own_at j change [] = refl
own_at j change (x ∷ js) = by (nat_eq x.id j) refl (own_at j change js)
  where
    by : (t : Bool) → nat_eq x.id j ≡ t → job_at (on_mail j change js) j ≡ option_map (rebodied change) (job_at js j) → job_at (on_mail j change (x ∷ js)) j ≡ option_map (rebodied change) (job_at (x ∷ js) j)
    by true is more = rw (is, is) refl
    by false is more = rw (is, is) more

module _ (failure : Option Failure) (s : Server) where
  stays : (i j : ℕ) (other : Option (Result (List ℕ) Error)) (ms : List ActiveJob) → j ≢ i → ReceivesBy Async failure s i other ms → job_at ms j ≡ job_at s.jobs.list j
  stays i j other ms apart (inl r) = rw r.4 (other_at i j (λ _. r.1) s.jobs.list apart)
  stays i j other ms apart (inr x) = ap (λ l. job_at l j) x.1

  again : (j : ℕ) (given : Option (Result (List ℕ) Error)) (ms ns : List ActiveJob) → job_at ms j ≡ job_at s.jobs.list j → ReceivesBy Async failure (with_list s ms) j given ns
      → (left : List ActiveJob) × ReceivesBy Async failure s j given left × (mail_at left j ≡ mail_at ns j)
  again j given ms ns same (inl r) = (
    on_mail j (λ _. r.1) s.jobs.list,
    inl (r.0, r.1, ap mail_in (sym same) ∙ r.2, r.3, refl),
    ap mail_in (own_at j (λ _. r.1) s.jobs.list ∙ ap (option_map (rebodied (λ _. r.1))) (sym same) ∙ sym (own_at j (λ _. r.1) ms)) ∙ ap (λ l. mail_at l j) (sym r.4),
  )
  again j given ms ns same (inr x) = (
    s.jobs.list,
    inr ((x.0.0, x.0.1, ap (λ o. astray past_error o (was_made s.jobs j)) (sym same) ∙ x.0.2, x.0.3, x.0.4), refl),
    ap mail_in (sym same) ∙ ap (λ l. mail_at l j) (sym x.1),
  )

  by_rules : (rules : Rules) (i j : ℕ) (other given : Option (Result (List ℕ) Error)) (ms ns : List ActiveJob) → j ≢ i → ReceivesBy rules failure s i other ms → ReceivesBy rules failure (with_list s ms) j given ns
      → (left : List ActiveJob) × ReceivesBy rules failure s j given left × (mail_at left j ≡ mail_at ns j)
  by_rules Sync i j other given ms ns apart one two = (
    s.jobs.list,
    ((two.0.0, record { rules = two.0.1.rules; is_told = two.0.1.is_told }, two.0.2), refl),
    ap (λ l. mail_at l j) (sym one.1 ∙ sym two.1),
  )
  by_rules Async i j other given ms ns apart one two = again j given ms ns (stays i j other ms apart one) two

pub received_apart : {O I : Type 0} (old mid new : ServerCore O I) (i j : ℕ) (other given : Option (Result (List ℕ) Error)) → j ≢ i → ReceivesOne old i other mid → ReceivesOne mid j given new
    → (left : List ActiveJob) × ReceivesBy old.state.rules old.connection.failure old.state j given left × (mail_at left j ≡ mail_at new.state.jobs.list j)
received_apart {O} {I} old mid new i j other given apart one two =
    let by = subst (λ (c : ServerCore O I). ReceivesBy c.state.rules c.connection.failure c.state j given new.state.jobs.list) one.same two.own in
    by_rules old.connection.failure old.state old.state.rules i j other given mid.state.jobs.list new.state.jobs.list apart one.own by
