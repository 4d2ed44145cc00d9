-- What is kept of calls, as a list by rising id.
use Rattle.ttrpc_client.proofs.Words.{by_ranked, ◌≡◌, ◌≢◌, ◌∙◌, inl, inr, ℕ, List, [], ◌∷◌, refl, sym, ap, subst, Some, None, false, cases_eq, eq_by_cmp_equiv, lookup, remove_entry, is_at, insert_entry, keys_of, nat_cmp, nat_cmp_is, nat_cmp_total, ranked, Equal, IsStrictlySortedBy}
use Rattle.std.proofs.Common.{cond}
use Rattle.std.proofs.lemmas.Map.{lookup-remove_entry}
use Rattle.std.proofs.lemmas.Map.Keys.{IsDistinct-from_sorted}
use Rattle.std.specs.declared.cmp.Ordering.{Ordering}
use Rattle.std.specs.declared.cmp.Ordering.TheVariants.{Greater, Less}
use Rattle.std.specs.Ordering.{match_ordering}

pub same_place : (k : ℕ) → nat_cmp k k ≡ Equal
same_place k = sym (nat_cmp_is k k Equal refl)

-- an entry that was put in under a new key and taken out again leaves the entries as they were
pub undone : {X : Type 0} (k : ℕ) (v : X) (es : List (ℕ × X)) → lookup (is_at (nat_cmp k)) es ≡ None → remove_entry (is_at (nat_cmp k)) (insert_entry nat_cmp es k v) ≡ es
undone k v [] h = rw (same_place k) refl
undone k v (e ∷ es) h = by_ranked _ _ _ (nat_cmp k e.0) (ranked k e.0 _ refl) (λ q _. rw (q, same_place k) refl)
    (λ q _. let bad : Some e.1 ≡ None = rw q at h in cc) (λ q _. rw (q, q, undone k v es (rw q at h)) refl)

-- ---- keys

pub apart_place : (id k : ℕ) → k ≢ id → is_at (nat_cmp id) k ≡ false
apart_place id k apart = by_ranked _ _ _ (nat_cmp id k) (ranked id k _ refl) (λ q _. rw q refl) (λ _ same. absurd (apart (sym same))) (λ q _. rw q refl)

-- what holds of one, and of each other, holds of all
pub at_or_apart : (P : ℕ → Type 0) (id : ℕ) → P id → ((k : ℕ) → k ≢ id → P k) → (k : ℕ) → P k
at_or_apart P id here apart k = elim (cases_eq k id) [
  | inl e ↦ subst P (sym e) here
  | inr e ↦ apart k e
]

-- ---- what a change says of each key

module _ {X : Type 0} where
  -- what was put under a key is there, and under another is what was there
  pub put_there : (k : ℕ) (v : X) (es : List (ℕ × X)) → lookup (is_at (nat_cmp k)) (insert_entry nat_cmp es k v) ≡ Some v
  put_there k v [] = rw (same_place k) refl
  put_there k v (e ∷ es) = by (nat_cmp k e.0) refl (put_there k v es)
    where
      by : (o : Ordering) → nat_cmp k e.0 ≡ o → lookup (is_at (nat_cmp k)) (insert_entry nat_cmp es k v) ≡ Some v
          → lookup (is_at (nat_cmp k)) (match_ordering o ((k, v) ∷ e ∷ es) ((e.0, v) ∷ es) (e ∷ insert_entry nat_cmp es k v)) ≡ Some v
      by Less is more = rw (same_place k) refl
      by Equal is more = rw is refl
      by Greater is more = rw is more

  pub put_elsewhere : (k : ℕ) (v : X) (es : List (ℕ × X)) (q : ℕ) → q ≢ k → lookup (is_at (nat_cmp q)) (insert_entry nat_cmp es k v) ≡ lookup (is_at (nat_cmp q)) es
  put_elsewhere k v [] q apart = rw (apart_place q k (λ same. apart (sym same))) refl
  put_elsewhere k v (e ∷ es) q apart = by (nat_cmp k e.0) refl (put_elsewhere k v es q apart)
    where
      by : (o : Ordering) → nat_cmp k e.0 ≡ o → lookup (is_at (nat_cmp q)) (insert_entry nat_cmp es k v) ≡ lookup (is_at (nat_cmp q)) es
          → lookup (is_at (nat_cmp q)) (match_ordering o ((k, v) ∷ e ∷ es) ((e.0, v) ∷ es) (e ∷ insert_entry nat_cmp es k v)) ≡ lookup (is_at (nat_cmp q)) (e ∷ es)
      by Less is more = rw (apart_place q k (λ same. apart (sym same))) refl
      by Equal is more = let here : k ≡ e.0 = ranked k e.0 Equal (sym is) in rw (apart_place q e.0 (λ same. apart (sym (here ∙ same)))) refl
      by Greater is more = ap (λ found. cond (is_at (nat_cmp q) e.0) (Some e.1) found) more

  -- what was taken out isn't there, and under another key is what was there
  taken : (k q : ℕ) (es : List (ℕ × X)) → IsStrictlySortedBy nat_cmp (keys_of es) → lookup (is_at (nat_cmp q)) (remove_entry (is_at (nat_cmp k)) es) ≡ cond (is_at (nat_cmp k) q) None (lookup (is_at (nat_cmp q)) es)
  taken k q es rise = let laws = eq_by_cmp_equiv nat_cmp_total in lookup-remove_entry laws (is_at (nat_cmp k)) (laws.congr k) q es (IsDistinct-from_sorted nat_cmp (keys_of es) rise)

  pub taken_there : (k : ℕ) (es : List (ℕ × X)) → IsStrictlySortedBy nat_cmp (keys_of es) → lookup (is_at (nat_cmp k)) (remove_entry (is_at (nat_cmp k)) es) ≡ None
  taken_there k es rise = taken k k es rise ∙ rw (same_place k) refl

  pub taken_elsewhere : (k : ℕ) (es : List (ℕ × X)) (q : ℕ) → IsStrictlySortedBy nat_cmp (keys_of es) → q ≢ k → lookup (is_at (nat_cmp q)) (remove_entry (is_at (nat_cmp k)) es) ≡ lookup (is_at (nat_cmp q)) es
  taken_elsewhere k es q rise apart = taken k q es rise ∙ rw (apart_place k q apart) refl
