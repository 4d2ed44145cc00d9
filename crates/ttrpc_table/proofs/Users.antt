-- What a change of a table says of the value under each number, for those who use tables.
pub use Rattle.ttrpc_table.proofs.Parts.{rise_with, rise_without}
use Rattle.ttrpc_table.proofs.Parts.{same_place}
use Rattle.std.proofs.Common.{rules, ◌≡◌, ◌≢◌, ℕ, List, [], ◌∷◌, Some, None, Bool, true, false, refl, sym, ap, ◌∙◌, inl, inr, cond}
use Rattle.std.proofs.lemmas.Bool.{cases_Bool}
use Rattle.std.proofs.lemmas.Option.{same_Some}
use Rattle.std.proofs.lemmas.Map.Lookups.{exact_unsigned}
use Rattle.std.specs.declared.cmp.Ordering.{Ordering}
use Rattle.std.specs.declared.cmp.Ordering.TheVariants.{Less, Equal, Greater}
use Rattle.std.specs.BTreeMap.{is_at}
use Rattle.std.specs.Map.{keys_of}
use Rattle.std.specs.BTreeSet.{insert_key}
use Rattle.std.specs.Set.{remove_key}
use Rattle.std.specs.Cmp.{Equal-is}
use Rattle.std.specs.List.{AllByRecursion}
use Rattle.std.proofs.lemmas.Map.Keys.{sorted_head, sorted_tail}
use Rattle.std.specs.Ordering.{nat_cmp, match_ordering}
use Rattle.ttrpc_table.specs.Table.{Rise, at, first, with_entry, without}

apart_place : (k q : ℕ) → q ≢ k → is_at (nat_cmp k) q ≡ false
apart_place k q apart = elim (cases_Bool (is_at (nat_cmp k) q)) [
  | inl e ↦ absurd (apart (sym (exact_unsigned k q (search (rules, Equal-is)))))
  | inr e ↦ e
]

module _ {V : Type 0} where
  -- what was put under a number is there
  pub put_there : (es : List (ℕ × V)) (k : ℕ) (v : V) → at (with_entry es k v) k ≡ Some v
  put_there [] k v = rw (same_place k) refl
  put_there (e ∷ es) k v = by (nat_cmp k e.0) refl (put_there es k v)
    where
      by : (o : Ordering) → nat_cmp k e.0 ≡ o → at (with_entry es k v) k ≡ Some v → at (match_ordering o ((k, v) ∷ e ∷ es) ((e.0, v) ∷ es) (e ∷ with_entry es k v)) k ≡ Some v
      by Less o more = rw (same_place k) refl
      by Equal o more = rw o refl
      by Greater o more = rw o more

  -- under another number is what was there
  pub put_elsewhere : (es : List (ℕ × V)) (k : ℕ) (v : V) (q : ℕ) → q ≢ k → at (with_entry es k v) q ≡ at es q
  put_elsewhere [] k v q apart = rw (apart_place q k (λ same. apart (sym same))) refl
  put_elsewhere (e ∷ es) k v q apart = by (nat_cmp k e.0) refl (put_elsewhere es k v q apart)
    where
      by : (o : Ordering) → nat_cmp k e.0 ≡ o → at (with_entry es k v) q ≡ at es q → at (match_ordering o ((k, v) ∷ e ∷ es) ((e.0, v) ∷ es) (e ∷ with_entry es k v)) q ≡ at (e ∷ es) q
      by Less o more = rw (apart_place q k (λ same. apart (sym same))) refl
      by Equal o more =
          let here : k ≡ e.0 = exact_unsigned k e.0 o in
          rw (apart_place q e.0 (λ same. apart (sym (here ∙ same)))) refl
      by Greater o more = ap (λ found. cond (is_at (nat_cmp q) e.0) (Some e.1) found) more

  -- nothing is behind a number that is below all
  none_past : (k first : ℕ) (es : List (ℕ × V)) → k ≡ first → AllByRecursion (λ y. nat_cmp first y ≡ Less) (keys_of es) → at es k ≡ None
  none_past k first [] same all = refl
  none_past k first (e ∷ es) same all =
      let less : nat_cmp k e.0 ≡ Less = rw same all.0 in
      rw less (none_past k first es same all.1)

  -- nothing is under a number from which all was taken
  pub taken_there : (es : List (ℕ × V)) (k : ℕ) → Rise es → at (without es k) k ≡ None
  taken_there [] k rise = refl
  taken_there (e ∷ es) k rise = by (is_at (nat_cmp k) e.0) refl (taken_there es k (sorted_tail nat_cmp e.0 (keys_of es) rise))
    where
      by : (b : Bool) → is_at (nat_cmp k) e.0 ≡ b → at (without es k) k ≡ None → at (cond b es (e ∷ without es k)) k ≡ None
      by true there more = none_past k e.0 es (exact_unsigned k e.0 (search (rules, Equal-is))) (sorted_head nat_cmp e.0 (keys_of es) rise)
      by false there more = rw there more

  -- and under another is what was there
  pub taken_elsewhere : (es : List (ℕ × V)) (k q : ℕ) → q ≢ k → at (without es k) q ≡ at es q
  taken_elsewhere [] k q apart = refl
  taken_elsewhere (e ∷ es) k q apart = by (is_at (nat_cmp k) e.0) refl (taken_elsewhere es k q apart)
    where
      by : (b : Bool) → is_at (nat_cmp k) e.0 ≡ b → at (without es k) q ≡ at es q → at (cond b es (e ∷ without es k)) q ≡ at (e ∷ es) q
      by true there more =
          let here : k ≡ e.0 = exact_unsigned k e.0 (search (rules, Equal-is)) in
          rw (apart_place q e.0 (λ same. apart (sym (here ∙ same)))) refl
      by false there more = ap (λ found. cond (is_at (nat_cmp q) e.0) (Some e.1) found) more

  -- the numbers are those that were there, and this one
  pub keys_put : (es : List (ℕ × V)) (k : ℕ) (v : V) → keys_of (with_entry es k v) ≡ insert_key nat_cmp (keys_of es) k
  keys_put [] k v = refl
  keys_put (e ∷ es) k v = by (nat_cmp k e.0) (keys_put es k v)
    where
      by : (o : Ordering) → keys_of (with_entry es k v) ≡ insert_key nat_cmp (keys_of es) k
          → keys_of (match_ordering o ((k, v) ∷ e ∷ es) ((e.0, v) ∷ es) (e ∷ with_entry es k v)) ≡ match_ordering o (k ∷ e.0 ∷ keys_of es) (e.0 ∷ keys_of es) (e.0 ∷ insert_key nat_cmp (keys_of es) k)
      by Less more = refl
      by Equal more = refl
      by Greater more = ap (λ ks. e.0 ∷ ks) more

  -- or those without it
  pub keys_taken : (es : List (ℕ × V)) (k : ℕ) → keys_of (without es k) ≡ remove_key (is_at (nat_cmp k)) (keys_of es)
  keys_taken [] k = refl
  keys_taken (e ∷ es) k = by (is_at (nat_cmp k) e.0) (keys_taken es k)
    where
      by : (b : Bool) → keys_of (without es k) ≡ remove_key (is_at (nat_cmp k)) (keys_of es) → keys_of (cond b es (e ∷ without es k)) ≡ cond b (keys_of es) (e.0 ∷ remove_key (is_at (nat_cmp k)) (keys_of es))
      by true more = refl
      by false more = ap (λ ks. e.0 ∷ ks) more

  -- the entry of the least number stands first
  pub first_leaves : (es : List (ℕ × V)) (k : ℕ) (v : V) → first es ≡ Some k → at es k ≡ Some v → es ≡ (k, v) ∷ without es k
  first_leaves [] k v is there = absurd (cc)
  first_leaves (e ∷ es) k v is there =
      let key : e.0 ≡ k = same_Some e.0 k is in
      let value : e.1 ≡ v = same_Some e.1 v (rw (key, same_place k) at there) in
      rw (key, same_place k) (ap (λ (w : V). (k, w) ∷ es) value)

  pub first_is_there : (es : List (ℕ × V)) (k : ℕ) → first es ≡ Some k → at es k ≡ None → ⊥
  first_is_there [] k is none = cc
  first_is_there (e ∷ es) k is none =
      let key : e.0 ≡ k = same_Some e.0 k is in
      let bad : Some e.1 ≡ None = rw (key, same_place k) at none in cc
