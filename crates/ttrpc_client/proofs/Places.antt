-- What a change of the places of pending calls makes of their entries.
use Rattle.std.proofs.Common.{arith, ◌≡◌, ◌∙◌, ◌<◌, ◌≤◌, ◌+◌, ◌-◌, ◌*◌, ◌++◌, inl, inr, length-set, ℕ, zero, suc, List, [], ◌∷◌, append-nil, length, length-append, get_or, option_to_list, Option, Some, None, Bool, true, false, is_some, cond, refl, sym, ap, subst, slice_set}
use Rattle.std.proofs.lemmas.Map.{lookup-none}
use Rattle.std.proofs.lemmas.Bool.{cases_Bool, cases_lt}
use Rattle.std.proofs.lemmas.Map.Entries.{length-keys_of, lookup_from_place, lookup_head, lookup_tail, none_past_head}
use Rattle.std.proofs.lemmas.Map.Keys.{IsDistinct-from_sorted}
use Rattle.std.proofs.lemmas.Option.{get_or_from_slice_get}
use Rattle.std.specs.BTreeMap.{insert_entry, is_at}
use Rattle.std.specs.Cmp.{eq_by_cmp_equiv, nat_cmp_is, nat_cmp_total, ranked}
use Rattle.std.specs.declared.cmp.Ordering.{Ordering}
use Rattle.std.specs.declared.cmp.Ordering.TheVariants.{Equal, Greater, Less}
use Rattle.std.specs.List.{AllByRecursion, filter, slice_get}
unfoldable use Rattle.std.specs.List.Sorted.{IsStrictlySortedBy}
use Rattle.std.specs.Map.{keys_of, lookup, remove_entry}
use Rattle.std.specs.Option.{is_none}
use Rattle.std.specs.Ordering.{is_eq, nat_cmp}
use Rattle.ttrpc_client.specs.pending.Places.{ArePlaces, IsPlaceOf, IsTrimmed, Rise, call_of, ends_empty, entries_in, entry_before, is_taken}

-- ---- comparisons of ids

pub less : (x y : ℕ) → x < y → nat_cmp x y ≡ Less
less x y lt = sym (nat_cmp_is x y Less lt)

pub greater : (x y : ℕ) → y < x → nat_cmp x y ≡ Greater
greater x y lt = sym (nat_cmp_is x y Greater lt)

same : (x : ℕ) → nat_cmp x x ≡ Equal
same x = sym (nat_cmp_is x x Equal refl)

-- ---- pairs whose ids rise

-- all ids are below this one
abbrev AreUnder : ℕ → List ℕ → Type 0
AreUnder id ids = AllByRecursion (λ k. nat_cmp k id ≡ Less) ids

module _ {Y : Type 0} where
  pub under_at : (k id : ℕ) (y : Y) (ps : List (ℕ × Y)) (i : ℕ) → AllByRecursion (λ q. nat_cmp k q ≡ Less) (keys_of ps) → slice_get ps i ≡ Some (id, y) → k < id
  under_at k id y [] i all here = absurd (cc)
  under_at k id y (p ∷ ps) zero all here = let is : p ≡ (id, y) = cc in ranked k id Less (sym (subst (λ (q : ℕ × Y). nat_cmp k q.0 ≡ Less) is all.0))
  under_at k id y (p ∷ ps) (suc i) all here = under_at k id y ps i all.1 here

  pub standing_at : (ps : List (ℕ × Y)) (i id : ℕ) (y : Y) → Rise ps → slice_get ps i ≡ Some (id, y) → lookup (is_at (nat_cmp id)) ps ≡ Some y
  standing_at ps i id y rise here = lookup_from_place (eq_by_cmp_equiv nat_cmp_total) ps i id y (IsDistinct-from_sorted nat_cmp (keys_of ps) rise) here

  all_front : (P : ℕ → Type 0) (ps qs : List (ℕ × Y)) → AllByRecursion P (keys_of (ps ++ qs)) → AllByRecursion P (keys_of ps)
  all_front P [] qs all = tt
  all_front P (p ∷ ps) qs all = (all.0, all_front P ps qs all.1)

  rise_front : (ps qs : List (ℕ × Y)) → Rise (ps ++ qs) → Rise ps
  unfolding IsStrictlySortedBy
  rise_front [] qs rise = tt
  rise_front (p ∷ ps) qs rise = (all_front (λ q. nat_cmp p.0 q ≡ Less) ps qs rise.0, rise_front ps qs rise.1)

  all_last : (k id : ℕ) (y : Y) (ps : List (ℕ × Y)) → nat_cmp k id ≡ Less → AllByRecursion (λ q. nat_cmp k q ≡ Less) (keys_of ps) → AllByRecursion (λ q. nat_cmp k q ≡ Less) (keys_of (ps ++ (id, y) ∷ []))
  all_last k id y [] here all = (here, tt)
  all_last k id y (p ∷ ps) here all = (all.0, all_last k id y ps here all.1)

  rise_last : (id : ℕ) (y : Y) (ps : List (ℕ × Y)) → Rise ps → AreUnder id (keys_of ps) → Rise (ps ++ (id, y) ∷ [])
  unfolding IsStrictlySortedBy
  rise_last id y [] rise under = (tt, tt)
  rise_last id y (p ∷ ps) rise under = (all_last p.0 id y ps under.0 rise.0, rise_last id y ps rise.1 under.1)

  inserted_last : (id : ℕ) (y : Y) (ps : List (ℕ × Y)) → AreUnder id (keys_of ps) → ps ++ (id, y) ∷ [] ≡ insert_entry nat_cmp ps id y
  inserted_last id y [] under = refl
  inserted_last id y (p ∷ ps) under = let above = greater id p.0 (ranked p.0 id Less (sym under.0)) in rw (above, inserted_last id y ps under.1) refl

  -- nothing is kept from an id on, so all ids are below it
  behind : (k : ℕ) (p : ℕ × Y) (ps : List (ℕ × Y)) → lookup (is_at (nat_cmp k)) (p ∷ ps) ≡ None → lookup (is_at (nat_cmp k)) ps ≡ None
  behind k p ps none = elim (cases_Bool (is_at (nat_cmp k) p.0)) [
    | inl here ↦ absurd (let bad : Some p.1 ≡ None = sym (lookup_head (is_at (nat_cmp k)) p ps here) ∙ none in cc)
    | inr apart ↦ sym (lookup_tail (is_at (nat_cmp k)) p ps apart) ∙ none
  ]

  under_by : (id : ℕ) (ps : List (ℕ × Y)) → ((k : ℕ) → id ≤ k → lookup (is_at (nat_cmp k)) ps ≡ None) → AreUnder id (keys_of ps)
  under_by id [] none = tt
  under_by id (p ∷ ps) none = (
    elim (cases_lt p.0 id) [
      | inl lt ↦ less p.0 id lt
      | inr ge ↦ absurd (let bad : Some p.1 ≡ None = sym (lookup_head (is_at (nat_cmp p.0)) p ps (ap is_eq (same p.0))) ∙ none p.0 ge in cc)
    ],
    under_by id ps (λ k le. behind k p ps (none k le)),
  )

  -- nothing is taken out under an id that no pair has
  pub absent : (test : ℕ → Bool) (ps : List (ℕ × Y)) → lookup test ps ≡ None → ps ≡ remove_entry test ps
  absent test [] none = refl
  absent test (p ∷ ps) none = elim (test p.0) as (λ b. cond b (Some p.1) (lookup test ps) ≡ None → p ∷ ps ≡ cond b ps (p ∷ remove_entry test ps)) [
    | true ↦ λ bad. cc
    | false ↦ λ more. ap (λ l. p ∷ l) (absent test ps more)
  ] none

-- ---- the entries of places

module _ {X : Type 0} where
  entries_joined : (ps qs : List (ℕ × Option X)) → entries_in (ps ++ qs) ≡ entries_in ps ++ entries_in qs
  entries_joined [] qs = refl
  entries_joined (p ∷ ps) qs = elim p.1 as (λ o. entry_before p.0 o (entries_in (ps ++ qs)) ≡ entry_before p.0 o (entries_in ps) ++ entries_in qs) [
    | None ↦ entries_joined ps qs
    | Some x ↦ ap (λ es. (p.0, x) ∷ es) (entries_joined ps qs)
  ]

  all_entries : (P : ℕ → Type 0) (ps : List (ℕ × Option X)) → AllByRecursion P (keys_of ps) → AllByRecursion P (keys_of (entries_in ps))
  all_entries P [] all = tt
  all_entries P (p ∷ ps) all = elim p.1 as (λ o. AllByRecursion P (keys_of (entry_before p.0 o (entries_in ps)))) [
    | None ↦ all_entries P ps all.1
    | Some x ↦ (all.0, all_entries P ps all.1)
  ]

  pub rise_entries : (ps : List (ℕ × Option X)) → Rise ps → Rise (entries_in ps)
  unfolding IsStrictlySortedBy
  rise_entries [] rise = tt
  rise_entries (p ∷ ps) rise = elim p.1 as (λ o. Rise (entry_before p.0 o (entries_in ps))) [
    | None ↦ rise_entries ps rise.1
    | Some x ↦ (all_entries (λ q. nat_cmp p.0 q ≡ Less) ps rise.0, rise_entries ps rise.1)
  ]

  pub few_entries : (ps : List (ℕ × Option X)) → length (entries_in ps) ≤ length ps
  few_entries [] = omega arith
  few_entries (p ∷ ps) = elim p.1 as (λ o. length (entry_before p.0 o (entries_in ps)) ≤ length (p ∷ ps)) [
    | None ↦ omega (arith, few_entries ps)
    | Some x ↦ omega (arith, few_entries ps)
  ]

  -- what a place has, of which there may be none
  abbrev pub flat : Option (Option X) → Option X
  flat None = None
  flat (Some o) = o

  entry_found : (id : ℕ) (p : ℕ × Option X) (ps : List (ℕ × Option X)) → (nat_cmp id p.0 ≡ Equal → call_of ps id ≡ None) → call_of ps id ≡ flat (lookup (is_at (nat_cmp id)) ps)
      → call_of (p ∷ ps) id ≡ flat (lookup (is_at (nat_cmp id)) (p ∷ ps))
  entry_found id p ps past more = by p.1 (nat_cmp id p.0) refl
    where
      by : (o : Option X) (r : Ordering) → nat_cmp id p.0 ≡ r → lookup (is_at (nat_cmp id)) (entry_before p.0 o (entries_in ps)) ≡ flat (cond (is_eq r) (Some o) (lookup (is_at (nat_cmp id)) ps))
      by None Less is = more
      by None Equal is = past is
      by None Greater is = more
      by (Some x) Less is = rw is more
      by (Some x) Equal is = rw is refl
      by (Some x) Greater is = rw is more

  -- what is kept of an id is what stands at its place
  pub found : (ps : List (ℕ × Option X)) (id : ℕ) → Rise ps → call_of ps id ≡ flat (lookup (is_at (nat_cmp id)) ps)
  unfolding IsStrictlySortedBy
  found [] id rise = refl
  found (p ∷ ps) id rise =
      let more = found ps id rise.1 in
      let past = λ (is : nat_cmp id p.0 ≡ Equal). more ∙ ap flat (lookup-none (is_at (nat_cmp id)) ps
      (none_past_head (eq_by_cmp_equiv nat_cmp_total) id p ps (IsDistinct-from_sorted nat_cmp (keys_of (p ∷ ps)) rise) (ap is_eq is))) in
      entry_found id p ps past more

  -- a place of the id that isn't empty, or is
  pub taken_at : (id place : ℕ) (ps : List (ℕ × Option X)) (p : ℕ × Option X) → Rise ps → slice_get ps place ≡ Some p → nat_cmp id p.0 ≡ Equal → is_some p.1 ≡ true → IsPlaceOf ps id place
  taken_at id place ps p rise here same taken = by p.1 (here ∙ ap (λ k. Some (k, p.1)) (sym (ranked id p.0 Equal (sym same)))) taken
    where
      by : (o : Option X) → slice_get ps place ≡ Some (id, o) → is_some o ≡ true → IsPlaceOf ps id place
      by None at taken = cc
      by (Some x) at taken = (x, at, found ps id rise ∙ ap flat (standing_at ps place id (Some x) rise at))

  pub empty_at : (id place : ℕ) (ps : List (ℕ × Option X)) (p : ℕ × Option X) → Rise ps → slice_get ps place ≡ Some p → nat_cmp id p.0 ≡ Equal → is_some p.1 ≡ false → call_of ps id ≡ None
  empty_at id place ps p rise here same empty = by p.1 (here ∙ ap (λ k. Some (k, p.1)) (sym (ranked id p.0 Equal (sym same)))) empty
    where
      by : (o : Option X) → slice_get ps place ≡ Some (id, o) → is_some o ≡ false → call_of ps id ≡ None
      by None at empty = found ps id rise ∙ ap flat (standing_at ps place id None rise at)
      by (Some x) at empty = cc

  pub was_there : (id place : ℕ) (x : X) (ps : List (ℕ × Option X)) (p : ℕ × Option X) → slice_get ps place ≡ Some (id, Some x) → p ≡ get_or ps place p → p.1 ≡ Some x
  was_there id place x ps p here read = ap (λ (q : ℕ × Option X). q.1) (read ∙ get_or_from_slice_get ps place (id, Some x) p here)

  -- ---- a place is emptied, or gets something else

  -- what changes where the entry of an id is taken out of a place, or another is put there
  record IsSet (id : ℕ) (ps : List (ℕ × Option X)) (i : ℕ) : Type 0 where
    emptied : entries_in (slice_set ps i (id, None)) ≡ remove_entry (is_at (nat_cmp id)) (entries_in ps)
    refilled : (y : X) → entries_in (slice_set ps i (id, Some y)) ≡ insert_entry nat_cmp (entries_in ps) id y
    ids : (o : Option X) → keys_of (slice_set ps i (id, o)) ≡ keys_of ps
    fewer : length (entries_in (slice_set ps i (id, None))) + 1 ≡ length (entries_in ps)
    as_many : (y : X) → length (entries_in (slice_set ps i (id, Some y))) ≡ length (entries_in ps)

  is_set : (id : ℕ) (x : X) (ps : List (ℕ × Option X)) (i : ℕ) → Rise ps → slice_get ps i ≡ Some (id, Some x) → IsSet id ps i
  unfolding IsStrictlySortedBy
  is_set id x [] i rise here = absurd (cc)
  is_set id x (p ∷ ps) zero rise here =
      let is : p ≡ (id, Some x) = cc in
      rw is (record { emptied = rw (same id) refl; refilled = λ y. rw (same id) refl; ids = λ o. refl; fewer = omega arith; as_many = λ y. refl })
  is_set id x (p ∷ ps) (suc i) rise here =
      let above = greater id p.0 (under_at p.0 id (Some x) ps i rise.0 here) in
      let more = is_set id x ps i rise.1 here in
      let fewer = more.fewer in
      let ids = λ (o : Option X). ap (λ ks. p.0 ∷ ks) (more.ids o) in
      elim p.1 as (λ o. IsSet id ((p.0, o) ∷ ps) (suc i)) [
        | None ↦ record { emptied = more.emptied; refilled = more.refilled; ids = ids; fewer = fewer; as_many = more.as_many }
        | Some z ↦ record {
          emptied = rw above (ap (λ es. (p.0, z) ∷ es) more.emptied);
          refilled = λ y. rw above (ap (λ es. (p.0, z) ∷ es) (more.refilled y));
          ids = ids;
          fewer = omega (arith, fewer);
          as_many = λ y. let as_many = more.as_many y in omega (arith, as_many);
        }
      ]

  set_rises : (id : ℕ) (o : Option X) (ps : List (ℕ × Option X)) (i : ℕ) → Rise ps → IsSet id ps i → Rise (slice_set ps i (id, o))
  set_rises id o ps i rise set = subst (IsStrictlySortedBy nat_cmp) (sym (set.ids o)) rise

  -- ---- the last place

  pub last_is : (p : ℕ × Option X) (ps : List (ℕ × Option X)) (i : ℕ) → i + 1 ≡ length ps → slice_get ps i ≡ Some p → is_none p.1 ≡ ends_empty ps
  last_is p [] i long here = absurd (omega (arith, long))
  last_is p (q ∷ []) zero long here = let is : p ≡ q = cc in rw is refl
  last_is p (q ∷ []) (suc i) long here = absurd (omega (arith, long))
  last_is p (q ∷ r ∷ ps) zero long here = absurd (omega (arith, long))
  last_is p (q ∷ r ∷ ps) (suc i) long here = last_is p (r ∷ ps) i (omega (arith, long)) here

  ends_with : (p : ℕ × Option X) (ps : List (ℕ × Option X)) → ends_empty (ps ++ p ∷ []) ≡ is_none p.1
  ends_with p [] = refl
  ends_with p (q ∷ []) = refl
  ends_with p (q ∷ r ∷ ps) = ends_with p (r ∷ ps)

  ends_refilled : (id : ℕ) (x : X) (ps : List (ℕ × Option X)) (i : ℕ) → ends_empty ps ≡ false → ends_empty (slice_set ps i (id, Some x)) ≡ false
  ends_refilled id x [] i taken = refl
  ends_refilled id x (p ∷ []) zero taken = refl
  ends_refilled id x (p ∷ []) (suc i) taken = taken
  ends_refilled id x (p ∷ q ∷ ps) zero taken = taken
  ends_refilled id x (p ∷ q ∷ ps) (suc zero) taken = ends_refilled id x (q ∷ ps) zero taken
  ends_refilled id x (p ∷ q ∷ ps) (suc (suc i)) taken = ends_refilled id x (q ∷ ps) (suc i) taken

  -- the last place has the greatest id, and isn't empty: so ids above all entries are above all places
  places_under : (id : ℕ) (ps : List (ℕ × Option X)) → ends_empty ps ≡ false → Rise ps → AreUnder id (keys_of (entries_in ps)) → AreUnder id (keys_of ps)
  unfolding IsStrictlySortedBy
  places_under id [] taken rise under = tt
  places_under id (p ∷ []) taken rise under = elim p.1 as (λ o. is_none o ≡ false → AreUnder id (keys_of (entry_before p.0 o [])) → AreUnder id (p.0 ∷ [])) [
    | None ↦ λ bad _. cc
    | Some x ↦ λ _ above. above
  ] taken under
  places_under id (p ∷ q ∷ ps) taken rise under =
      let rest = elim p.1 as (λ o. AreUnder id (keys_of (entry_before p.0 o (entries_in (q ∷ ps)))) → AreUnder id (keys_of (entries_in (q ∷ ps)))) [
        | None ↦ λ above. above
        | Some x ↦ λ above. above.1
      ] under in
      let more = places_under id (q ∷ ps) taken rise.1 rest in
      (less p.0 id (omega (arith, ranked p.0 q.0 Less (sym rise.0.0), ranked q.0 id Less (sym more.0))), more)

  -- ---- an entry is put in

  pub no_places : ArePlaces {X = X} []
  unfolding IsStrictlySortedBy
  no_places = record { rise = tt; last = refl; few = omega arith }

  pub seen : (ps qs : List (ℕ × Option X)) (taken : ℕ) → ps ≡ qs → ArePlaces ps × (taken ≡ length (entries_in ps)) → ArePlaces qs × (taken ≡ length (entries_in qs))
  seen ps qs taken is kept = subst (λ l. ArePlaces l × (taken ≡ length (entries_in l))) is kept

  -- the entries with one more, or another in place of one, and how many they are
  pub record IsPut (id : ℕ) (x : X) (taken : ℕ) (old new : List (ℕ × Option X)) : Type 0 where
    pub entries : entries_in new ≡ insert_entry nat_cmp (entries_in old) id x
    pub kept : ArePlaces new × (taken ≡ length (entries_in new))

  pub put_last : (id taken : ℕ) (x : X) (ps qs : List (ℕ × Option X)) → ArePlaces ps × (taken ≡ length (entries_in ps)) → ((k : ℕ) → id ≤ k → call_of ps k ≡ None)
      → qs ≡ ps ++ (id, Some x) ∷ [] → IsPut id x (taken + 1) ps qs
  put_last id taken x ps qs kept none is =
      let under = under_by id (entries_in ps) none in
      let joined = entries_joined ps ((id, Some x) ∷ []) in
      let count : length (entries_in (ps ++ (id, Some x) ∷ [])) ≡ length (entries_in ps) + 1 = rw joined (rw length-append refl) in
      let few = kept.0.few in let was = kept.1 in
      let are : ArePlaces (ps ++ (id, Some x) ∷ []) = record {
        rise = rise_last id (Some x) ps kept.0.rise (places_under id ps kept.0.last kept.0.rise under);
        last = ends_with (id, Some x) ps;
        few = omega (arith, few, count, length-append ps ((id, Some x) ∷ []));
      } in
      record { entries = ap entries_in is ∙ joined ∙ inserted_last id x (entries_in ps) under; kept = seen _ qs (taken + 1) (sym is) (are, omega (arith, was, count)) }

  pub put_back : (id place taken : ℕ) (x y : X) (ps qs : List (ℕ × Option X)) → ArePlaces ps × (taken ≡ length (entries_in ps)) → slice_get ps place ≡ Some (id, Some x)
      → qs ≡ slice_set ps place (id, Some y) → IsPut id y taken ps qs
  put_back id place taken x y ps qs kept here is =
      let set = is_set id x ps place kept.0.rise here in let count = set.as_many y in
      let few = kept.0.few in let was = kept.1 in
      let are : ArePlaces (slice_set ps place (id, Some y)) = record {
        rise = set_rises id (Some y) ps place kept.0.rise set;
        last = ends_refilled id y ps place kept.0.last;
        few = omega (arith, few, count, length-set ps place (id, Some y));
      } in
      record { entries = ap entries_in is ∙ set.refilled y; kept = seen _ qs taken (sym is) (are, omega (arith, was, count)) }

  -- ---- empty places are taken out

  -- the entries stay, in no more places
  pub record AreFewer (old new : List (ℕ × Option X)) : Type 0 where
    pub entries : entries_in new ≡ entries_in old
    pub rise : Rise old → Rise new
    pub few : length new ≤ length old

  -- the last place is taken out, which is empty
  pub shorter : (old mid new : List (ℕ × Option X)) (r : Option (ℕ × Option X)) → AreFewer old mid → mid ≡ new ++ option_to_list r → ends_empty mid ≡ true → AreFewer old new
  shorter old mid new None fewer is empty = subst (AreFewer old) (is ∙ append-nil new) fewer
  shorter old mid new (Some p) fewer is empty =
      let ends : is_none p.1 ≡ true = sym (ends_with p new) ∙ sym (ap ends_empty is) ∙ empty in
      let none : entry_before p.0 p.1 [] ≡ [] = elim p.1 as (λ o. is_none o ≡ true → entry_before p.0 o [] ≡ []) [
        | None ↦ λ _. refl
        | Some x ↦ λ bad. cc
      ] ends in
      let few = fewer.few in
      record {
        entries = sym (append-nil (entries_in new)) ∙ ap (λ es. entries_in new ++ es) (sym none) ∙ sym (entries_joined new (p ∷ [])) ∙ sym (ap entries_in is) ∙ fewer.entries;
        rise = λ rise. rise_front new (p ∷ []) (subst Rise is (fewer.rise rise));
        few = omega (arith, few, ap length is, length-append new (p ∷ []));
      }

  some_last : (ps : List (ℕ × Option X)) → ends_empty ps ≡ true → 0 < length ps
  some_last [] empty = cc
  some_last (p ∷ ps) empty = omega arith

  ends_before : (id : ℕ) (x : X) (ps : List (ℕ × Option X)) → ends_empty ps ≡ false → ends_empty ((id, Some x) ∷ ps) ≡ false
  ends_before id x [] taken = refl
  ends_before id x (p ∷ ps) taken = taken

  -- what is left where all empty places are taken out
  abbrev AreLeft : List (ℕ × Option X) → List (ℕ × X) → Type 0
  AreLeft places entries = (entries_in places ≡ entries) × (keys_of places ≡ keys_of entries) × (ends_empty places ≡ false)

  are_left : (ps : List (ℕ × Option X)) → AreLeft (filter is_taken ps) (entries_in ps)
  are_left [] = (refl, refl, refl)
  are_left (p ∷ ps) = let left = are_left ps in elim p.1 as (λ o. AreLeft (cond (is_some o) ((p.0, o) ∷ filter is_taken ps) (filter is_taken ps)) (entry_before p.0 o (entries_in ps))) [
    | None ↦ left
    | Some x ↦ (ap (λ es. (p.0, x) ∷ es) left.0, ap (λ ks. p.0 ∷ ks) left.1, ends_before p.0 x (filter is_taken ps) left.2)
  ]

  -- as many as there are entries
  pub count_kept : (ps : List (ℕ × Option X)) → length (filter is_taken ps) ≡ length (entries_in ps)
  count_kept ps = sym (length-keys_of (filter is_taken ps)) ∙ ap length (are_left ps).1 ∙ length-keys_of (entries_in ps)

  pub kept_taken : (ps : List (ℕ × Option X)) → IsTrimmed ps (filter is_taken ps)
  kept_taken ps = record {
    entries = (are_left ps).0;
    rise = λ rise. subst (IsStrictlySortedBy nat_cmp) (sym (are_left ps).1) (rise_entries ps rise);
    last = (are_left ps).2;
    few = omega (arith, count_kept ps, few_entries ps);
  }

  -- the entries without one, and how many they are
  pub record IsLess (id taken : ℕ) (old new : List (ℕ × Option X)) : Type 0 where
    pub entries : entries_in new ≡ remove_entry (is_at (nat_cmp id)) (entries_in old)
    pub kept : ArePlaces new × (taken ≡ length (entries_in new))

  pub removed : (id place taken : ℕ) (x : X) (ps ms qs : List (ℕ × Option X)) → ArePlaces ps × (taken ≡ length (entries_in ps)) → slice_get ps place ≡ Some (id, Some x)
      → ms ≡ slice_set ps place (id, None) → IsTrimmed ms qs → (taken - 1 ≡ length (entries_in ms) → length qs ≤ 2 * (taken - 1)) → IsLess id (taken - 1) ps qs
  removed id place taken x ps ms qs kept here is trimmed few =
      let was = kept.1 in
      let set = is_set id x ps place kept.0.rise here in let fewer = set.fewer in
      let same_count = ap (λ l. length (entries_in l)) is in
      let left : taken - 1 ≡ length (entries_in ms) = omega (arith, was, fewer, same_count) in
      let kept_count = ap length trimmed.entries in
      let are : ArePlaces qs = record {
        rise = trimmed.rise (subst Rise (sym is) (set_rises id None ps place kept.0.rise set));
        last = trimmed.last;
        few = omega (arith, few left, left, kept_count);
      } in
      record { entries = trimmed.entries ∙ ap entries_in is ∙ set.emptied; kept = (are, left ∙ sym kept_count) }
