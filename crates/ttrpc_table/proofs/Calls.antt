-- What a call finds and leaves, by where its key is.
use Rattle.std.proofs.Common.{Bor, MutBor, option_copied, length-append, suc, ◌-◌, ◌≡◌, ◌∙◌, ◌<◌, ℕ, ◌+◌, ◌^◌, List, [], ◌∷◌, ◌++◌, length, get_or, Option, Some, None, IfSome, IsSome, OnOk, OnErr, OnSome, Ok, Err, Result, insert, remove, sym, ap, subst, append_assoc, arith}
use Rattle.std.proofs.lemmas.List.{append-nil}
use Rattle.std.proofs.lemmas.List.Edits.{length-insert, length-remove}
use Rattle.std.proofs.lemmas.Map.Entries.{length-keys_of}
use Rattle.std.proofs.lemmas.Option.{slice_get_read}
use Rattle.std.specs.List.{slice_get, zip}
use Rattle.std.specs.List.Sorted.{IsStrictlySortedBy}
use Rattle.std.specs.Map.{keys_of}
use Rattle.std.specs.Option.{option_copied_mut}
use Rattle.std.specs.Ordering.{nat_cmp}
use Rattle.ttrpc_table.proofs.Parts.{AllBelow, IsGap, NoneIs, above_gap, all_rise, below_row, before_at, before_entry, before_value, before_without, behind_at, behind_entry, filled, gap_behind, in_row, keys_of_zip, kept_by, longer, none_at, none_in_gap, rise_with, rise_without, shorter}
use Rattle.ttrpc_table.specs.Kept.{Ages, IsKept}
use Rattle.ttrpc_table.specs.Table.{Rise, at, with_entry, with_value, without}

on_ok : {T E : Type 0} (r : Result T E) (P : Type 0) → P → OnOk r P
on_ok (Ok x) P p = p
on_ok (Err e) P p = tt

pub on_err : {T E : Type 0} (r : Result T E) (P : Type 0) → P → OnErr r P
on_err (Ok x) P p = tt
on_err (Err e) P p = p

pub some_so : {X : Type 0} (r : Option X) (P : Type 0) → IsSome r → OnSome r P → P
some_so None P some on = absurd (cc)
some_so (Some x) P some on = on

-- the value that a queue gave, lent or let write
module _ {X : Type 0} (xs : List X) (n i : ℕ) (long : n ≡ length xs) (within : i < length xs) where
  pub read : (x : X) → x ≡ get_or xs i x → Some x ≡ slice_get xs i
  read x is = sym (slice_get_read xs n i x long (omega (arith, long, within)) is)

  pub given : (r : Option X) → (i < n → IsSome r) → IfSome r (λ x. x ≡ get_or xs i x) → r ≡ slice_get xs i
  given None some is = absurd (let none = some (omega (arith, long, within)) in cc)
  given (Some x) some is = read x is

  pub lent : (r : Option (Bor X)) → (i < n → IsSome r) → IfSome r (λ x. x.now ≡ get_or xs i x.now) → option_copied r ≡ slice_get xs i
  lent None some is = absurd (let none = some (omega (arith, long, within)) in cc)
  lent (Some x) some is = read x.now is

  pub lent_mut : (r : Option (MutBor X)) → (i < n → IsSome r) → IfSome r (λ x. x.now ≡ get_or xs i x.now) → option_copied_mut r ≡ slice_get xs i
  lent_mut None some is = absurd (let none = some (omega (arith, long, within)) in cc)
  lent_mut (Some x) some is = read x.now is

module _ {V : Type 0} (es : List (ℕ × V)) (ks : List ℕ) (vs : List V) (k i : ℕ) (kept : IsKept (keys_of es) ks (length vs)) where
  -- ---- the key is in the row

  pub kept_removed : (ks' : List ℕ) (vs' : List V) → i < length ks → get_or ks i 0 ≡ k → ks' ≡ remove ks i → vs' ≡ remove vs i → IsKept (keys_of es) ks' (length vs')
  kept_removed ks' vs' within is keys values =
      let shorter_keys = length-remove ks i within in
      let shorter_values = length-remove vs i (omega (arith, within, kept.even)) in
      rw (keys, values) (kept_by es (remove ks i) (remove vs i) (omega (arith, shorter_keys, shorter_values, kept.even))
      (subst (λ (l : List (ℕ × V)). Rise l) (in_row es ks vs i k kept within is).removed (rise_without k (es ++ zip ks vs) (all_rise es ks vs kept)))
      (omega (arith, shorter_keys, kept.few, length-keys_of es)))

  -- ---- the row hasn't the key

  module _ (gap : IsGap ks k i) where
    pub none_in_row : NoneIs k (keys_of (zip ks vs))
    none_in_row = rw (keys_of_zip ks vs kept.even) (none_in_gap ks k i gap)

    pub older_at : at (es ++ zip ks vs) k ≡ at es k
    older_at = before_at k es (zip ks vs) none_in_row

    pub older_found : (found : Option V) → found ≡ at es k → found ≡ at (es ++ zip ks vs) k
    older_found found is = is ∙ sym older_at

    pub older_without : without (es ++ zip ks vs) k ≡ without es k ++ zip ks vs
    older_without = before_without k es (zip ks vs) none_in_row

    pub older_lent : (w : V) (es' : List (ℕ × V)) → es' ≡ with_value es k w → es' ++ zip ks vs ≡ with_value (es ++ zip ks vs) k w
    older_lent w es' is = rw is (sym (before_value k w es (zip ks vs) none_in_row))

    pub kept_without : (es' : List (ℕ × V)) → es' ≡ without es k → IsKept (keys_of es') ks (length vs)
    kept_without es' is = rw is (kept_by (without es k) ks vs kept.even
        (subst (λ (l : List (ℕ × V)). Rise l) older_without (rise_without k (es ++ zip ks vs) (all_rise es ks vs kept)))
        (omega (arith, shorter k es, kept.few, length-keys_of es)))

    pub absent : AllBelow k (keys_of es) → at (es ++ zip ks vs) k ≡ None
    absent below = behind_at k es (zip ks vs) below ∙ none_at k (zip ks vs) none_in_row

    -- ---- and is below all of it

    pub older_entry : (w : V) → i ≡ 0 → with_entry (es ++ zip ks vs) k w ≡ with_entry es k w ++ zip ks vs
    older_entry w zero = before_entry k w es (zip ks vs) (rw (keys_of_zip ks vs kept.even) (above_gap ks k (subst (λ (j : ℕ). IsGap ks k j) zero gap)))

    pub kept_with : (w : V) (es' : List (ℕ × V)) → i ≡ 0 → length es + length ks + 1 < 2 ^ 63 → es' ≡ with_entry es k w → IsKept (keys_of es') ks (length vs)
    kept_with w es' zero room is = rw is (kept_by (with_entry es k w) ks vs kept.even
        (subst (λ (l : List (ℕ × V)). Rise l) (older_entry w zero) (rise_with k w (es ++ zip ks vs) (all_rise es ks vs kept)))
        (omega (arith, longer k w es, room)))

    -- ---- or is put in it

    module _ (below : AllBelow k (keys_of es)) (w : V) {T E : Type 0} (r : Result T E) (ks' : List ℕ) (vs' : List V) where
      pub kept_put : length es + length ks + 1 < 2 ^ 63 → OnOk r (ks' ≡ insert ks i k) → OnOk r (vs' ≡ insert vs i w) → OnErr r (ks' ≡ ks) → OnErr r (vs' ≡ vs) → IsKept (keys_of es) ks' (length vs')
      kept_put room keys values same_keys same_values = by r keys values same_keys same_values
        where
          by : (r : Result T E) → OnOk r (ks' ≡ insert ks i k) → OnOk r (vs' ≡ insert vs i w) → OnErr r (ks' ≡ ks) → OnErr r (vs' ≡ vs) → IsKept (keys_of es) ks' (length vs')
          by (Ok x) keys values same_keys same_values =
              let longer_keys = length-insert ks i k gap.0 in
              let longer_values = length-insert vs i w (omega (arith, gap.0, kept.even)) in
              rw (keys, values) (kept_by es (insert ks i k) (insert vs i w) (omega (arith, longer_keys, longer_values, kept.even))
              (subst (λ (l : List (ℕ × V)). Rise l) (filled es ks vs i k w kept.even gap below) (rise_with k w (es ++ zip ks vs) (all_rise es ks vs kept)))
              (omega (arith, longer_keys, room)))
          by (Err e) keys values same_keys same_values = rw (same_keys, same_values) kept

      pub put_in : OnOk r (ks' ≡ insert ks i k) → OnOk r (vs' ≡ insert vs i w) → OnOk r (es ++ zip ks' vs' ≡ with_entry (es ++ zip ks vs) k w)
      put_in keys values = by r keys values
        where
          by : (r : Result T E) → OnOk r (ks' ≡ insert ks i k) → OnOk r (vs' ≡ insert vs i w) → OnOk r (es ++ zip ks' vs' ≡ with_entry (es ++ zip ks vs) k w)
          by (Ok x) keys values = rw (keys, values) (sym (filled es ks vs i k w kept.even gap below))
          by (Err e) keys values = tt

-- ---- the first of the row goes to the older ones

module _ {V : Type 0} (es : List (ℕ × V)) (ks : List ℕ) (vs : List V) (es' : List (ℕ × V)) (ks' : List ℕ) (vs' : List V) (a : Ages es ks vs es' ks' vs') where
  pub same_entries : es' ++ zip ks' vs' ≡ es ++ zip ks vs
  same_entries = rw (a.are, a.keys_were, a.values_were) (append_assoc es ((a.key, a.value) ∷ []) (zip ks' vs'))

  pub same_count : length es' + length ks' ≡ length es + length ks
  same_count = rw (a.are, a.keys_were) (omega (arith, length-append es ((a.key, a.value) ∷ [])))

  pub kept_aged : IsKept (keys_of es) ks (length vs) → IsKept (keys_of es') ks' (length vs')
  kept_aged kept =
      let even : length ks' ≡ length vs' = omega (arith, kept.even, ap length a.keys_were, ap length a.values_were) in
      kept_by es' ks' vs' even (rw same_entries (all_rise es ks vs kept)) (omega (arith, same_count, kept.few, length-keys_of es))

  pub below_aged : (k i : ℕ) → AllBelow k (keys_of es) → IsGap ks k i → 0 < i → AllBelow k (keys_of es')
  below_aged k i below gap some = rw a.are (one_more es below)
    where
      first : a.key < k
      first = subst (λ (l : List ℕ). get_or l 0 0 < k) a.keys_were (gap.1 0 some)

      one_more : (fs : List (ℕ × V)) → AllBelow k (keys_of fs) → AllBelow k (keys_of (fs ++ (a.key, a.value) ∷ []))
      one_more [] below = (first, tt)
      one_more (f ∷ fs) below = (below.0, one_more fs below.1)

  pub gap_aged : (k i : ℕ) → IsGap ks k i → 0 < i → IsGap ks' k (i - 1)
  gap_aged k i gap some =
      let is : i ≡ suc (i - 1) = omega (arith, some) in
      gap_behind a.key ks' k (i - 1) (subst (λ (j : ℕ). IsGap (a.key ∷ ks') k j) is (subst (λ (l : List ℕ). IsGap l k i) a.keys_were gap))

pub aged : {V : Type 0} (es : List (ℕ × V)) (k : ℕ) (w : V) (ks ks' : List ℕ) → ks ≡ k ∷ ks' → IsStrictlySortedBy nat_cmp (keys_of es ++ ks) → with_entry es k w ≡ es ++ (k, w) ∷ []
aged {V} es k w ks ks' are rise = subst (λ (l : List (ℕ × V)). with_entry l k w ≡ es ++ (k, w) ∷ []) (append-nil es) (behind_entry k w es [] below)
  where
    below : AllBelow k (keys_of es)
    below = below_row (keys_of es) (k ∷ ks') 0 (subst (λ (l : List ℕ). IsStrictlySortedBy nat_cmp (keys_of es ++ l)) are rise) (omega arith)
