-- Entries in two parts: those behind or before a key, and a row of keys and one of their values.
use Rattle.std.proofs.Common.{All, ◌⊎◌, inl, inr, ◌≡◌, ◌∙◌, ◌-◌, ◌<◌, ◌≤◌, ℕ, ◌+◌, ◌^◌, zero, suc, List, [], ◌∷◌, ◌++◌, length, get_or, drop, Option, Some, None, Bool, true, false, cond, insert, remove, slice_set, refl, sym, ap, subst, arith, length-append, length-drop}
use Rattle.std.proofs.lemmas.Bool.{cases_lt}
use Rattle.std.proofs.lemmas.Map.Entries.{length-keys_of}
use Rattle.std.proofs.lemmas.Map.Keys.{below_from_sorted, sorted_head, sorted_tail}
use Rattle.std.proofs.lemmas.Map.Made.{keys_of-zip}
use Rattle.std.proofs.lemmas.Slice.Zip.{length-zip}
use Rattle.std.specs.Cmp.{nat_cmp_is, ranked}
use Rattle.std.specs.declared.cmp.Ordering.{Ordering}
use Rattle.std.specs.declared.cmp.Ordering.TheVariants.{Less, Equal, Greater}
use Rattle.std.specs.List.{AllByRecursion, slice_get, zip}
use Rattle.std.specs.List.Sorted.{IsStrictlySortedBy}
use Rattle.std.specs.Map.{keys_of}
use Rattle.std.specs.BTreeMap.{is_at}
use Rattle.std.specs.Ordering.{is_eq, nat_cmp, match_ordering}
use Rattle.ttrpc_table.specs.Kept.{IsKept}
use Rattle.ttrpc_table.specs.Table.{Rise, at, with_entry, with_value, without}

-- ---- a key and others

less : (k x : ℕ) → k < x → nat_cmp k x ≡ Less
less k x lt = sym (nat_cmp_is k x Less lt)

greater : (k x : ℕ) → x < k → nat_cmp k x ≡ Greater
greater k x lt = sym (nat_cmp_is k x Greater lt)

pub same_place : (k : ℕ) → nat_cmp k k ≡ Equal
same_place k = sym (nat_cmp_is k k Equal refl)

is_less : (x y : ℕ) → nat_cmp x y ≡ Less → x < y
is_less x y is = ranked x y Less (sym is)

is_greater : (x y : ℕ) → nat_cmp x y ≡ Greater → y < x
is_greater x y is = ranked x y Greater (sym is)

other_place : (k x : ℕ) → (k < x) ⊎ (x < k) → is_at (nat_cmp k) x ≡ false
other_place k x (inl lt) = rw (less k x lt) refl
other_place k x (inr lt) = rw (greater k x lt) refl

-- all keys are below k
abbrev pub AllBelow : ℕ → List ℕ → Type 0
AllBelow k ks = AllByRecursion (λ x. x < k) ks

-- all keys are above k
abbrev pub AllAbove : ℕ → List ℕ → Type 0
AllAbove k ks = AllByRecursion (λ x. k < x) ks

-- no key is k
abbrev pub NoneIs : ℕ → List ℕ → Type 0
NoneIs k ks = AllByRecursion (λ x. (k < x) ⊎ (x < k)) ks

pub none_above : (k : ℕ) (ks : List ℕ) → AllAbove k ks → NoneIs k ks
none_above k [] above = tt
none_above k (x ∷ ks) above = (inl above.0, none_above k ks above.1)

all_at : (P : ℕ → Type 0) (bs ks : List ℕ) (i : ℕ) → AllByRecursion P (bs ++ ks) → i < length ks → P (get_or ks i 0)
all_at P [] [] i all within = absurd (omega (arith, within))
all_at P [] (x ∷ ks) zero all within = all.0
all_at P [] (x ∷ ks) (suc i) all within = all_at P [] ks i all.1 (omega (arith, within))
all_at P (b ∷ bs) ks i all within = all_at P bs ks i all.1 within

-- ---- keys that rise

pub rise_behind : (bs ks : List ℕ) → IsStrictlySortedBy nat_cmp (bs ++ ks) → IsStrictlySortedBy nat_cmp ks
rise_behind [] ks rise = rise
rise_behind (b ∷ bs) ks rise = rise_behind bs ks (sorted_tail nat_cmp b (bs ++ ks) rise)

pub below_row : (bs ks : List ℕ) (i : ℕ) → IsStrictlySortedBy nat_cmp (bs ++ ks) → i < length ks → AllBelow (get_or ks i 0) bs
below_row [] ks i rise within = tt
below_row (b ∷ bs) ks i rise within = (
  is_less b (get_or ks i 0) (all_at (λ y. nat_cmp b y ≡ Less) bs ks i (sorted_head nat_cmp b (bs ++ ks) rise) within),
  below_row bs ks i (sorted_tail nat_cmp b (bs ++ ks) rise) within,
)

pub all_less : (k x : ℕ) (ks : List ℕ) → k < x → AllByRecursion (λ y. nat_cmp x y ≡ Less) ks → AllByRecursion (λ y. nat_cmp k y ≡ Less) ks
all_less k x [] lt all = tt
all_less k x (y ∷ ks) lt all = (less k y (omega (arith, lt, is_less x y all.0)), all_less k x ks lt all.1)

above_by_cmp : (k : ℕ) (ks : List ℕ) → AllByRecursion (λ y. nat_cmp k y ≡ Less) ks → AllAbove k ks
above_by_cmp k [] all = tt
above_by_cmp k (x ∷ ks) all = (is_less k x all.0, above_by_cmp k ks all.1)

pub below_by_index : (k : ℕ) (ks : List ℕ) → All (λ x. x < k) ks → AllBelow k ks
below_by_index k [] all = tt
below_by_index k (x ∷ ks) all = (all 0 0 (omega arith), below_by_index k ks (λ j d within. all (suc j) d (omega (arith, within))))

index_by_below : (k : ℕ) (ks : List ℕ) → AllBelow k ks → All (λ x. x < k) ks
index_by_below k [] below j d within = absurd (omega (arith, within))
index_by_below k (x ∷ ks) below zero d within = below.0
index_by_below k (x ∷ ks) below (suc j) d within = index_by_below k ks below.1 j d (omega (arith, within))

below_more : (k n : ℕ) (ks : List ℕ) → n ≤ k → AllBelow n ks → AllBelow k ks
below_more k n [] le below = tt
below_more k n (x ∷ ks) le below = (omega (arith, le, below.0), below_more k n ks le below.1)

-- ---- a key that the row hasn't

-- the row hasn't the key, and i of its keys are below
abbrev pub IsGap : List ℕ → ℕ → ℕ → Type 0
IsGap ks k i = (i ≤ length ks) × ((j : ℕ) → j < i → get_or ks j 0 < k) × ((j : ℕ) → i ≤ j → j < length ks → k < get_or ks j 0)

pub gap_behind : (x : ℕ) (ks : List ℕ) (k i : ℕ) → IsGap (x ∷ ks) k (suc i) → IsGap ks k i
gap_behind x ks k i gap = (omega (arith, gap.0), λ j less. gap.1 (suc j) (omega (arith, less)), λ j more within. gap.2 (suc j) (omega (arith, more)) (omega (arith, within)))

pub none_in_gap : (ks : List ℕ) (k i : ℕ) → IsGap ks k i → NoneIs k ks
none_in_gap [] k i gap = tt
none_in_gap (x ∷ ks) k zero gap = (inl (gap.2 0 (omega arith) (omega arith)), none_in_gap ks k zero (omega arith, λ j less. absurd (omega (arith, less)), λ j more within. gap.2 (suc j) (omega arith) (omega (arith, within))))
none_in_gap (x ∷ ks) k (suc i) gap = (inr (gap.1 0 (omega arith)), none_in_gap ks k i (gap_behind x ks k i gap))

pub above_gap : (ks : List ℕ) (k : ℕ) → IsGap ks k 0 → AllAbove k ks
above_gap [] k gap = tt
above_gap (x ∷ ks) k gap = (gap.2 0 (omega arith) (omega arith), above_gap ks k (omega arith, λ j less. absurd (omega (arith, less)), λ j more within. gap.2 (suc j) (omega arith) (omega (arith, within))))

-- the keys before the row are below a key that is above some of the row
pub newer : (bs ks : List ℕ) (k i : ℕ) → IsStrictlySortedBy nat_cmp (bs ++ ks) → IsGap ks k i → 0 < i → All (λ x. x < k) bs
newer bs ks k i rise gap some =
    let first : get_or ks 0 0 < k = gap.1 0 some in
    index_by_below k bs (below_more k (get_or ks 0 0) bs (omega (arith, first)) (below_row bs ks 0 rise (omega (arith, some, gap.0))))

-- the key at a place where the rest of the row begins
pub record Begins (ks : List ℕ) (i x : ℕ) (rest : List ℕ) : Type 0 where
  pub within : i < length ks
  pub is : get_or ks i 0 ≡ x
  pub behind : drop (suc i) ks ≡ rest

pub begins : (ks : List ℕ) (i x : ℕ) (rest : List ℕ) → drop i ks ≡ x ∷ rest → Begins ks i x rest
begins [] zero x rest is = absurd (cc)
begins [] (suc i) x rest is = absurd (cc)
begins (k ∷ ks) zero x rest is = record { within = omega arith; is = cc; behind = cc }
begins (k ∷ ks) (suc i) x rest is = let b = begins ks i x rest is in record { within = omega (arith, b.within); is = b.is; behind = b.behind }

pub ends : (ks : List ℕ) (i : ℕ) → length (drop i ks) ≡ 0 → length ks ≤ i
ends ks i none = omega (arith, length-drop i ks)

same_default : (ks : List ℕ) (i d e : ℕ) → i < length ks → get_or ks i d ≡ get_or ks i e
same_default [] i d e within = absurd (omega (arith, within))
same_default (x ∷ ks) zero d e within = refl
same_default (x ∷ ks) (suc i) d e within = same_default ks i d e (omega (arith, within))

pub at_most_later : (ks : List ℕ) → IsStrictlySortedBy nat_cmp ks → (i j : ℕ) → i ≤ j → j < length ks → get_or ks i 0 ≤ get_or ks j 0
at_most_later ks rise i j le within = elim (cases_lt i j) [
  | inl lt ↦ omega (arith, below_from_sorted ks i j 0 rise lt within)
  | inr ge ↦ let same : i ≡ j = omega (arith, le, ge) in rw same (omega arith)
]

-- a key above the last
pub gap_at_end : (ks : List ℕ) (k last n : ℕ) → IsStrictlySortedBy nat_cmp ks → 0 < n → n ≡ length ks → last ≡ get_or ks (n - 1) last → last < k → IsGap ks k n
gap_at_end ks k last n rise some long is lt = (
  omega (arith, long),
  λ j less. omega (arith, lt, is, same_default ks (n - 1) last 0 (omega (arith, some, long)), at_most_later ks rise j (n - 1) (omega (arith, less)) (omega (arith, some, long))),
  λ j more within. absurd (omega (arith, long, more, within)),
)

-- a key below the one at a place, and above those before it
pub gap_before : (ks : List ℕ) (k i : ℕ) → IsStrictlySortedBy nat_cmp ks → i < length ks → ((j : ℕ) → j < i → get_or ks j 0 < k) → k < get_or ks i 0 → IsGap ks k i
gap_before ks k i rise within behind lt = (omega (arith, within), behind, λ j more inside. omega (arith, lt, at_most_later ks rise i j more inside))

-- ---- entries behind those that are below a key

module _ {V : Type 0} (k : ℕ) where
  pub behind_at : (es fs : List (ℕ × V)) → AllBelow k (keys_of es) → at (es ++ fs) k ≡ at fs k
  behind_at [] fs below = refl
  behind_at (e ∷ es) fs below = rw (greater k e.0 below.0) (behind_at es fs below.1)

  behind_without : (es fs : List (ℕ × V)) → AllBelow k (keys_of es) → without (es ++ fs) k ≡ es ++ without fs k
  behind_without [] fs below = refl
  behind_without (e ∷ es) fs below = rw (greater k e.0 below.0) (ap (λ (l : List (ℕ × V)). e ∷ l) (behind_without es fs below.1))

  behind_value : (w : V) (es fs : List (ℕ × V)) → AllBelow k (keys_of es) → with_value (es ++ fs) k w ≡ es ++ with_value fs k w
  behind_value w [] fs below = refl
  behind_value w (e ∷ es) fs below = rw (greater k e.0 below.0) (ap (λ (l : List (ℕ × V)). e ∷ l) (behind_value w es fs below.1))

  pub behind_entry : (w : V) (es fs : List (ℕ × V)) → AllBelow k (keys_of es) → with_entry (es ++ fs) k w ≡ es ++ with_entry fs k w
  behind_entry w [] fs below = refl
  behind_entry w (e ∷ es) fs below = rw (greater k e.0 below.0) (ap (λ (l : List (ℕ × V)). e ∷ l) (behind_entry w es fs below.1))

  -- ---- entries before those that haven't a key

  pub none_at : (fs : List (ℕ × V)) → NoneIs k (keys_of fs) → at fs k ≡ None
  none_at [] none = refl
  none_at (f ∷ fs) none = rw (other_place k f.0 none.0) (none_at fs none.1)

  none_without : (fs : List (ℕ × V)) → NoneIs k (keys_of fs) → without fs k ≡ fs
  none_without [] none = refl
  none_without (f ∷ fs) none = rw (other_place k f.0 none.0) (ap (λ (l : List (ℕ × V)). f ∷ l) (none_without fs none.1))

  none_value : (w : V) (fs : List (ℕ × V)) → NoneIs k (keys_of fs) → with_value fs k w ≡ fs
  none_value w [] none = refl
  none_value w (f ∷ fs) none = rw (other_place k f.0 none.0) (ap (λ (l : List (ℕ × V)). f ∷ l) (none_value w fs none.1))

  pub before_at : (es fs : List (ℕ × V)) → NoneIs k (keys_of fs) → at (es ++ fs) k ≡ at es k
  before_at [] fs none = none_at fs none
  before_at (e ∷ es) fs none = ap (λ (o : Option V). cond (is_at (nat_cmp k) e.0) (Some e.1) o) (before_at es fs none)

  pub before_without : (es fs : List (ℕ × V)) → NoneIs k (keys_of fs) → without (es ++ fs) k ≡ without es k ++ fs
  before_without [] fs none = none_without fs none
  before_without (e ∷ es) fs none = by (is_at (nat_cmp k) e.0) (before_without es fs none)
    where
      by : (b : Bool) → without (es ++ fs) k ≡ without es k ++ fs → cond b (es ++ fs) (e ∷ without (es ++ fs) k) ≡ cond b es (e ∷ without es k) ++ fs
      by true more = refl
      by false more = ap (λ (l : List (ℕ × V)). e ∷ l) more

  pub before_value : (w : V) (es fs : List (ℕ × V)) → NoneIs k (keys_of fs) → with_value (es ++ fs) k w ≡ with_value es k w ++ fs
  before_value w [] fs none = none_value w fs none
  before_value w (e ∷ es) fs none = by (is_at (nat_cmp k) e.0) (before_value w es fs none)
    where
      by : (b : Bool) → with_value (es ++ fs) k w ≡ with_value es k w ++ fs → cond b ((e.0, w) ∷ (es ++ fs)) (e ∷ with_value (es ++ fs) k w) ≡ cond b ((e.0, w) ∷ es) (e ∷ with_value es k w) ++ fs
      by true more = refl
      by false more = ap (λ (l : List (ℕ × V)). e ∷ l) more

  pub before_entry : (w : V) (es fs : List (ℕ × V)) → AllAbove k (keys_of fs) → with_entry (es ++ fs) k w ≡ with_entry es k w ++ fs
  before_entry w [] [] above = refl
  before_entry w [] (f ∷ fs) above = rw (less k f.0 above.0) refl
  before_entry w (e ∷ es) fs above = by (nat_cmp k e.0) (before_entry w es fs above)
    where
      by : (o : Ordering) → with_entry (es ++ fs) k w ≡ with_entry es k w ++ fs
          → match_ordering o ((k, w) ∷ e ∷ (es ++ fs)) ((e.0, w) ∷ (es ++ fs)) (e ∷ with_entry (es ++ fs) k w) ≡ match_ordering o ((k, w) ∷ e ∷ es) ((e.0, w) ∷ es) (e ∷ with_entry es k w) ++ fs
      by Less more = refl
      by Equal more = refl
      by Greater more = ap (λ (l : List (ℕ × V)). e ∷ l) more

-- ---- the two parts as one

module _ {V : Type 0} where
  pub keys_of_zip : (ks : List ℕ) (vs : List V) → length ks ≡ length vs → keys_of (zip ks vs) ≡ ks
  keys_of_zip ks vs even = keys_of-zip ks vs (sym even)

  pub keys_joined : (es : List (ℕ × V)) (ks : List ℕ) (vs : List V) → length ks ≡ length vs → keys_of (es ++ zip ks vs) ≡ keys_of es ++ ks
  keys_joined [] ks vs even = keys_of_zip ks vs even
  keys_joined (e ∷ es) ks vs even = ap (λ (l : List ℕ). e.0 ∷ l) (keys_joined es ks vs even)

  pub counted : (es : List (ℕ × V)) (ks : List ℕ) (vs : List V) → length ks ≡ length vs → length (es ++ zip ks vs) ≡ length es + length ks
  counted es ks vs even = omega (arith, length-append es (zip ks vs), length-zip ks vs, even)

  pub all_rise : (es : List (ℕ × V)) (ks : List ℕ) (vs : List V) → IsKept (keys_of es) ks (length vs) → Rise (es ++ zip ks vs)
  all_rise es ks vs kept = rw (keys_joined es ks vs kept.even) kept.rise

  -- kept are entries that rise
  pub kept_by : (es : List (ℕ × V)) (ks : List ℕ) (vs : List V) → length ks ≡ length vs → Rise (es ++ zip ks vs) → length es + length ks < 2 ^ 63 → IsKept (keys_of es) ks (length vs)
  kept_by es ks vs even rise few = record { rise = subst (λ (l : List ℕ). IsStrictlySortedBy nat_cmp l) (keys_joined es ks vs even) rise; even = even; few = omega (arith, few, length-keys_of es) }

  -- ---- what is found in the row

  -- what calls at a key find and leave, where the i-th of the row has it
  pub record InRow (es : List (ℕ × V)) (ks : List ℕ) (vs : List V) (i k : ℕ) : Type 0 where
    pub finds : at (es ++ zip ks vs) k ≡ slice_get vs i
    pub removed : without (es ++ zip ks vs) k ≡ es ++ zip (remove ks i) (remove vs i)
    pub valued : (w : V) → with_value (es ++ zip ks vs) k w ≡ es ++ zip ks (slice_set vs i w)
    pub entered : (w : V) → with_entry (es ++ zip ks vs) k w ≡ es ++ zip ks (slice_set vs i w)

  row_alone : (ks : List ℕ) (vs : List V) (i k : ℕ) → IsStrictlySortedBy nat_cmp ks → length ks ≡ length vs → i < length ks → get_or ks i 0 ≡ k → InRow [] ks vs i k
  row_alone [] vs i k rise even within is = absurd (omega (arith, within))
  row_alone (x ∷ ks) [] i k rise even within is = absurd (omega (arith, even))
  row_alone (x ∷ ks) (v ∷ vs) zero k rise even within is =
      let here : nat_cmp k x ≡ Equal = rw is (same_place k) in
      record { finds = rw here refl; removed = rw here refl; valued = λ w. rw here refl; entered = λ w. rw here refl }
  row_alone (x ∷ ks) (v ∷ vs) (suc i) k rise even within is =
      let up : x < k = subst (λ (n : ℕ). x < n) is (below_from_sorted (x ∷ ks) 0 (suc i) 0 rise (omega arith) within) in
      let g : nat_cmp k x ≡ Greater = greater k x up in
      let more = row_alone ks vs i k (sorted_tail nat_cmp x ks rise) (omega (arith, even)) (omega (arith, within)) is in
      record {
        finds = rw g more.finds;
        removed = rw g (ap (λ (l : List (ℕ × V)). (x, v) ∷ l) more.removed);
        valued = λ w. rw g (ap (λ (l : List (ℕ × V)). (x, v) ∷ l) (more.valued w));
        entered = λ w. rw g (ap (λ (l : List (ℕ × V)). (x, v) ∷ l) (more.entered w));
      }

  pub in_row : (es : List (ℕ × V)) (ks : List ℕ) (vs : List V) (i k : ℕ) → IsKept (keys_of es) ks (length vs) → i < length ks → get_or ks i 0 ≡ k → InRow es ks vs i k
  in_row es ks vs i k kept within is =
      let below : AllBelow k (keys_of es) = subst (λ (n : ℕ). AllBelow n (keys_of es)) is (below_row (keys_of es) ks i kept.rise within) in
      let alone = row_alone ks vs i k (rise_behind (keys_of es) ks kept.rise) kept.even within is in
      record {
        finds = behind_at k es (zip ks vs) below ∙ alone.finds;
        removed = behind_without k es (zip ks vs) below ∙ ap (λ (l : List (ℕ × V)). es ++ l) alone.removed;
        valued = λ w. behind_value k w es (zip ks vs) below ∙ ap (λ (l : List (ℕ × V)). es ++ l) (alone.valued w);
        entered = λ w. behind_entry k w es (zip ks vs) below ∙ ap (λ (l : List (ℕ × V)). es ++ l) (alone.entered w);
      }

  -- ---- what has its place in the row

  gap_filled : (ks : List ℕ) (vs : List V) (i k : ℕ) (w : V) → length ks ≡ length vs → IsGap ks k i → with_entry (zip ks vs) k w ≡ zip (insert ks i k) (insert vs i w)
  gap_filled [] [] zero k w even gap = refl
  gap_filled [] [] (suc i) k w even gap = absurd (omega (arith, gap.0))
  gap_filled [] (v ∷ vs) i k w even gap = absurd (omega (arith, even))
  gap_filled (x ∷ ks) [] i k w even gap = absurd (omega (arith, even))
  gap_filled (x ∷ ks) (v ∷ vs) zero k w even gap = rw (less k x (gap.2 0 (omega arith) (omega arith))) refl
  gap_filled (x ∷ ks) (v ∷ vs) (suc i) k w even gap =
      rw (greater k x (gap.1 0 (omega arith))) (ap (λ (l : List (ℕ × V)). (x, v) ∷ l) (gap_filled ks vs i k w (omega (arith, even)) (gap_behind x ks k i gap)))

  pub filled : (es : List (ℕ × V)) (ks : List ℕ) (vs : List V) (i k : ℕ) (w : V) → length ks ≡ length vs → IsGap ks k i → AllBelow k (keys_of es) → with_entry (es ++ zip ks vs) k w ≡ es ++ zip (insert ks i k) (insert vs i w)
  filled es ks vs i k w even gap below = behind_entry k w es (zip ks vs) below ∙ ap (λ (l : List (ℕ × V)). es ++ l) (gap_filled ks vs i k w even gap)

  -- ---- entries that rise stay so

  all_without : (P : ℕ → Type 0) (k : ℕ) (es : List (ℕ × V)) → AllByRecursion P (keys_of es) → AllByRecursion P (keys_of (without es k))
  all_without P k [] all = tt
  all_without P k (e ∷ es) all = by (is_at (nat_cmp k) e.0) (all_without P k es all.1)
    where
      by : (b : Bool) → AllByRecursion P (keys_of (without es k)) → AllByRecursion P (keys_of (cond b es (e ∷ without es k)))
      by true more = all.1
      by false more = (all.0, more)

  pub rise_without : (k : ℕ) (es : List (ℕ × V)) → Rise es → Rise (without es k)
  unfolding IsStrictlySortedBy
  rise_without k [] rise = tt
  rise_without k (e ∷ es) rise = by (is_at (nat_cmp k) e.0) (rise_without k es rise.1)
    where
      by : (b : Bool) → Rise (without es k) → Rise (cond b es (e ∷ without es k))
      by true more = rise.1
      by false more = (all_without (λ y. nat_cmp e.0 y ≡ Less) k es rise.0, more)

  all_with : (P : ℕ → Type 0) (k : ℕ) (w : V) (es : List (ℕ × V)) → P k → AllByRecursion P (keys_of es) → AllByRecursion P (keys_of (with_entry es k w))
  all_with P k w [] here all = (here, tt)
  all_with P k w (e ∷ es) here all = by (nat_cmp k e.0) (all_with P k w es here all.1)
    where
      by : (o : Ordering) → AllByRecursion P (keys_of (with_entry es k w)) → AllByRecursion P (keys_of (match_ordering o ((k, w) ∷ e ∷ es) ((e.0, w) ∷ es) (e ∷ with_entry es k w)))
      by Less more = (here, all)
      by Equal more = all
      by Greater more = (all.0, more)

  pub rise_with : (k : ℕ) (w : V) (es : List (ℕ × V)) → Rise es → Rise (with_entry es k w)
  unfolding IsStrictlySortedBy
  rise_with k w [] rise = (tt, tt)
  rise_with k w (e ∷ es) rise = by (nat_cmp k e.0) refl (rise_with k w es rise.1)
    where
      by : (o : Ordering) → nat_cmp k e.0 ≡ o → Rise (with_entry es k w) → Rise (match_ordering o ((k, w) ∷ e ∷ es) ((e.0, w) ∷ es) (e ∷ with_entry es k w))
      by Less is more = ((is, all_less k e.0 (keys_of es) (is_less k e.0 is) rise.0), rise)
      by Equal is more = rise
      by Greater is more = (all_with (λ y. nat_cmp e.0 y ≡ Less) k w es (less e.0 k (is_greater k e.0 is)) rise.0, more)

  pub replaced : (k : ℕ) (w : V) (es : List (ℕ × V)) → Rise es → (v : V) → Some v ≡ at es k → with_value es k w ≡ with_entry es k w
  unfolding IsStrictlySortedBy
  replaced k w [] rise v there = absurd (cc)
  replaced k w (e ∷ es) rise v there = by (nat_cmp k e.0) refl there (replaced k w es rise.1 v)
    where
      by : (o : Ordering) → nat_cmp k e.0 ≡ o → Some v ≡ cond (is_eq o) (Some e.1) (at es k) → (Some v ≡ at es k → with_value es k w ≡ with_entry es k w) → cond (is_eq o) ((e.0, w) ∷ es) (e ∷ with_value es k w) ≡ match_ordering o ((k, w) ∷ e ∷ es) ((e.0, w) ∷ es) (e ∷ with_entry es k w)
      by Less is there more =
          let none : at es k ≡ None = none_at k es (none_above k (keys_of es) (above_by_cmp k (keys_of es) (all_less k e.0 (keys_of es) (is_less k e.0 is) rise.0))) in
          absurd (let bad : Some v ≡ None = there ∙ none in cc)
      by Equal is there more = refl
      by Greater is there more = ap (λ (l : List (ℕ × V)). e ∷ l) (more there)

  pub longer : (k : ℕ) (w : V) (es : List (ℕ × V)) → length (with_entry es k w) ≤ length es + 1
  longer k w [] = omega arith
  longer k w (e ∷ es) = by (nat_cmp k e.0) (longer k w es)
    where
      by : (o : Ordering) → length (with_entry es k w) ≤ length es + 1 → length (match_ordering o ((k, w) ∷ e ∷ es) ((e.0, w) ∷ es) (e ∷ with_entry es k w)) ≤ length (e ∷ es) + 1
      by Less more = omega arith
      by Equal more = omega arith
      by Greater more = omega (arith, more)

  pub shorter : (k : ℕ) (es : List (ℕ × V)) → length (without es k) ≤ length es
  shorter k [] = omega arith
  shorter k (e ∷ es) = by (is_at (nat_cmp k) e.0) (shorter k es)
    where
      by : (b : Bool) → length (without es k) ≤ length es → length (cond b es (e ∷ without es k)) ≤ length (e ∷ es)
      by true more = omega arith
      by false more = omega (arith, more)
