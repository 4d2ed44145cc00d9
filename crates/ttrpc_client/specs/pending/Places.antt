-- Pending calls as contracts see them: places by rising id, each with its call, or empty.
-- Source: this project's, in the words of std's ordered map.
use Rattle.std.specs.Prelude.{◌≡◌, ◌≤◌, ◌*◌, ◌+◌, ℕ, List, [], ◌∷◌, Option, Some, None, Bool, false, is_some, length, slice_get}
use Rattle.std.specs.BTreeMap.{is_at}
use Rattle.std.specs.List.Sorted.{IsStrictlySortedBy}
use Rattle.std.specs.Map.{keys_of, lookup}
use Rattle.std.specs.Option.{is_none}
use Rattle.std.specs.Ordering.{nat_cmp}

-- Holds if the ids rise.
abbrev pub Rise : {X : Type 0} → List (ℕ × X) → Type 0
Rise pairs = IsStrictlySortedBy nat_cmp (keys_of pairs)

module _ {X : Type 0} where
  -- Returns the entries with one in front, or without it if its place is empty.
  abbrev pub entry_before : ℕ → Option X → List (ℕ × X) → List (ℕ × X)
  entry_before id None entries = entries
  entry_before id (Some call) entries = (id, call) ∷ entries

  -- Returns the entries: the id and the call of each place that isn't empty.
  abbrev pub entries_in : List (ℕ × Option X) → List (ℕ × X)
  entries_in [] = []
  entries_in (p ∷ places) = entry_before p.0 p.1 (entries_in places)

  -- Returns the call of an id, if there is one.
  abbrev pub call_of : List (ℕ × Option X) → ℕ → Option X
  call_of places id = lookup (is_at (nat_cmp id)) (entries_in places)

  -- Returns the call at a place, if there is one.
  abbrev pub standing : Option (ℕ × Option X) → Option X
  standing None = None
  standing (Some p) = p.1

  -- Returns the call at the place of this number, if there is one.
  abbrev pub call_there : List (ℕ × Option X) → ℕ → Option X
  call_there places place = standing (slice_get places place)

  -- Holds if the entry of an id is at this place.
  abbrev pub IsPlaceOf : List (ℕ × Option X) → ℕ → ℕ → Type 0
  IsPlaceOf places id place = (call : X) × (slice_get places place ≡ Some (id, Some call)) × (call_of places id ≡ Some call)

  -- Returns true if a place isn't empty.
  abbrev pub is_taken : ℕ × Option X → Bool
  is_taken p = is_some p.1

  -- Returns true if the last place is empty.
  abbrev pub ends_empty : List (ℕ × Option X) → Bool
  ends_empty [] = false
  ends_empty (p ∷ []) = is_none p.1
  ends_empty (p ∷ q ∷ places) = ends_empty (q ∷ places)

  -- Holds if places have the properties of those of every `Pending`: their ids rise, the last isn't empty, and they are at most one more
  -- than twice the entries.
  pub record ArePlaces (places : List (ℕ × Option X)) : Type 0 where
    pub rise : Rise places
    pub last : ends_empty places ≡ false
    pub few : length places ≤ 2 * length (entries_in places) + 1

  -- Holds if these are the same entries, in no more places, and the last place isn't empty.
  pub record IsTrimmed (old new : List (ℕ × Option X)) : Type 0 where
    pub entries : entries_in new ≡ entries_in old
    pub rise : Rise old → Rise new
    pub last : ends_empty new ≡ false
    pub few : length new ≤ length old
