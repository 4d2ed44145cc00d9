-- The rule of the table of a shutdown, and how each kind of step changes its holder's seat.
-- Source: this project's.
use Rattle.std.specs.Prelude.{◌≡◌, ℕ, ◌%◌, ◌^◌, ◌==◌, Bool, true, false, List, [], ◌∷◌, ◌⊎◌, Option, Some, None}
use mathlib.Core.Option.{some}
use lib.ListN.{get_elem?}
use Rattle.atomic_table.specs.Table.{Act, Me, State, Step, stepped}
use Rattle.ttrpc_shutdown.specs.declared.rule.Holder.{Holder}
use Rattle.ttrpc_shutdown.specs.ShutdownWords.{shares_of}

-- a holder: whether it is the notifier, has a share, and knows that the flag is set, and the count that it read last
abbrev pub holder : Bool → Bool → Bool → Option ℕ → Holder
holder notifies shares knows saw = record { notifies = notifies; shares = shares; knows = knows; saw = saw }

-- the notifier at the start, which has no share, hasn't set the flag and has read nothing
abbrev pub the_notifier : Holder
the_notifier = holder true false false None

-- a waiter with a new seat: without a share so far, it knows what its parent knows, and has read no count
abbrev pub newcomer : Holder → Holder
newcomer parent = holder false false parent.knows None

-- the first seat is the notifier's
abbrev pub IsLed : List Holder → Type 0
IsLed [] = ⊥
IsLed (h ∷ hs) = h.notifies ≡ true

-- The holder of a seat fits the flag: it knows only of a flag that is set. A notifier has the first seat and no share, and knows of the
-- flag if it is set.
pub record Fits (flag seat : ℕ) (h : Holder) : Type 0 where
  pub set : h.knows ≡ true → flag ≡ 1
  pub first : h.notifies ≡ true → seat ≡ 0
  pub no_share : h.notifies ≡ true → h.shares ≡ false
  pub told : h.notifies ≡ true → flag ≡ 1 → h.knows ≡ true

-- The rule: the flag is 0 or 1, the count is the sum of the shares modulo 2^64, and each seat fits the flag.
pub record IsKept (words : List ℕ) (holders : List Holder) : Type 0 where
  pub flag : ℕ
  pub count : ℕ
  pub two : words ≡ flag ∷ count ∷ []
  pub bit : (flag ≡ 0) ⊎ (flag ≡ 1)
  pub sum : count ≡ shares_of holders % 2 ^ 64
  pub led : IsLed holders
  pub each : (seat : ℕ) (h : Holder) → get_elem? holders seat ≡ some h → Fits flag seat h

-- ---- the kinds of step: a step of this seat, which found the number n in its word, and the seat after it

-- a table that has only words, without anything else in it
abbrev pub Counted : Type 0
Counted = State (Unit {0}) Holder

-- a seat at such a table: the state of its holder, and the slots that it has taken
abbrev pub Seated : Type 0
Seated = Me (Unit {0}) Holder

-- a kind of step: the changes that it may make
abbrev pub Kind : Type 1
Kind = Step (Unit {0}) → Seated → ℕ → Seated → Type 0

-- the holder has a share from now on
abbrev pub Shares : Kind
Shares step me n after = after ≡ (holder me.0.notifies true me.0.knows me.0.saw, me.1)

-- the holder has no share from now on
abbrev pub Leaves : Kind
Leaves step me n after = after ≡ (holder me.0.notifies false me.0.knows me.0.saw, me.1)

-- a holder that sets the flag knows that it is set
abbrev pub Sets : Kind
Sets step me n after = after ≡ (holder me.0.notifies me.0.shares true me.0.saw, me.1)

-- A holder that looks at the flag knows exactly if it is set. A holder that knew of the flag finds it set, and a notifier finds it as it
-- knew it.
pub record Looks (step : Step (Unit {0})) (me : Seated) (n : ℕ) (after : Seated) : Type 0 where
  pub seat : after ≡ (holder me.0.notifies me.0.shares (n == 1) me.0.saw, me.1)
  pub again : me.0.knows ≡ true → n ≡ 1
  pub same : me.0.notifies ≡ true → (n == 1) ≡ me.0.knows

-- a holder that looks at the count has read this number, and learns nothing of the flag
abbrev pub Counts : Kind
Counts step me n after = after ≡ (holder me.0.notifies me.0.shares me.0.knows (Some n), me.1)

-- one of these kinds of step
abbrev pub IsStep : Kind
IsStep step me n after = Shares step me n after ⊎ Leaves step me n after ⊎ Sets step me n after ⊎ Looks step me n after ⊎ Counts step me n after

-- the table t is the table s after one step of a seat; its holder was `me` before and is `after` now
pub record Follows (s : Counted) (me after : Seated) (t : Counted) : Type 0 where
  pub seat : ℕ
  pub there : get_elem? s.views seat ≡ some me.0
  pub step : Step (Unit {0})
  pub found : ℕ
  pub kind : IsStep step me found after
  pub word : ℕ
  pub now : ℕ
  pub act : Act (Unit {0})
  pub state : t ≡ stepped s word now seat me.1 after.0 act
