-- The two words of a shutdown: a flag and a count.
-- A waiter holds one share from when it is made until it is dropped, and the notifier holds none. The count is the sum of all shares. The
-- flag is set by the notifier's `shutdown` or drop, by nothing else, and never cleared.
-- Source: the Rust crate's shutdown; what a holder knows is this project's.
use Rattle.std.specs.Prelude.{◌≡◌, ℕ, ◌+◌, ◌<◌, ◌^◌, Bool, true, false, List, [], ◌∷◌}
use mathlib.Core.Option.{some}
use lib.ListN.{get_elem?}
use Rattle.ttrpc_shutdown.specs.declared.rule.Holder.{Holder}

-- 1 for true, and 0 for false
abbrev pub one_if : Bool → ℕ
one_if true = 1
one_if false = 0

-- the sum of all shares
abbrev pub shares_of : List Holder → ℕ
shares_of [] = 0
shares_of (h ∷ hs) = one_if h.shares + shares_of hs

-- The holder is a waiter. It knows of a shutdown only if the notifier knows of it.
pub record IsWaiterOf (notifier h : Holder) : Type 0 where
  pub waits : h.notifies ≡ false
  pub knows : h.knows ≡ true → notifier.knows ≡ true

-- The words of a table with these holders of its seats: the first is the notifier, without a share, and each other is a waiter. The flag is
-- set exactly if the notifier knows, and the count is the sum of all shares, if a word has room for it.
pub record ShutdownWords (words : List ℕ) (holders : List Holder) : Type 0 where
  pub notifier : Holder
  pub others : List Holder
  pub seats : holders ≡ notifier ∷ others
  pub notifies : notifier.notifies ≡ true
  pub no_share : notifier.shares ≡ false
  pub waiters : (seat : ℕ) (h : Holder) → get_elem? others seat ≡ some h → IsWaiterOf notifier h
  pub count : ℕ
  pub two : words ≡ one_if notifier.knows ∷ count ∷ []
  pub sum : shares_of holders < 2 ^ 64 → count ≡ shares_of holders

-- the first word is 1
abbrev pub IsFlagSet : List ℕ → Type 0
IsFlagSet [] = ⊥
IsFlagSet (flag ∷ rest) = flag ≡ 1
