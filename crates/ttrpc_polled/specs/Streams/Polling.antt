-- The effect of a poll of a call on the core, under the lock: the call's one step, or its first two.
-- Source: this project's.
use Rattle.std.specs.Prelude.{◌≡◌, ◌⊎◌, Bool, true, false, Option, Some, None, IsSome}
use Rattle.futures.specs.declared.task.Poll.{Poll}
use Rattle.futures.specs.declared.task.Poll.TheVariants.{Pending, Ready}

-- the answer of a poll, if it is ready
abbrev pub answer_of : {A : Type 0} → Poll A → Option A
answer_of (Ready answer) = Some answer
answer_of Pending = None

-- A call of a core was polled. A call that was begun before makes a step; a new call makes its first step. If that found no room, the call
-- waits for some, and is still new; if it had no answer, the call makes the next step, too.
abbrev pub Polls : {C S A : Type 0} → (S → Bool) → (S → S → Type 0) → (C → S → Option A → S → C → Type 0) → C → S → Poll A → S → C → Type 0
Polls {C} {S} is_new waits steps old call polled after new =
    ((is_new call ≡ false) × steps old call (answer_of polled) after new)
    ⊎ ((is_new call ≡ true) × IsSome (answer_of polled) × steps old call (answer_of polled) after new)
    ⊎ ((is_new call ≡ true) × (polled ≡ Pending) × ((mid : S) × (is_new mid ≡ true) × steps old call None mid new × waits mid after))
    ⊎ ((is_new call ≡ true) × ((mid : S) × (between : C) × (is_new mid ≡ false) × steps old call None mid between × steps between mid (answer_of polled) after new))
