-- The first bytes of two slices, and what stands behind them.
use Rattle.std.proofs.Common.{arith, length, min, ◌≡◌, ◌≤◌, ◌+◌, ◌-◌, ◌++◌, ℕ, List, [], take, drop, sym, ap, ◌∙◌, length-append, length-take, length-drop, ⊎_elim}
use Rattle.std.proofs.Math.Seq.{take-append-add, drop-append-add}
use Rattle.std.proofs.lemmas.Bool.{cases_lt}
use Rattle.std.proofs.lemmas.List.{take_at, take_all, append-nil, drop_at, take-append-le, drop-append-le, drop_all}

pub front_of_both : (n a : ℕ) (xs ys : List ℕ) → a ≡ min n (length xs) → take a xs ++ take (n - a) ys ≡ take n (xs ++ ys)
front_of_both n a xs ys is = ⊎_elim
    (λ lt. let same : a ≡ n = omega (arith, is, lt) in let none : n - n ≡ 0 = omega arith in rw (same, none) (append-nil (take n xs) ∙ sym (take-append-le n xs ys (omega (arith, lt)))))
    (λ ge. let same : a ≡ length xs = omega (arith, is, ge) in let sum : n ≡ length xs + (n - length xs) = omega (arith, ge) in let whole : length xs ≤ length xs = omega arith in
    rw same (ap (λ l. l ++ take (n - length xs) ys) (take_all (length xs) xs whole) ∙ sym (ap (λ k. take k (xs ++ ys)) sum ∙ take-append-add xs ys (n - length xs))))
    (cases_lt n (length xs))

pub behind_both : (n a : ℕ) (xs ys : List ℕ) → a ≡ min n (length xs) → drop a xs ++ drop (n - a) ys ≡ drop n (xs ++ ys)
behind_both n a xs ys is = ⊎_elim
    (λ lt. let same : a ≡ n = omega (arith, is, lt) in let none : n - n ≡ 0 = omega arith in rw (same, none) (sym (drop-append-le n xs ys (omega (arith, lt)))))
    (λ ge. let same : a ≡ length xs = omega (arith, is, ge) in let sum : n ≡ length xs + (n - length xs) = omega (arith, ge) in let whole : length xs ≤ length xs = omega arith in
    rw same (ap (λ l. l ++ drop (n - length xs) ys) (drop_all (length xs) xs whole) ∙ sym (ap (λ k. drop k (xs ++ ys)) sum ∙ drop-append-add xs ys (n - length xs))))
    (cases_lt n (length xs))

-- a buffer that two slices fill, one behind the other
pub copied_both : (xs ys b front back : List ℕ) (a c : ℕ) → a ≡ min (length b) (length xs) → front ≡ take a xs ++ drop a b → c ≡ min (length (drop a front)) (length ys) → back ≡ take c ys ++ drop c (drop a front)
    → length b ≤ length xs + length ys → take a front ++ back ≡ take (length b) (xs ++ ys)
copied_both xs ys b front back a c a_is front_is c_is back_is fits =
    let both = length-append xs ys in
    let size : length (take a xs) ≡ a = simp length-take (omega (arith, a_is)) in
    let first : take a front ≡ take a xs = ap (take a) front_is ∙ take_at (take a xs) (drop a b) a size in
    let left : drop a front ≡ drop a b = ap (drop a) front_is ∙ drop_at (take a xs) (drop a b) a size in
    let left_len = ap length left in
    let left_is = length-drop a b in
    let rest_is : c ≡ length b - a = omega (arith, c_is, left_len, left_is, fits, both, a_is) in
    let none : drop c (drop a front) ≡ [] = drop_all c (drop a front) (omega (arith, left_len, left_is, rest_is)) in
    let back_only : back ≡ take c ys = back_is ∙ ap (λ l. take c ys ++ l) none ∙ append-nil (take c ys) in
    ap (λ l. take a front ++ l) back_only ∙ ap (λ l. l ++ take c ys) first ∙ ap (λ k. take a xs ++ take k ys) rest_is ∙ front_of_both (length b) a xs ys a_is
