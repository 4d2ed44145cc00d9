-- How long so many zeros are.
use Rattle.std.proofs.Common.{◌≡◌, ◌<◌, ◌≤◌, ◌-◌, ◌^◌, ◌∙◌, ℕ, ap, arith, length, min, sym}
use Rattle.std.proofs.Math.Nat.{min-eq_left, min-eq_right}
use Rattle.std.proofs.lemmas.List.{length-replicate}
use Rattle.ttrpc_test_facade.specs.Huge.{zeros}

pub short_size : (n : ℕ) → n < 2 ^ 32 → n ≡ min (length (zeros n)) (2 ^ 32 - 1)
short_size n short = sym (ap (λ k. min k (2 ^ 32 - 1)) (length-replicate {A = ℕ} n 0) ∙ min-eq_left (omega (arith, short)))

pub long_size : (n : ℕ) → 2 ^ 32 ≤ n → 2 ^ 32 - 1 ≡ min (length (zeros n)) (2 ^ 32 - 1)
long_size n long = sym (ap (λ k. min k (2 ^ 32 - 1)) (length-replicate {A = ℕ} n 0) ∙ min-eq_right (omega (arith, long)))

pub long_form : (n : ℕ) → 2 ^ 32 ≤ n → 2 ^ 32 ≤ length (zeros n)
long_form n long = omega (arith, length-replicate {A = ℕ} n 0, long)
