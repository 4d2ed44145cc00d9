-- Paths: the last slash divides.
use Rattle.std.proofs.Common.{arith, ◌≡◌, ◌≢◌, ℕ, ◌+◌, ◌<◌, ◌≤◌, List, [], ◌∷◌, ◌++◌, length, get_or, take, drop, Option, Some, None, Bor, MatchOption, codes, append_assoc, nat_eq, lit<, refl, sym, ap, ◌∙◌}
use Rattle.std.specs.List.{All}
use Rattle.std.specs.Str.{NoCharPasses}
use Rattle.std.specs.Str.Pattern.{RFindsChar}
use Rattle.std.proofs.lemmas.Grind.{common_steps}
use Rattle.std.proofs.lemmas.List.{get_or_default, take-append-drop}
use Rattle.std.proofs.lemmas.Str.Pattern.{NoCharPasses-char, drop_at_char}
use Rattle.ttrpc_server.specs.Methods.{IsNoPath, IsPath}

at_place : (xs : List ℕ) (c : ℕ) (ys : List ℕ) → get_or (xs ++ c ∷ ys) (length xs) 0 ≡ c
at_place [] c ys = refl
at_place (x ∷ xs) c ys = at_place xs c ys

no_slash : (rest : List ℕ) → NoCharPasses (λ d. nat_eq d 47) rest → (service method : List ℕ) → rest ≢ service ++ 47 ∷ method
no_slash rest none service method is =
    let within : length service < length rest = grind (arith, common_steps, is) in
    NoCharPasses-char 47 rest (length service) none (lit< tt) within (ap (λ xs. get_or xs (length service) 0) is ∙ at_place service 47 method)

tail_is : (rest service method : List ℕ) → 47 ∷ rest ≡ codes "/" ++ service ++ codes "/" ++ method → rest ≡ service ++ 47 ∷ method
tail_is rest service method is =
    let tail : rest ≡ (service ++ codes "/") ++ method = cc in
    rw append_assoc at tail

-- a text that doesn't begin with a slash
pub unslashed : (path : List ℕ) → ((rest : List ℕ) → path ≢ 47 ∷ rest) → IsNoPath path
unslashed path none service method p = none _ p.whole

plain : (method : List ℕ) → NoCharPasses (λ d. nat_eq d 47) method → All (λ c. c ≢ 47) method
plain method none k d within is = NoCharPasses-char 47 method k none (lit< tt) within (get_or_default method k 0 d within ∙ is)

whole : (rest : List ℕ) (i j : ℕ) → drop i rest ≡ 47 ∷ drop j rest → 47 ∷ rest ≡ codes "/" ++ take i rest ++ codes "/" ++ drop j rest
whole rest i j at = ap (λ xs. 47 ∷ xs) (sym (take-append-drop i rest) ∙ ap (λ xs. take i rest ++ xs) at ∙ sym (append_assoc (take i rest) (codes "/") (drop j rest)))

-- a text that does: its last slash divides what is behind the first
pub divided : (path rest : List ℕ) (r : Option (Bor (List ℕ) × Bor (List ℕ))) → path ≡ 47 ∷ rest
    → MatchOption r (RFindsChar 47 rest None) (λ x. (i : ℕ) × (j : ℕ) × RFindsChar 47 rest (Some (i, j)) × (x.0.now ≡ take i rest) × (x.1.now ≡ drop j rest) × (i ≤ j) × (length x.0.now ≡ i) × (length x.1.now + j ≡ length rest))
    → MatchOption r (IsNoPath path) (λ parts. IsPath path parts.0.now parts.1.now)
divided path rest None is none = λ service method p. no_slash rest none service method (tail_is rest service method (sym is ∙ p.whole))
divided path rest (Some x) is h =
    let found = h.2 in
    record {
      whole = rw (is, h.3, h.4) (whole rest h.0 h.1 (drop_at_char 47 rest h.0 h.1 found.1 (lit< tt)));
      plain = rw h.4 (plain (drop h.1 rest) found.0);
    }
