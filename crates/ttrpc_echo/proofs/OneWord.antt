-- Lists of one word, of two, and of six.
use Rattle.std.proofs.Common.{◌≡◌, ℕ, ◌<◌, ◌≤◌, List, [], ◌∷◌, length, map, get_or, arith, ap, sym, ◌∙◌}

pub only_word : {X : Type 0} (f : X → List ℕ) (xs : List X) (x : X) → 1 ≤ length xs → length xs < 2 → x ≡ get_or xs 0 x → map f xs ≡ f x ∷ []
only_word f [] x some few is = absurd (omega (arith, some))
only_word f (y ∷ []) x some few is = ap (λ z. f z ∷ []) (sym is)
only_word f (y ∷ z ∷ ys) x some few is = absurd (omega (arith, few))

pub same_word : (x y : List ℕ) → x ∷ [] ≡ y ∷ [] → x ≡ y
same_word x y e = cc

pub two_words : {X : Type 0} (f : X → List ℕ) (xs : List X) (x y : X) → 2 ≤ length xs → length xs < 3 → x ≡ get_or xs 0 x → y ≡ get_or xs 1 y → map f xs ≡ f x ∷ f y ∷ []
two_words f [] x y some few first second = absurd (omega (arith, some))
two_words f (a ∷ []) x y some few first second = absurd (omega (arith, some))
two_words f (a ∷ b ∷ []) x y some few first second = ap (λ z. f z ∷ f b ∷ []) (sym first) ∙ ap (λ z. f x ∷ f z ∷ []) (sym second)
two_words f (a ∷ b ∷ c ∷ xs) x y some few first second = absurd (omega (arith, few))

pub six_words : {X : Type 0} (f : X → List ℕ) (xs : List X) (x y z u v w : X) → 6 ≤ length xs → length xs < 7 →
    x ≡ get_or xs 0 x → y ≡ get_or xs 1 y → z ≡ get_or xs 2 z → u ≡ get_or xs 3 u → v ≡ get_or xs 4 v → w ≡ get_or xs 5 w →
    map f xs ≡ f x ∷ f y ∷ f z ∷ f u ∷ f v ∷ f w ∷ []
six_words f [] x y z u v w some few e0 e1 e2 e3 e4 e5 = absurd (omega (arith, some))
six_words f (a ∷ []) x y z u v w some few e0 e1 e2 e3 e4 e5 = absurd (omega (arith, some))
six_words f (a ∷ b ∷ []) x y z u v w some few e0 e1 e2 e3 e4 e5 = absurd (omega (arith, some))
six_words f (a ∷ b ∷ c ∷ []) x y z u v w some few e0 e1 e2 e3 e4 e5 = absurd (omega (arith, some))
six_words f (a ∷ b ∷ c ∷ d ∷ []) x y z u v w some few e0 e1 e2 e3 e4 e5 = absurd (omega (arith, some))
six_words f (a ∷ b ∷ c ∷ d ∷ e ∷ []) x y z u v w some few e0 e1 e2 e3 e4 e5 = absurd (omega (arith, some))
six_words f (a ∷ b ∷ c ∷ d ∷ e ∷ g ∷ []) x y z u v w some few e0 e1 e2 e3 e4 e5 = cc
six_words f (a ∷ b ∷ c ∷ d ∷ e ∷ g ∷ h ∷ xs) x y z u v w some few e0 e1 e2 e3 e4 e5 = absurd (omega (arith, few))

-- lists of two words whose first differ
pub first_of_two : (x y z w : List ℕ) → x ∷ y ∷ [] ≡ z ∷ w ∷ [] → x ≡ z
first_of_two x y z w e = cc

-- six words, told by others that are the same
pub same_six : {ws : List (List ℕ)} {a b c d e f a' b' c' d' e' f' : List ℕ} → ws ≡ a ∷ b ∷ c ∷ d ∷ e ∷ f ∷ [] → a ≡ a' → b ≡ b' → c ≡ c' → d ≡ d' → e ≡ e' → f ≡ f' →
    ws ≡ a' ∷ b' ∷ c' ∷ d' ∷ e' ∷ f' ∷ []
same_six ws a b c d e f = cc
