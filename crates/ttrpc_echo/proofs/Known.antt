-- Bytes that may be known: what keeps them, and what adds to them, one after the other.
use Rattle.std.proofs.Common.{◌≡◌, ◌<◌, ℕ, List, [], ◌++◌, length, take, subst, Option, Some, None, refl, sym, ap, ◌∙◌, append_assoc}
use Rattle.std.proofs.lemmas.List.{append-nil}
use Rattle.std.specs.Io.KnownBytes.{Appends, Consumes, IsAtEnd, Keeps}

pub keeps_same : (a : Option (List ℕ)) → Keeps a a
keeps_same None = tt
keeps_same (Some xs) = refl

pub appends_nothing : (a b : Option (List ℕ)) → Appends a b [] → Keeps a b
appends_nothing None b h = tt
appends_nothing (Some xs) None h = absurd h
appends_nothing (Some xs) (Some ys) h = h ∙ append-nil xs

pub keeps_appends_nothing : (a b : Option (List ℕ)) → Keeps a b → Appends a b []
keeps_appends_nothing None b h = tt
keeps_appends_nothing (Some xs) None h = absurd h
keeps_appends_nothing (Some xs) (Some ys) h = h ∙ sym (append-nil xs)

pub appends_twice : (a b c : Option (List ℕ)) (x y : List ℕ) → Appends a b x → Appends b c y → Appends a c (x ++ y)
appends_twice None b c x y h k = tt
appends_twice (Some xs) None c x y h k = absurd h
appends_twice (Some xs) (Some ys) None x y h k = absurd k
appends_twice (Some xs) (Some ys) (Some zs) x y h k = k ∙ ap (λ ws. ws ++ y) h ∙ append_assoc xs x y

pub consumes_nothing : (a : Option (List ℕ)) → Consumes a a []
consumes_nothing None = tt
consumes_nothing (Some xs) = refl

pub consumed_nothing : (a b : Option (List ℕ)) → Consumes a b [] → Keeps a b
consumed_nothing None b h = tt
consumed_nothing (Some xs) None h = absurd h
consumed_nothing (Some xs) (Some ys) h = sym h

pub consumes_kept : (a b c : Option (List ℕ)) (bytes : List ℕ) → Consumes a b bytes → Keeps b c → Consumes a c bytes
consumes_kept None b c bytes h k = tt
consumes_kept (Some xs) None c bytes h k = absurd h
consumes_kept (Some xs) (Some ys) None bytes h k = absurd k
consumes_kept (Some xs) (Some ys) (Some zs) bytes h k = h ∙ ap (λ ws. bytes ++ ws) (sym k)

pub consumes_twice : (a b c : Option (List ℕ)) (x y : List ℕ) → Consumes a b x → Consumes b c y → Consumes a c (x ++ y)
consumes_twice None b c x y h k = tt
consumes_twice (Some xs) None c x y h k = absurd h
consumes_twice (Some xs) (Some ys) None x y h k = absurd k
consumes_twice (Some xs) (Some ys) (Some zs) x y h k = h ∙ ap (λ ws. x ++ ws) k ∙ sym (append_assoc x y zs)

-- a read of nothing found the end
pub read_nothing : (a b : Option (List ℕ)) (n : ℕ) (buffer : List ℕ) → n ≡ 0 → 0 < length buffer → Consumes a b (take n buffer) × (n ≡ 0 → 0 < length buffer → IsAtEnd b) → Consumes a b [] × IsAtEnd b
read_nothing a b n buffer none room h = (subst (λ k. Consumes a b (take k buffer)) none h.0, h.1 none room)
