-- Ids that are listed.
use Rattle.ttrpc_connection.proofs.Words.{rules, ◌≡◌, ℕ, List, [], ◌∷◌, true, false, refl, sym, is_at, list_any, nat_cmp, nat_cmp_is, Equal}
use Rattle.std.proofs.lemmas.Cmp.{by_ranked, ranked}
use Rattle.std.specs.BTreeSet.{insert_key}
use Rattle.std.specs.Set.{remove_key}

same_place : (k : ℕ) → nat_cmp k k ≡ Equal
same_place k = sym (nat_cmp_is k k Equal refl)

-- an id that wasn't listed, was put in and taken out again leaves the list as it was
pub unlisted : (k : ℕ) (ks : List ℕ) → list_any (is_at (nat_cmp k)) ks ≡ false → remove_key (is_at (nat_cmp k)) (insert_key nat_cmp ks k) ≡ ks
unlisted k [] h = rw (same_place k) refl
unlisted k (x ∷ xs) h = by_ranked _ _ _ (nat_cmp k x) (ranked k x _ refl) (λ q _. rw (q, same_place k) refl)
    (λ q _. let bad : true ≡ false = rw q at h in cc) (λ q _. rw (q, q, unlisted k xs (rw q at h)) refl)
