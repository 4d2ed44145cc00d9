-- The names of a registry, as its maps have them.
use Rattle.ttrpc_server.proofs.Words.{rules, ◌≡◌, ℕ, Bool, true, false, cond, ◌&&◌, List, [], ◌∷◌, map, Option, Some, None, String, string_bytes, refl, sym, ap, ◌∙◌, BTreeMap, get_by_text, is_at, list_any, lookup, set_value, update, btree_map_updates_text, is_eq-slice_cmp, text_cmp, AddsName, AddsService, Names, has_name, is_some, knows}
use Rattle.std.proofs.Common.{◌||◌}
use Rattle.std.specs.BTreeSet.{BTreeSet, contains_text}
use Rattle.std.specs.BTreeMap as tree
use Rattle.std.specs.Option.{option_map_or}
use Rattle.std.specs.Str.{bytes_eq}
use Rattle.std.specs.String.{string_cmp}
use Rattle.std.proofs.lemmas.Cmp.{nat_list_eq_equiv}
use Rattle.std.proofs.lemmas.Map.Steps.{set_value_same}
use Rattle.std.proofs.lemmas.Slice.Eq.{bytes_eq-Decides}

either : {X Z : Type 0} (f : X → Bool) (g : Z → Bool) (b : Bool) (x : X) (z : Z) (o : Option X) (p : Option Z) → f x ≡ g z → option_map_or f o false ≡ option_map_or g p false
    → option_map_or f (cond b (Some x) o) false ≡ option_map_or g (cond b (Some z) p) false
either f g true x z o p one more = one
either f g false x z o p one more = more

or_is : (a b : Bool) → cond a true b ≡ (a || b)
or_is true b = refl
or_is false b = refl

some_of : {X Z : Type 0} (b : Bool) (x : X) (z : Z) (o : Option X) (p : Option Z) → is_some o ≡ is_some p → is_some (cond b (Some x) o) ≡ is_some (cond b (Some z) p)
some_of true x z o p more = refl
some_of false x z o p more = more

-- a service that is there was there before
known_twice : (b : Bool) (s service : List ℕ) (known : List ℕ → Bool) → bytes_eq s service ≡ b → known service ≡ true → known s ≡ (b || known s)
known_twice true s service known e there = let same : s ≡ service = search (rules, bytes_eq-Decides) in rw same there
known_twice false s service known e there = refl

module _ {Y : Type 0} where
  -- the names that a map has
  abbrev pub seen : List (String Y × BTreeSet (String Y)) → Names
  seen entries = map (λ e. (string_bytes e.0, map string_bytes e.1.keys)) entries

  -- the same by the map's own words
  abbrev found : Option (BTreeSet (String Y)) → List ℕ → Bool
  found names n = option_map_or (λ x. contains_text x n) names false

  keys_have : (n : List ℕ) (keys : List (String Y)) → list_any (bytes_eq n) (map string_bytes keys) ≡ list_any (is_at (text_cmp n)) keys
  keys_have n [] = refl
  keys_have n (k ∷ ks) = rw (is_eq-slice_cmp n (string_bytes k), keys_have n ks) refl

  pub stored : (s n : List ℕ) (entries : List (String Y × BTreeSet (String Y))) → has_name (seen entries) s n ≡ found (lookup (is_at (text_cmp s)) entries) n
  stored s n [] = refl
  stored s n (e ∷ es) = rw (is_eq-slice_cmp s (string_bytes e.0))
      (either (λ names. list_any (bytes_eq n) names) (λ names. contains_text names n) (bytes_eq s (string_bytes e.0)) (map string_bytes e.1.keys) e.1 _ _ (keys_have n e.1.keys) (stored s n es))

  more : (b : Bool) (s service name n : List ℕ) (f : List ℕ → Option (BTreeSet (String Y))) (names : BTreeSet (String Y)) → bytes_eq service s ≡ b
      → contains_text names n ≡ cond (bytes_eq name n) true (found (f service) n) → found (cond b (Some names) (f s)) n ≡ ((b && bytes_eq name n) || found (f s) n)
  more true s service name n f names e has = let same : service ≡ s = search (rules, bytes_eq-Decides) in rw (has, same) (or_is (bytes_eq name n) (found (f s) n))
  more false s service name n f names e has = refl

  pub one_more : (old new : BTreeMap (String Y) (BTreeSet (String Y))) (service name : List ℕ) (names : BTreeSet (String Y)) → tree.UpdatesBy string_cmp (text_cmp service) old new (Some names)
      → ((n : List ℕ) → contains_text names n ≡ cond (bytes_eq name n) true (found (get_by_text old service) n)) → AddsName (seen old.entries) service name (seen new.entries)
  one_more old new service name names updates has s n =
      let at : get_by_text new s ≡ update bytes_eq (get_by_text old) service (Some names) s = btree_map_updates_text service old new (Some names) updates s in
      rw (nat_list_eq_equiv.symm s service, nat_list_eq_equiv.symm n name, stored s n new.entries, stored s n old.entries, at) (more (bytes_eq service s) s service name n (get_by_text old) names refl (has n))

  pub as_before : (old new : BTreeMap (String Y) (BTreeSet (String Y))) (service : List ℕ) (names same : BTreeSet (String Y)) → get_by_text old service ≡ Some names → same.keys ≡ names.keys
      → new.entries ≡ set_value (is_at (text_cmp service)) old.entries same → seen new.entries ≡ seen old.entries
  as_before old new service names same at keys set = ap seen (set ∙ set_value_same (is_at (text_cmp service)) old.entries same (at ∙ ap (λ (k : List (String Y)). Some (record { keys = k })) (sym keys)))

  -- the same for services
  pub stored_service : (s : List ℕ) (entries : List (String Y × BTreeSet (String Y))) → knows (seen entries) s ≡ is_some (lookup (is_at (text_cmp s)) entries)
  stored_service s [] = refl
  stored_service s (e ∷ es) = rw (is_eq-slice_cmp s (string_bytes e.0))
      (some_of (bytes_eq s (string_bytes e.0)) (map string_bytes e.1.keys) e.1 _ _ (stored_service s es))

  known_more : (b : Bool) (names : BTreeSet (String Y)) (o : Option (BTreeSet (String Y))) → is_some (cond b (Some names) o) ≡ (b || is_some o)
  known_more true names o = refl
  known_more false names o = refl

  pub one_service : (old new : BTreeMap (String Y) (BTreeSet (String Y))) (service : List ℕ) (names : BTreeSet (String Y)) → tree.UpdatesBy string_cmp (text_cmp service) old new (Some names)
      → AddsService (seen old.entries) service (seen new.entries)
  one_service old new service names updates s =
      let at : get_by_text new s ≡ update bytes_eq (get_by_text old) service (Some names) s = btree_map_updates_text service old new (Some names) updates s in
      rw (nat_list_eq_equiv.symm s service, stored_service s new.entries, stored_service s old.entries, at) (known_more (bytes_eq service s) names (get_by_text old s))

  pub same_service : (old : BTreeMap (String Y) (BTreeSet (String Y))) (service : List ℕ) → is_some (get_by_text old service) ≡ true → AddsService (seen old.entries) service (seen old.entries)
  same_service old service there s = known_twice (bytes_eq s service) s service (knows (seen old.entries)) refl (stored_service service old.entries ∙ there)

  -- a service without names has none
  no_more : (b : Bool) (n : List ℕ) (names : BTreeSet (String Y)) (o : Option (BTreeSet (String Y))) → contains_text names n ≡ false → (b ≡ true → o ≡ None) → found (cond b (Some names) o) n ≡ found o n
  no_more true n names o none fresh = rw (fresh refl) none
  no_more false n names o none fresh = refl

  pub no_names : (old new : BTreeMap (String Y) (BTreeSet (String Y))) (service : List ℕ) (names : BTreeSet (String Y)) → tree.UpdatesBy string_cmp (text_cmp service) old new (Some names) → names.keys ≡ []
      → get_by_text old service ≡ None → (s n : List ℕ) → has_name (seen new.entries) s n ≡ has_name (seen old.entries) s n
  no_names old new service names updates empty none s n =
      let at : get_by_text new s ≡ update bytes_eq (get_by_text old) service (Some names) s = btree_map_updates_text service old new (Some names) updates s in
      rw (stored s n new.entries, stored s n old.entries, at) (no_more (bytes_eq service s) n names (get_by_text old s) (rw empty refl)
      (λ e. let same : service ≡ s = search (rules, bytes_eq-Decides) in rw (← same) none))
