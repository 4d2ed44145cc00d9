-- Metadata, as a map of the code has it.
use Rattle.std.proofs.Common.{arith, length, ◌≡◌, ℕ, Bool, true, false, cond, ◌++◌, List, [], ◌∷◌, map, Option, Some, None, String, Vec, string_bytes, refl, sym, ap, ◌∙◌}
use Rattle.std.specs.BTreeMap.{BTreeMap, get_by_text, is_at}
use Rattle.std.specs.BTreeMap as tree
use Rattle.std.specs.Map.{lookup, set_value, update}
use Rattle.std.specs.Option.{option_map, unwrap_or}
use Rattle.std.specs.Str.{bytes_eq}
use Rattle.std.specs.String.{string_cmp}
use Rattle.std.proofs.lemmas.Cmp.{nat_list_eq_equiv}
use Rattle.std.proofs.lemmas.List.{map-append}
use Rattle.std.proofs.lemmas.Option.{same_Some}
use Rattle.std.proofs.lemmas.Map.Text.{btree_map_updates_text, is_eq-slice_cmp, text_cmp}
use Rattle.ttrpc_message.specs.Metadata.{Adds, Sets, seen, some_texts, texts, texts_of}

mapped : {X Z : Type 0} (f : X → Z) (b : Bool) (x : X) (o : Option X) (p : Option Z) → p ≡ option_map f o → cond b (Some (f x)) p ≡ option_map f (cond b (Some x) o)
mapped f true x o p e = refl
mapped f false x o p e = e

chosen : {X Z : Type 0} (f : X → Z) (b : Bool) (v o : Option X) → option_map f (cond b v o) ≡ cond b (option_map f v) (option_map f o)
chosen f true v o = refl
chosen f false v o = refl

module _ {Y : Type 0} where
  -- the texts of a key are those that the map has under it
  stored : (k : List ℕ) (entries : List (String Y × Vec (String Y) Y)) → texts_of (seen entries) k ≡ option_map texts (lookup (is_at (text_cmp k)) entries)
  stored k [] = refl
  stored k (e ∷ es) = rw (is_eq-slice_cmp k (string_bytes e.0)) (mapped texts (bytes_eq k (string_bytes e.0)) e.1 _ _ (stored k es))

  -- one entry is put, or taken away
  pub sets : (old new : BTreeMap (String Y) (Vec (String Y) Y)) (key : List ℕ) (v : Option (Vec (String Y) Y)) → tree.UpdatesBy string_cmp (text_cmp key) old new v
      → Sets (seen old.entries) key (option_map texts v) (seen new.entries)
  sets old new key v updates k =
      let at : get_by_text new k ≡ update bytes_eq (get_by_text old) key v k = btree_map_updates_text key old new v updates k in
      rw (nat_list_eq_equiv.symm k key, stored k new.entries, stored k old.entries, at) (chosen texts (bytes_eq key k) v (get_by_text old k))

  -- a list of texts is put where it has some
  no_texts : (items : List (String Y)) → length items ≡ 0 → some_texts (map string_bytes items) ≡ None
  no_texts [] none = refl
  no_texts (t ∷ ts) none = absurd (omega (arith, none))

  pub none_put : (vec : Vec (String Y) Y) → length vec.items ≡ 0 → some_texts (texts vec) ≡ None
  none_put vec none = no_texts vec.items none

  some_put : (items : List (String Y)) → (items ≡ [] → ⊥) → some_texts (map string_bytes items) ≡ Some (map string_bytes items)
  some_put [] some = absurd (some refl)
  some_put (t ∷ ts) some = refl

  pub vec_put : (vec : Vec (String Y) Y) → (vec.items ≡ [] → ⊥) → some_texts (texts vec) ≡ Some (texts vec)
  vec_put vec some = some_put vec.items some

  set_here : (b : Bool) (k : List ℕ) (e : String Y × Vec (String Y) Y) (es rest : List (String Y × Vec (String Y) Y)) (old new : Vec (String Y) Y) → is_at (text_cmp k) e.0 ≡ b
      → cond b (Some e.1) (lookup (is_at (text_cmp k)) es) ≡ Some old → texts new ≡ texts old → (lookup (is_at (text_cmp k)) es ≡ Some old → seen rest ≡ seen es)
      → seen (cond b ((e.0, new) ∷ es) (e ∷ rest)) ≡ seen (e ∷ es)
  set_here true k e es rest old new at found same more =
      let is : e.1 ≡ old = same_Some e.1 old found in
      ap (λ ts. (string_bytes e.0, ts) ∷ seen es) (same ∙ ap texts (sym is))
  set_here false k e es rest old new at found same more = ap (λ m. (string_bytes e.0, texts e.1) ∷ m) (more found)

  -- the same texts are put where they were
  pub same_set : (k : List ℕ) (entries : List (String Y × Vec (String Y) Y)) (old new : Vec (String Y) Y) → lookup (is_at (text_cmp k)) entries ≡ Some old → texts new ≡ texts old
      → seen (set_value (is_at (text_cmp k)) entries new) ≡ seen entries
  same_set k [] old new found same = refl
  same_set k (e ∷ es) old new found same = set_here (is_at (text_cmp k) e.0) k e es (set_value (is_at (text_cmp k)) es new) old new refl found same (λ more. same_set k es old new more same)

  -- a text is put behind those of its key
  pub adds : (old new : BTreeMap (String Y) (Vec (String Y) Y)) (key value : List ℕ) (found : Option (Vec (String Y) Y)) (vec : Vec (String Y) Y) → get_by_text old key ≡ found
      → texts vec ≡ unwrap_or (option_map texts found) [] ++ value ∷ [] → tree.UpdatesBy string_cmp (text_cmp key) old new (Some vec) → Adds (seen old.entries) key value (seen new.entries)
  adds old new key value found vec at is updates =
      let put = sets old new key (Some vec) updates in
      let was : texts_of (seen old.entries) key ≡ option_map texts found = stored key old.entries ∙ ap (option_map texts) at in
      rw (was, ← is) put

  pub one_more : (xs ys : List (String Y)) (s : String Y) → ys ≡ xs ++ s ∷ [] → map string_bytes ys ≡ map string_bytes xs ++ string_bytes s ∷ []
  one_more xs ys s is = ap (map string_bytes) is ∙ map-append string_bytes xs (s ∷ [])
