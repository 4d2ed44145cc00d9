-- The pairs of a map, whose keys differ: each key has its texts again.
use Rattle.std.proofs.Common.{rules, ◌≡◌, ◌++◌, ℕ, Bool, true, false, cond, List, [], ◌∷◌, map, filter, Option, Some, String, Vec, string_bytes, refl, sym, ap, ◌∙◌}
use Rattle.std.specs.List.{AllByRecursion}
use Rattle.std.specs.List.Sorted.{IsStrictlySortedBy}
use Rattle.std.specs.Map.{keys_of}
use Rattle.std.specs.Option.{unwrap_or}
use Rattle.std.specs.Ordering.{is_eq}
use Rattle.std.specs.Str.{bytes_eq}
use Rattle.std.specs.String.{string_cmp}
use Rattle.std.specs.declared.cmp.Ordering.TheVariants.{Less}
use Rattle.std.proofs.lemmas.List.{append-nil, map-append}
use Rattle.std.proofs.lemmas.List.Elements.{filter-append}
use Rattle.std.proofs.lemmas.Map.Keys.{sorted_head, sorted_tail}
use Rattle.std.proofs.lemmas.Map.Text.{is_eq-slice_cmp}
use Rattle.std.proofs.lemmas.Slice.Eq.{bytes_eq-Decides}
use Rattle.ttrpc_proto.specs.declared.messages.KeyValue.{KeyValue}
use Rattle.ttrpc_message.specs.Metadata.{pairs_at, pairs_of, seen, texts, texts_of, values_at}

values_here : (b : Bool) (key k : List ℕ) (ts : List (List ℕ)) → bytes_eq key k ≡ b → values_at (pairs_at k ts) key ≡ cond b ts []
values_here true key k [] is = refl
values_here true key k (t ∷ ts) is = rw is (ap (λ l. t ∷ l) (values_here true key k ts is))
values_here false key k [] is = refl
values_here false key k (t ∷ ts) is = rw is (values_here false key k ts is)

values_split : (key k : List ℕ) (ts : List (List ℕ)) (rest : List KeyValue) → values_at (pairs_at k ts ++ rest) key ≡ cond (bytes_eq key k) ts [] ++ values_at rest key
values_split key k ts rest =
    let has : KeyValue → Bool = λ p. bytes_eq key p.key in
    ap (map KeyValue.value) (filter-append has (pairs_at k ts) rest) ∙ map-append KeyValue.value (filter has (pairs_at k ts)) (filter has rest)
    ∙ ap (λ l. l ++ values_at rest key) (values_here (bytes_eq key k) key k ts refl)

values_found : (b : Bool) (ts ws : List (List ℕ)) (o : Option (List (List ℕ))) → (b ≡ true → ws ≡ []) → ws ≡ unwrap_or o [] → cond b ts [] ++ ws ≡ unwrap_or (cond b (Some ts) o) []
values_found true ts ws o none is = ap (λ l. ts ++ l) (none refl) ∙ append-nil ts
values_found false ts ws o none is = is

module _ {Y : Type 0} where
  -- a key that is below all others is none of them
  others_none : (key : List ℕ) (k : String Y) (es : List (String Y × Vec (String Y) Y)) → key ≡ string_bytes k → AllByRecursion (λ x. string_cmp k x ≡ Less) (keys_of es) → values_at (pairs_of (seen es)) key ≡ []
  others_none key k [] same below = refl
  others_none key k (e ∷ es) same below =
      let apart : bytes_eq key (string_bytes e.0) ≡ false = rw same (sym (is_eq-slice_cmp (string_bytes k) (string_bytes e.0)) ∙ ap is_eq below.0) in
      values_split key (string_bytes e.0) (texts e.1) (pairs_of (seen es)) ∙ rw apart (others_none key k es same below.1)

  pub values_again : (entries : List (String Y × Vec (String Y) Y)) → IsStrictlySortedBy string_cmp (keys_of entries) → (key : List ℕ) → values_at (pairs_of (seen entries)) key ≡ unwrap_or (texts_of (seen entries) key) []
  values_again [] sorted key = refl
  values_again (e ∷ es) sorted key =
      values_split key (string_bytes e.0) (texts e.1) (pairs_of (seen es))
      ∙ values_found (bytes_eq key (string_bytes e.0)) (texts e.1) (values_at (pairs_of (seen es)) key) (texts_of (seen es) key)
      (λ here. let same : key ≡ string_bytes e.0 = search (rules, bytes_eq-Decides, here) in others_none key e.0 es same (sorted_head string_cmp e.0 (keys_of es) sorted))
      (values_again es (sorted_tail string_cmp e.0 (keys_of es) sorted) key)
