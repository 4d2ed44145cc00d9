-- The handlers of methods, as the maps that hold them.
use Rattle.std.proofs.Common.{rules, ◌≡◌, ℕ, Bool, true, false, cond, ◌&&◌, ◌||◌, List, [], ◌∷◌, ◌++◌, map, Option, Some, None, String, string_bytes, subst, refl, sym, ap, ◌∙◌}
use Rattle.std.specs.BTreeMap.{BTreeMap, get_by_text, is_at}
use Rattle.std.specs.BTreeMap as tree
use Rattle.std.specs.List.{AllByRecursion, list_any}
use Rattle.std.specs.List.Sorted.{IsStrictlySortedBy}
use Rattle.std.specs.Map.{keys_of, lookup, set_value, update}
use Rattle.std.specs.Option.{is_some, option_and_then, option_map}
use Rattle.std.specs.Ordering.{is_eq}
use Rattle.std.specs.Str.{bytes_eq}
use Rattle.std.specs.String.{string_cmp}
use Rattle.std.specs.declared.cmp.Ordering.TheVariants.{Less}
use Rattle.std.proofs.lemmas.Cmp.{nat_list_eq_equiv}
use Rattle.std.proofs.lemmas.Iterator.Adapters.{option_map_id}
use Rattle.std.proofs.lemmas.Map.Keys.{sorted_head, sorted_tail}
use Rattle.std.proofs.lemmas.Map.Text.{btree_map_updates_text, is_eq-slice_cmp, text_cmp}
use Rattle.std.proofs.lemmas.Option.{same_Some}
use Rattle.std.proofs.lemmas.Slice.Eq.{bytes_eq-Decides}
use Rattle.ttrpc_server.specs.Methods.{Adds, AddsAll, Handlers, Puts, PutsAll, handler_of}

either : {X Z : Type 0} (f : X → Z) (b : Bool) (x : X) (o : Option Z) (p : Option X) → o ≡ option_map f p → cond b (Some (f x)) o ≡ option_map f (cond b (Some x) p)
either f true x o p more = refl
either f false x o p more = more

some_either : {X : Type 0} (b c : Bool) (x : X) (o : Option X) → c ≡ is_some o → (b || c) ≡ is_some (cond b (Some x) o)
some_either true c x o more = refl
some_either false c x o more = more

or_false : (b : Bool) → (b || false) ≡ b
or_false true = refl
or_false false = refl

-- ---- names that are added one after the other

regroup : (a b f o : Bool) → ((a && b) || ((a && f) || o)) ≡ ((a && (f || (b || false))) || o)
regroup false b f o = refl
regroup true true true o = refl
regroup true true false o = refl
regroup true false true o = refl
regroup true false false o = refl

last_first : (b f : Bool) → (b || f) ≡ (f || (b || false))
last_first true true = refl
last_first true false = refl
last_first false true = refl
last_first false false = refl

module _ {Y : Type 0} where
  -- entries, each under the bytes of its key
  abbrev pub by_bytes : {X Z : Type 0} → (X → Z) → List (String Y × X) → List (List ℕ × Z)
  by_bytes {X} {Z} f entries = map {B = List ℕ × Z} (λ e. (string_bytes e.0, f e.1)) entries

  -- what stands under a text
  stored : {X Z : Type 0} (f : X → Z) (k : List ℕ) (entries : List (String Y × X)) → lookup (bytes_eq k) (by_bytes f entries) ≡ option_map f (lookup (is_at (text_cmp k)) entries)
  stored f k [] = refl
  stored f k (e ∷ es) = rw (is_eq-slice_cmp k (string_bytes e.0)) (either f (bytes_eq k (string_bytes e.0)) e.1 _ _ (stored f k es))

  set_here : {X Z : Type 0} (f : X → Z) (b : Bool) (k : List ℕ) (e : String Y × X) (es rest : List (String Y × X)) (old new : X) → cond b (Some e.1) (lookup (is_at (text_cmp k)) es) ≡ Some old → f new ≡ f old
      → (lookup (is_at (text_cmp k)) es ≡ Some old → by_bytes f rest ≡ by_bytes f es) → by_bytes f (cond b ((e.0, new) ∷ es) (e ∷ rest)) ≡ by_bytes f (e ∷ es)
  set_here f true k e es rest old new found same more =
      let is : e.1 ≡ old = same_Some e.1 old found in
      ap (λ x. (string_bytes e.0, x) ∷ by_bytes f es) (same ∙ ap f (sym is))
  set_here f false k e es rest old new found same more = ap (λ l. (string_bytes e.0, f e.1) ∷ l) (more found)

  -- what is seen as the same is put in the place of what stood there
  same_set : {X Z : Type 0} (f : X → Z) (k : List ℕ) (entries : List (String Y × X)) (old new : X) → lookup (is_at (text_cmp k)) entries ≡ Some old → f new ≡ f old
      → by_bytes f (set_value (is_at (text_cmp k)) entries new) ≡ by_bytes f entries
  same_set f k [] old new found same = refl
  same_set f k (e ∷ es) old new found same = set_here f (is_at (text_cmp k) e.0) k e es (set_value (is_at (text_cmp k)) es new) old new found same (λ more. same_set f k es old new more same)

  -- a name is among the keys of a map exactly where something stands under it
  pub any_some : {X : Type 0} (k : List ℕ) (entries : List (String Y × X)) → list_any (λ e. bytes_eq k (string_bytes e.0)) entries ≡ is_some (lookup (is_at (text_cmp k)) entries)
  any_some k [] = refl
  any_some k (e ∷ es) = rw (is_eq-slice_cmp k (string_bytes e.0)) (some_either (bytes_eq k (string_bytes e.0)) _ e.1 _ (any_some k es))

  module _ {H : Type 0} where
    abbrev pub names : BTreeMap (String Y) H → List (List ℕ × H)
    names methods = by_bytes (λ h. h) methods.entries

    abbrev pub seen : List (String Y × BTreeMap (String Y) H) → Handlers H
    seen entries = by_bytes names entries

    -- the handler in the map of a service, where there is one
    abbrev pub found : Option (BTreeMap (String Y) H) → List ℕ → Option H
    found methods m = option_and_then (λ x. get_by_text x m) methods

    through : (m : List ℕ) (o : Option (BTreeMap (String Y) H)) → option_and_then (lookup (bytes_eq m)) (option_map names o) ≡ found o m
    through m None = refl
    through m (Some x) = stored (λ h. h) m x.entries ∙ option_map_id (get_by_text x m)

    pub handler_found : (s m : List ℕ) (entries : List (String Y × BTreeMap (String Y) H)) → handler_of (seen entries) s m ≡ found (lookup (is_at (text_cmp s)) entries) m
    handler_found s m entries = ap (option_and_then (lookup (bytes_eq m))) (stored names s entries) ∙ through m (lookup (is_at (text_cmp s)) entries)

    -- ---- a handler is put

    more : (b : Bool) (s service method m : List ℕ) (h : H) (f : List ℕ → Option (BTreeMap (String Y) H)) (methods : BTreeMap (String Y) H) → bytes_eq service s ≡ b
        → get_by_text methods m ≡ cond (bytes_eq method m) (Some h) (found (f service) m) → found (cond b (Some methods) (f s)) m ≡ cond (b && bytes_eq method m) (Some h) (found (f s) m)
    more true s service method m h f methods e has = let same : service ≡ s = search (rules, bytes_eq-Decides) in rw (← same) has
    more false s service method m h f methods e has = refl

    pub one_more : (old new : BTreeMap (String Y) (BTreeMap (String Y) H)) (service method : List ℕ) (h : H) (methods : BTreeMap (String Y) H)
        → tree.UpdatesBy string_cmp (text_cmp service) old new (Some methods) → ((m : List ℕ) → get_by_text methods m ≡ cond (bytes_eq method m) (Some h) (found (get_by_text old service) m))
        → Puts (seen old.entries) service method h (seen new.entries)
    one_more old new service method h methods updates has s m =
        let at : get_by_text new s ≡ update bytes_eq (get_by_text old) service (Some methods) s = btree_map_updates_text service old new (Some methods) updates s in
        rw (nat_list_eq_equiv.symm s service, nat_list_eq_equiv.symm m method, handler_found s m new.entries, handler_found s m old.entries, at) (more (bytes_eq service s) s service method m h (get_by_text old) methods refl (has m))

    pub as_before : (old new : BTreeMap (String Y) (BTreeMap (String Y) H)) (service : List ℕ) (methods same : BTreeMap (String Y) H) → get_by_text old service ≡ Some methods → same.entries ≡ methods.entries
        → new.entries ≡ set_value (is_at (text_cmp service)) old.entries same → seen new.entries ≡ seen old.entries
    as_before old new service methods same at entries set = ap seen set ∙ same_set names service old.entries methods same at (ap (by_bytes (λ h. h)) entries)

    -- ---- the names of all

    -- a method of this entry has this name
    abbrev pub has_here : List ℕ → List ℕ → String Y × BTreeMap (String Y) H → Bool
    has_here s m e = bytes_eq s (string_bytes e.0) && is_some (get_by_text e.1 m)

    -- a key that is below all others is none of them
    others_none : (s m : List ℕ) (k : String Y) (es : List (String Y × BTreeMap (String Y) H)) → s ≡ string_bytes k → AllByRecursion (λ x. string_cmp k x ≡ Less) (keys_of es) → list_any (has_here s m) es ≡ false
    others_none s m k [] same below = refl
    others_none s m k (e ∷ es) same below =
        let apart : bytes_eq s (string_bytes e.0) ≡ false = rw same (sym (is_eq-slice_cmp (string_bytes k) (string_bytes e.0)) ∙ ap is_eq below.0) in
        rw apart (others_none s m k es same below.1)

    here_or_behind : (b d : Bool) (m : List ℕ) (x : BTreeMap (String Y) H) (o : Option (BTreeMap (String Y) H)) → (b ≡ true → d ≡ false) → d ≡ is_some (found o m)
        → ((b && is_some (get_by_text x m)) || d) ≡ is_some (found (cond b (Some x) o) m)
    here_or_behind true d m x o none is = rw (none refl) (or_false (is_some (get_by_text x m)))
    here_or_behind false d m x o none is = is

    any_found : (s m : List ℕ) (entries : List (String Y × BTreeMap (String Y) H)) → IsStrictlySortedBy string_cmp (keys_of entries) → list_any (has_here s m) entries ≡ is_some (found (lookup (is_at (text_cmp s)) entries) m)
    any_found s m [] sorted = refl
    any_found s m (e ∷ es) sorted = rw (is_eq-slice_cmp s (string_bytes e.0))
        (here_or_behind (bytes_eq s (string_bytes e.0)) (list_any (has_here s m) es) m e.1 (lookup (is_at (text_cmp s)) es)
        (λ here. let same : s ≡ string_bytes e.0 = search (rules, bytes_eq-Decides, here) in others_none s m e.0 es same (sorted_head string_cmp e.0 (keys_of es) sorted))
        (any_found s m es (sorted_tail string_cmp e.0 (keys_of es) sorted)))

    pub any_handler : (s m : List ℕ) (entries : List (String Y × BTreeMap (String Y) H)) → IsStrictlySortedBy string_cmp (keys_of entries) → list_any (has_here s m) entries ≡ is_some (handler_of (seen entries) s m)
    any_handler s m entries sorted = rw (handler_found s m entries) (any_found s m entries sorted)

-- one more handler is added behind the others
pub adds_more : {A H : Type 0} (old : Handlers H) (before : List (String A × H)) (mid new : Handlers H) (path : String A) (handler : H)
    → AddsAll old before mid → Adds mid (string_bytes path) handler new → AddsAll old (before ++ (path, handler) ∷ []) new
adds_more old [] mid new path handler all add = (new, subst (λ m. Adds m (string_bytes path) handler new) all add, refl)
adds_more old (more ∷ before) mid new path handler all add = (all.0, all.1, adds_more all.0 before mid new path handler all.2 add)

-- one more handler of a service is put behind the others
pub puts_more : {A H : Type 0} (old : Handlers H) (service : List ℕ) (before : List (String A × H)) (mid new : Handlers H) (name : String A) (handler : H)
    → PutsAll old service before mid → Puts mid service (string_bytes name) handler new → PutsAll old service (before ++ (name, handler) ∷ []) new
puts_more old service [] mid new name handler all put = (new, subst (λ m. Puts m service (string_bytes name) handler new) all put, refl)
puts_more old service (more ∷ before) mid new name handler all put = (all.0, all.1, puts_more all.0 service before mid new name handler all.2 put)
