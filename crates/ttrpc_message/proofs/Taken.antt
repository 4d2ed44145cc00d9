-- Pairs that are put into metadata one after the other.
use Rattle.std.proofs.Common.{rules, ◌≡◌, ◌<◌, ◌+◌, ◌++◌, ℕ, Bool, true, false, cond, List, [], ◌∷◌, length, map, filter, take, get_or, Option, Some, refl, sym, ap, subst, ◌∙◌}
use Rattle.std.specs.Option.{unwrap_or}
use Rattle.std.specs.Str.{bytes_eq}
use Rattle.std.proofs.lemmas.List.{append-nil, map-append}
use Rattle.std.proofs.lemmas.List.Elements.{filter_more}
use Rattle.std.proofs.lemmas.Slice.Eq.{bytes_eq-Decides}
use Rattle.ttrpc_proto.specs.declared.messages.KeyValue.{KeyValue}
use Rattle.ttrpc_message.specs.Metadata.{Adds, Metadata, some_texts, texts_of, values_at}

texts_again : (l : List (List ℕ)) → unwrap_or (some_texts l) [] ≡ l
texts_again [] = refl
texts_again (t ∷ ts) = refl

texts_more : (l : List (List ℕ)) (text : List ℕ) → Some (l ++ text ∷ []) ≡ some_texts (l ++ text ∷ [])
texts_more [] text = refl
texts_more (t ∷ ts) text = refl

more_at : (b : Bool) (p : KeyValue) (xs : List KeyValue) (old was : Option (List (List ℕ))) → old ≡ some_texts (map KeyValue.value xs) → (b ≡ true → was ≡ some_texts (map KeyValue.value xs))
    → cond b (Some (unwrap_or was [] ++ p.value ∷ [])) old ≡ some_texts (map KeyValue.value (xs ++ cond b (p ∷ []) []))
more_at true p xs old was is here =
    ap (λ t. Some (unwrap_or t [] ++ p.value ∷ [])) (here refl) ∙ ap (λ l. Some (l ++ p.value ∷ [])) (texts_again (map KeyValue.value xs)) ∙ texts_more (map KeyValue.value xs) p.value
    ∙ ap some_texts (sym (map-append KeyValue.value xs (p ∷ [])))
more_at false p xs old was is here = is ∙ ap (λ fs. some_texts (map KeyValue.value fs)) (sym (append-nil xs))

pub pair_taken : (old new : Metadata) (pairs : List KeyValue) (i : ℕ) (p : KeyValue) → i < length pairs → p ≡ get_or pairs i p
    → ((key : List ℕ) → texts_of old key ≡ some_texts (values_at (take i pairs) key)) → Adds old p.key p.value new
    → (key : List ℕ) → texts_of new key ≡ some_texts (values_at (take (i + 1) pairs) key)
pair_taken old new pairs i p less is so_far adds key =
    let has : KeyValue → Bool = λ q. bytes_eq key q.key in
    let more : filter has (take (i + 1) pairs) ≡ filter has (take i pairs) ++ cond (has p) (p ∷ []) [] =
    filter_more has pairs i p less ∙ ap (λ q. filter has (take i pairs) ++ cond (has q) (q ∷ []) []) (sym is) in
    adds key
    ∙ more_at (has p) p (filter has (take i pairs)) (texts_of old key) (texts_of old p.key) (so_far key)
    (λ e. let same : key ≡ p.key = search (rules, bytes_eq-Decides, e) in subst (λ k. texts_of old p.key ≡ some_texts (values_at (take i pairs) k)) (sym same) (so_far p.key))
    ∙ ap (λ fs. some_texts (map KeyValue.value fs)) (sym more)
