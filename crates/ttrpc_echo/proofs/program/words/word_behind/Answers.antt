use Rattle.std.proofs.Common.{rules, ◌≡◌, ◌↔◌, ◌∷◌, [], true, ap, ◌∙◌, sym, map, string_bytes}
use Rattle.ttrpc_echo.proofs.OneWord.{two_words, first_of_two}
use Rattle.ttrpc_echo.proofs.program.words.word_behind.Goals as goal

pub returns-then-eq-clause-some : goal.returns-then-eq-clause-some
returns-then-eq-clause-some c =
    let word : string_bytes c.word-item.result ≡ c.as_str.result.now = sym c.as_str.ensures.value in
    let second : string_bytes c.second-item.result ≡ c.as_str-then-eq.result.now = sym c.as_str-then-eq.ensures.value in
    let same : (c.eq.result ≡ true) ↔ (c.as_str.result.now ≡ c.args.first.now) = search rules in
    two_words string_bytes c.args.words.now c.word-item.result c.second-item.result c.in-len2.len_at_least c.in-len2.len_below c.word-item.is c.second-item.is
    ∙ ap (λ w. w ∷ string_bytes c.second-item.result ∷ []) (word ∙ same.0 c.if-eq.true)
    ∙ ap (λ w. c.args.first.now ∷ w ∷ []) second

pub returns-else-eq-clause-none : goal.returns-else-eq-clause-none
returns-else-eq-clause-none c =
    let word : string_bytes c.word-item.result ≡ c.as_str.result.now = sym c.as_str.ensures.value in
    let same : (c.eq.result ≡ true) ↔ (c.as_str.result.now ≡ c.args.first.now) = search rules in
    let two : map string_bytes c.args.words.now ≡ c.as_str.result.now ∷ string_bytes c.second-item.result ∷ [] =
    two_words string_bytes c.args.words.now c.word-item.result c.second-item.result c.in-len2.len_at_least c.in-len2.len_below c.word-item.is c.second-item.is
    ∙ ap (λ w. w ∷ string_bytes c.second-item.result ∷ []) word in
    λ second is. search (rules, c.if-eq.false, same.1 (first_of_two _ _ _ _ (sym two ∙ is)))
