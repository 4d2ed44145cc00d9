use Rattle.std.proofs.Common.{◌≡◌, ◌↔◌, true, rules, ◌∷◌, [], ap, ◌∙◌, sym, map, string_bytes, codes}
use Rattle.ttrpc_echo.proofs.OneWord.{only_word, same_word}
use Rattle.ttrpc_echo.proofs.program.words.are_answer.Goals as goal

pub returns-in-len1 : goal.returns-in-len1
returns-in-len1 c =
    let one : map string_bytes c.args.words.now ≡ c.as_str.result.now ∷ [] =
    only_word string_bytes c.args.words.now c.word-item.result c.in-len1.len_at_least c.in-len1.len_below c.word-item.is ∙ ap (λ w. w ∷ []) (sym c.as_str.ensures.value) in
    let same : (c.eq.result ≡ true) ↔ (c.as_str.result.now ≡ codes "answer") = search rules in
    (λ told. one ∙ ap (λ w. w ∷ []) (same.0 told), λ is. same.1 (same_word _ _ (sym one ∙ is)))
