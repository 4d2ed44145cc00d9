use Rattle.std.proofs.Common.{rules, ◌≡◌, ◌∷◌, [], ◌∙◌, sym, map, string_bytes, codes}
use Rattle.ttrpc_echo.proofs.OneWord.{six_words, same_six}
use Rattle.ttrpc_echo.proofs.program.words.call_words.Goals as goal

pub returns-else-ne-clause-some : goal.returns-else-ne-clause-some
returns-else-ne-clause-some c =
    let word : string_bytes c.word-item.result ≡ c.as_str.result.now = sym c.as_str.ensures.value in
    let named : c.as_str.result.now ≡ codes "call" = search (rules, c.if-ne.false) in
    let six : map string_bytes c.args.words.now ≡ string_bytes c.word-item.result ∷ string_bytes c.address-item.result ∷ string_bytes c.service-item.result ∷ string_bytes c.method-item.result ∷ string_bytes c.digits-item.result ∷ string_bytes c.timeout-item.result ∷ [] =
    six_words string_bytes c.args.words.now c.word-item.result c.address-item.result c.service-item.result c.method-item.result c.digits-item.result c.timeout-item.result c.in-len6.len_at_least c.in-len6.len_below c.word-item.is c.address-item.is c.service-item.is c.method-item.is c.digits-item.is c.timeout-item.is in
    let first : string_bytes c.word-item.result ≡ codes "call" = word ∙ named in
    same_six six first (sym c.as_str-in-len6.ensures.value) (sym c.as_str-in-len6-2.ensures.value) (sym c.as_str-in-len6-3.ensures.value) (sym c.as_str-in-len6-4.ensures.value) (sym c.as_str-in-len6-5.ensures.value)
