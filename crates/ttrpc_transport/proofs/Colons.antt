-- The two parts of a text around its one colon.
use Rattle.std.proofs.Common.{◌≡◌, ℕ, List, Bor, Some, None, true, false, lit<, refl, sym, subst}
use Rattle.std.specs.Bool.{MatchBool}
use Rattle.std.specs.Str.Pattern.{FindsChar, HasMatch}
use Rattle.std.proofs.lemmas.Str.Pattern.{IsSplitOnceResult, contains_char, split_after, split_parts}
use Rattle.ttrpc_transport.specs.Address.Vsock.{HasNoColon, IsTwoParts}

-- a text is not two parts
abbrev pub IsNotTwoParts : List ℕ → Type 0
IsNotTwoParts text = (first second : List ℕ) → ¬ (IsTwoParts text first second)

-- no colon
pub no_colon : (text : List ℕ) → IsSplitOnceResult 58 text None → IsNotTwoParts text
no_colon text is first second parts = split_after 58 text first second None is (lit< tt) parts.whole parts.plain_first

-- a second colon
pub more_colons : (text : List ℕ) (split : Bor (List ℕ) × Bor (List ℕ)) → IsSplitOnceResult 58 text (Some split)
    → MatchBool true (HasMatch (FindsChar 58) split.1.now) (FindsChar 58 split.1.now None) → IsNotTwoParts text
more_colons text split is more first second parts =
    let same = (split_after 58 text first second (Some split) is (lit< tt) parts.whole parts.plain_first).1 in
    let found = (contains_char 58 split.1.now true more (lit< tt)).0 refl in
    let plain : HasNoColon split.1.now = subst HasNoColon (sym same) parts.plain_second in
    plain found.0 found.1 found.2

-- one colon
pub one_colon : (text : List ℕ) (split : Bor (List ℕ) × Bor (List ℕ)) → IsSplitOnceResult 58 text (Some split)
    → MatchBool false (HasMatch (FindsChar 58) split.1.now) (FindsChar 58 split.1.now None)
    → IsTwoParts text split.0.now split.1.now
one_colon text split is none =
    let parts = split_parts 58 text (Some split) is (lit< tt) in
    record {
      whole = parts.0;
      plain_first = parts.1;
      plain_second = λ i inside e. absurd (let no : false ≡ true = (contains_char 58 split.1.now false none (lit< tt)).1 i inside e in cc);
    }
