-- The part of a vsock address: a cid and a port, with a colon between them.
-- Source: Linux's vsock(7), where the cid 4294967295 is any; the texts are this project's.
use Rattle.std.specs.Prelude.{◌≡◌, ◌≢◌, ◌⊎◌, ℕ, ◌<◌, ◌^◌, List, ◌∷◌, ◌++◌, length, slice_index, codes}
use Rattle.std.specs.Str.{trim}
use Rattle.std.specs.Str.Parse.{IsNumeral, digits_value, without_leading_plus}

-- no byte of the text is a colon
abbrev pub HasNoColon : List ℕ → Type 0
HasNoColon text = (i : ℕ) → i < length text → slice_index text i ≢ 58

-- the text is these two with a colon between them, and has no other colon
pub record IsTwoParts (text first second : List ℕ) : Type 0 where
  pub whole : text ≡ first ++ 58 ∷ second
  pub plain_first : HasNoColon first
  pub plain_second : HasNoColon second

-- decimal digits that write the number, which fits 32 bits, after nothing or a plus
abbrev pub IsNumberText : List ℕ → ℕ → Type 0
IsNumberText text n =
    IsNumeral 10 (without_leading_plus text) × (digits_value 10 (without_leading_plus text) ≡ n) × (n < 2 ^ 32)

-- such a number, or `-1` between white space, which means any cid
abbrev pub IsCidText : List ℕ → ℕ → Type 0
IsCidText text cid = ((trim text ≡ codes "-1") × (cid ≡ 4294967295)) ⊎ ((trim text ≢ codes "-1") × IsNumberText text cid)

-- the part names this cid and this port
abbrev pub IsVsockText : List ℕ → ℕ → ℕ → Type 0
IsVsockText part cid port = (first second : List ℕ) × IsTwoParts part first second × IsCidText first cid × IsNumberText second port

-- The part names no cid and port, for the reason that this text reports. The cid is read before the
-- port.
abbrev pub IsNotVsock : List ℕ → List ℕ → Type 0
IsNotVsock part text =
    (((first second : List ℕ) → ¬ (IsTwoParts part first second)) × (text ≡ codes "sockaddr " ++ part ++ codes " is not right for vsock"))
    ⊎ ((first second : List ℕ) × IsTwoParts part first second × ((cid : ℕ) → ¬ (IsCidText first cid))
    × (text ≡ codes "failed to parse cid from \"" ++ first ++ codes "\""))
    ⊎ ((first second : List ℕ) × IsTwoParts part first second × ((cid : ℕ) × IsCidText first cid) × ((port : ℕ) → ¬ (IsNumberText second port))
    × (text ≡ codes "failed to parse port from \"" ++ second ++ codes "\""))
