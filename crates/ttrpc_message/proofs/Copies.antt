-- A copy of a map has the metadata of the map.
use Rattle.std.proofs.Common.{◌≡◌, ℕ, List, [], ◌∷◌, map, String, Vec, vec_len, string_bytes, refl}
use Rattle.std.specs.List.{AllZip}
use Rattle.ttrpc_message.specs.Metadata.{seen, texts}

module _ {Y : Type 0} where
  -- a copy of a text has its bytes
  abbrev pub IsTextCopy : String Y → String Y → Type 0
  IsTextCopy s t = string_bytes t ≡ string_bytes s

  -- a copy of an entry has copies of its key and of its texts
  abbrev pub IsEntryCopy : String Y × Vec (String Y) Y → String Y × Vec (String Y) Y → Type 0
  IsEntryCopy p q = IsTextCopy p.0 q.0 × (AllZip IsTextCopy p.1.items q.1.items × (vec_len q.1 ≡ vec_len p.1))

  copied_texts : (ss ts : List (String Y)) → AllZip IsTextCopy ss ts → map string_bytes ts ≡ map string_bytes ss
  copied_texts [] [] copies = refl
  copied_texts [] (t ∷ ts) copies = absurd copies
  copied_texts (s ∷ ss) [] copies = absurd copies
  copied_texts (s ∷ ss) (t ∷ ts) copies = let rest = copied_texts ss ts copies.1 in cc (rest, copies.0)

  pub copied : (es fs : List (String Y × Vec (String Y) Y)) → AllZip IsEntryCopy es fs → seen fs ≡ seen es
  copied [] [] copies = refl
  copied [] (f ∷ fs) copies = absurd copies
  copied (e ∷ es) [] copies = absurd copies
  copied (e ∷ es) (f ∷ fs) copies =
      let here = copied_texts e.1.items f.1.items copies.0.1.0 in
      let rest = copied es fs copies.1 in
      cc (here, rest, copies.0.0)
