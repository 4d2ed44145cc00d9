use Rattle.std.proofs.Common.{◌≡◌, ◌≢◌, ℕ, List, Bool, true, false, None, Some, Result, Ok, Err, refl, sym, ap}
use Rattle.std.specs.Result.{IfOk, IfErr, IsErrOf}
use Rattle.std.specs.Str.{is_utf8, IsUtf8}
use Rattle.std.proofs.lemmas.Str.{is_utf8-from_IsUtf8, IsUtf8-from_is_utf8}
use Rattle.ttrpc_wire.specs.declared.values.codec_error.CodecError.{CodecError}
use Rattle.ttrpc_wire.specs.declared.values.codec_error.CodecError.TheVariants.{Truncated, BadVarint, BadTag, BadWireType, BadUtf8, TooLong, TooDeep, NoMemory}
use Rattle.ttrpc_wire.specs.Fold.{Refused, Gives}
use Rattle.ttrpc_wire.specs.Codec.Members.{text_of}
use Rattle.ttrpc_wire.proofs.codec.members.text_from.Goals as goal

by_test : (b : List ℕ) (u : Bool) → is_utf8 b ≡ u → (IsUtf8 b → ⊥) → is_utf8 b ≡ false
by_test b true e not_text = absurd (not_text (IsUtf8-from_is_utf8 b e))
by_test b false e not_text = e

no_text : (b : List ℕ) → (IsUtf8 b → ⊥) → text_of b ≡ None
no_text b not_text = rw (by_test b (is_utf8 b) refl not_text) refl

-- an error is that of a text, or of refused memory
refused_text : (b : List ℕ) (e : CodecError) → (e ≡ BadUtf8 → IsUtf8 b → ⊥) → (e ≢ BadUtf8 → e ≡ NoMemory) → Refused e (text_of b)
refused_text b Truncated bad other = absurd (let e = other (λ h. cc) in cc)
refused_text b BadVarint bad other = absurd (let e = other (λ h. cc) in cc)
refused_text b BadTag bad other = absurd (let e = other (λ h. cc) in cc)
refused_text b BadWireType bad other = absurd (let e = other (λ h. cc) in cc)
refused_text b BadUtf8 bad other = no_text b (bad refl)
refused_text b TooLong bad other = absurd (let e = other (λ h. cc) in cc)
refused_text b TooDeep bad other = absurd (let e = other (λ h. cc) in cc)
refused_text b NoMemory bad other = tt

text_gives : (b : List ℕ) (r : Result (List ℕ) CodecError) → IfOk r (λ t. (t ≡ b) × IsUtf8 b) → (IsErrOf r BadUtf8 → IsUtf8 b → ⊥) → IfErr r (λ e. e ≢ BadUtf8 → e ≡ NoMemory) → Gives (λ t. t) r (text_of b)
text_gives b (Ok t) ok bad other = let u = is_utf8-from_IsUtf8 b ok.1 in rw u (ap (λ (x : List ℕ). Some x) (sym ok.0))
text_gives b (Err e) ok bad other = refused_text b e (λ h. bad (ap (λ (x : CodecError). Err x) h)) other

pub returns : goal.returns
returns c = text_gives c.args.bytes.now c.from_utf8.result c.from_utf8.ensures.ok c.from_utf8.ensures.not_text.0 c.from_utf8.ensures.else_memory
