-- Values, tags and fields: reading agrees with the grammar, and what is written is in it.
use Rattle.std.proofs.Common.{◌≡◌, ℕ, ◌≤◌, false, nat_lt, List, ◌++◌, length, take, drop, Some, refl, sym, ap, subst, ◌∙◌, arith, le-ltb, append_assoc}
use Rattle.std.proofs.lemmas.Bool.{ltb-false}
use Rattle.std.proofs.lemmas.List.{take_at, drop_at, take-append-drop, length-append, length-take}
use Rattle.ttrpc_wire.specs.declared.field.WireType.{WireType}
use Rattle.ttrpc_wire.specs.declared.field.WireType.TheVariants as wire
use Rattle.ttrpc_wire.specs.Varint.{IsVarint}
use Rattle.ttrpc_wire.specs.Field.{Value, Varint, Fixed64, LengthDelimited, Fixed32, fixed64_of, fixed32_of, IsFixed64, IsFixed32, IsLengthDelimited, IsValueOf}
use Rattle.ttrpc_wire.specs.Front.{Begins}
use Rattle.ttrpc_wire.specs.Reading.{varint_at, bytes_at, fixed64_at, fixed32_at, length_delimited_at, value_at}
use Rattle.ttrpc_wire.proofs.Agrees.{Agrees, unrefused, bound, agrees_map}
use Rattle.ttrpc_wire.proofs.Varints.{varint_agrees}

-- ---- so many bytes

pub record IsBytes (n : ℕ) (bytes front : List ℕ) : Type 0 where
  pub whole : bytes ≡ front
  pub size : length front ≡ n

pub bytes_take : (n : ℕ) (bytes : List ℕ) (x : List ℕ × List ℕ) → bytes_at n bytes ≡ Some x → Begins (IsBytes n) bytes x.0 x.1
unfolding bytes_at
bytes_take n bytes x e =
    let c = unrefused (nat_lt (length bytes) n) (Some (take n bytes, drop n bytes)) x e in
    let long : n ≤ length bytes = ltb-false (length bytes) n c.0 in
    let same : (take n bytes, drop n bytes) ≡ x = cc in
    subst (λ (x : List ℕ × List ℕ). Begins (IsBytes n) bytes x.0 x.1) same (record {
      front = take n bytes;
      whole = sym (take-append-drop n bytes);
      is = record { whole = refl; size = omega (arith, length-take n bytes) };
    })

pub bytes_again : (front rest : List ℕ) (n : ℕ) → length front ≡ n → bytes_at n (front ++ rest) ≡ Some (front, rest)
unfolding bytes_at
bytes_again front rest n e =
    let long : nat_lt (length (front ++ rest)) n ≡ false = le-ltb _ _ (omega (arith, length-append front rest)) in
    rw (long, take_at front rest n e, drop_at front rest n e) refl

pub bytes_agree : (n : ℕ) → 1 ≤ n → Agrees (IsBytes n) (bytes_at n)
bytes_agree n some = record {
  takes = bytes_take n;
  again = λ front rest x h. ap (λ (w : List ℕ). bytes_at n (w ++ rest)) h.whole ∙ bytes_again x rest n h.size;
  some = λ front x h. let e : length front ≡ length x = ap length h.whole in omega (arith, h.size);
}

-- ---- values

pub fixed64_agrees : Agrees IsFixed64 fixed64_at
fixed64_agrees = agrees_map fixed64_of (bytes_agree 8 (omega arith))
    (λ front x h. record { size = ap length h.whole ∙ h.size; value = sym (ap fixed64_of h.whole) })
    (λ front n h. (front, record { whole = refl; size = h.size }, sym h.value))

pub fixed32_agrees : Agrees IsFixed32 fixed32_at
fixed32_agrees = agrees_map fixed32_of (bytes_agree 4 (omega arith))
    (λ front x h. record { size = ap length h.whole ∙ h.size; value = sym (ap fixed32_of h.whole) })
    (λ front n h. (front, record { whole = refl; size = h.size }, sym h.value))

length_delimited_takes : (bytes : List ℕ) (x : List ℕ × List ℕ) → length_delimited_at bytes ≡ Some x → Begins IsLengthDelimited bytes x.0 x.1
length_delimited_takes bytes x e =
    let b = bound (varint_at bytes) (λ n. bytes_at n.0 n.1) x e in
    let v = varint_agrees.takes bytes b.0 b.1 in
    let t = bytes_take b.0.0 b.0.1 x b.2 in
    let here : b.0.1 ≡ x.0 ++ x.1 = t.whole ∙ ap (λ (w : List ℕ). w ++ x.1) t.is.whole in
    record {
      front = v.front ++ x.0;
      whole = v.whole ∙ ap (λ (w : List ℕ). v.front ++ w) here ∙ sym (append_assoc v.front x.0 x.1);
      is = record { len = v.front; whole = refl; counts = subst (IsVarint v.front) (sym t.is.size) v.is };
    }

length_delimited_again : (front rest x : List ℕ) → IsLengthDelimited front x → length_delimited_at (front ++ rest) ≡ Some (x, rest)
length_delimited_again front rest x h =
    rw (h.whole, append_assoc h.len x rest, varint_agrees.again h.len (x ++ rest) (length x) h.counts, bytes_again x rest (length x) refl) refl

pub length_delimited_agrees : Agrees IsLengthDelimited length_delimited_at
length_delimited_agrees = record {
  takes = length_delimited_takes;
  again = length_delimited_again;
  some = λ front x h. omega (arith, varint_agrees.some h.len (length x) h.counts, ap length h.whole, length-append h.len x);
}

from_varint : (front : List ℕ) (v : Value) → IsValueOf wire.Varint front v → (n : ℕ) × IsVarint front n × (Varint n ≡ v)
from_varint front (Varint n) h = (n, h.is, refl)
from_varint front (Fixed64 n) h = absurd (let e = h.typed in cc)
from_varint front (LengthDelimited x) h = absurd (let e = h.typed in cc)
from_varint front (Fixed32 n) h = absurd (let e = h.typed in cc)

from_fixed64 : (front : List ℕ) (v : Value) → IsValueOf wire.Fixed64 front v → (n : ℕ) × IsFixed64 front n × (Fixed64 n ≡ v)
from_fixed64 front (Varint n) h = absurd (let e = h.typed in cc)
from_fixed64 front (Fixed64 n) h = (n, h.is, refl)
from_fixed64 front (LengthDelimited x) h = absurd (let e = h.typed in cc)
from_fixed64 front (Fixed32 n) h = absurd (let e = h.typed in cc)

from_length_delimited : (front : List ℕ) (v : Value) → IsValueOf wire.LengthDelimited front v → (x : List ℕ) × IsLengthDelimited front x × (LengthDelimited x ≡ v)
from_length_delimited front (Varint n) h = absurd (let e = h.typed in cc)
from_length_delimited front (Fixed64 n) h = absurd (let e = h.typed in cc)
from_length_delimited front (LengthDelimited x) h = (x, h.is, refl)
from_length_delimited front (Fixed32 n) h = absurd (let e = h.typed in cc)

from_fixed32 : (front : List ℕ) (v : Value) → IsValueOf wire.Fixed32 front v → (n : ℕ) × IsFixed32 front n × (Fixed32 n ≡ v)
from_fixed32 front (Varint n) h = absurd (let e = h.typed in cc)
from_fixed32 front (Fixed64 n) h = absurd (let e = h.typed in cc)
from_fixed32 front (LengthDelimited x) h = absurd (let e = h.typed in cc)
from_fixed32 front (Fixed32 n) h = (n, h.is, refl)

pub value_agrees : (type : WireType) → Agrees (IsValueOf type) (value_at type)
unfolding value_at
value_agrees wire.Varint = agrees_map Varint varint_agrees (λ front n h. record { is = h; typed = refl }) from_varint
value_agrees wire.Fixed64 = agrees_map Fixed64 fixed64_agrees (λ front n h. record { is = h; typed = refl }) from_fixed64
value_agrees wire.LengthDelimited = agrees_map LengthDelimited length_delimited_agrees (λ front x h. record { is = h; typed = refl }) from_length_delimited
value_agrees wire.Fixed32 = agrees_map Fixed32 fixed32_agrees (λ front n h. record { is = h; typed = refl }) from_fixed32
