-- Reading a message: what a field at the front, a refusal, an end, and more bytes do to it.
use Rattle.std.proofs.Common.{◌≡◌, ◌≢◌, ℕ, List, [], ◌∷◌, ◌++◌, length, Option, Some, None, refl, sym, ap, subst, ◌∙◌, arith, append_assoc, inl, inr}
use Rattle.std.specs.List.{AllByRecursion}
use Rattle.std.specs.Option.{option_map}
use Rattle.ttrpc_wire.specs.declared.values.codec_error.CodecError.{CodecError}
use Rattle.ttrpc_wire.specs.declared.values.codec_error.CodecError.TheVariants as errors
use Rattle.ttrpc_wire.specs.Field.{Field, IsField, IsFields, Fits, fields_bytes}
use Rattle.ttrpc_wire.specs.Front.{Begins, BeginsNone}
use Rattle.ttrpc_wire.specs.Reading.{◌>>=◌, fields_of}
use Rattle.ttrpc_wire.proofs.Agrees.{bound, none_some, some_or_none, only_one, shortens}
use Rattle.ttrpc_wire.proofs.Fields.{field_agrees, fields_from, are_fields, IsFields-append, fields_written}
use Rattle.ttrpc_wire.specs.Fold.{folded, read_from, Refused}

-- ---- options

abbrev pub none_of : (A : Type 0) → Option A
none_of A = None

pub bind_none : {A B : Type 0} (o : Option A) → (o >>= λ n. none_of B) ≡ none_of B
bind_none None = refl
bind_none (Some x) = refl

pub bind_same : {A B : Type 0} (o : Option A) (f g : A → Option B) → ((x : A) → f x ≡ g x) → (o >>= f) ≡ (o >>= g)
bind_same None f g h = refl
bind_same (Some x) f g h = h x

pub bind_assoc : {A B C : Type 0} (o : Option A) (f : A → Option B) (g : B → Option C) → ((o >>= f) >>= g) ≡ (o >>= λ n. f n >>= g)
bind_assoc None f g = refl
bind_assoc (Some x) f g = refl

-- ---- fields of a front and a rest

-- no fields, where no field is at the front
pub no_fields : (bytes : List ℕ) → (bytes ≡ [] → ⊥) → BeginsNone IsField bytes → fields_of bytes ≡ None
no_fields bytes some n =
    elim (some_or_none (fields_of bytes)) [
      | inr none ↦ none
      | inl s ↦ absurd (no_list s.0 (are_fields bytes s.0 s.1))
    ]
  where
    no_list : (fs : List Field) → IsFields bytes fs → ⊥
    no_list [] h = some h
    no_list (f ∷ fs) h = n.none f h.1 (record { front = h.0; whole = h.2; is = h.3 })

-- the fields of the rest, where one is at the front
rest_of : (bytes rest : List ℕ) (f : Field) (fs : List Field) → Begins IsField bytes f rest → IsFields bytes fs → (gs : List Field) × IsFields rest gs
rest_of bytes rest f [] b h = absurd (omega (arith, shortens field_agrees bytes rest f b, ap length h))
rest_of bytes rest f (g ∷ gs) b h =
    let both = only_one field_agrees bytes h.1 rest g f (record { front = h.0; whole = h.2; is = h.3 }) b in
    (gs, subst (λ (r : List ℕ). IsFields r gs) both.1 h.4)

pub next_is : (bytes rest : List ℕ) (f : Field) → Begins IsField bytes f rest → fields_of bytes ≡ option_map (λ fs. f ∷ fs) (fields_of rest)
next_is bytes rest f b =
    elim (some_or_none (fields_of rest)) [
      | inl s ↦ fields_from bytes (f ∷ s.0) (b.front, rest, b.whole, b.is, are_fields rest s.0 s.1) ∙ sym (ap (option_map (λ fs. f ∷ fs)) s.1)
      | inr n ↦ elim (some_or_none (fields_of bytes)) [
        | inl s ↦ let r = rest_of bytes rest f s.0 b (are_fields bytes s.0 s.1) in
            absurd (none_some r.0 (sym n ∙ fields_from rest r.0 r.1))
        | inr m ↦ m ∙ sym (ap (option_map (λ fs. f ∷ fs)) n)
      ]
    ]

-- the fields of a are the first ones, so there are none where b has none
prefix_none : (a b : List ℕ) (fs : List Field) → IsFields a fs → fields_of b ≡ None → fields_of (a ++ b) ≡ None
prefix_none a b [] h n = ap (λ (w : List ℕ). fields_of (w ++ b)) h ∙ n
prefix_none a b (f ∷ fs) h n =
    let e : a ++ b ≡ h.0 ++ (h.1 ++ b) = ap (λ (w : List ℕ). w ++ b) h.2 ∙ append_assoc h.0 h.1 b in
    next_is (a ++ b) (h.1 ++ b) f (record { front = h.0; whole = e; is = h.3 }) ∙ ap (option_map (λ gs. f ∷ gs)) (prefix_none h.1 b fs h.4 n)

-- ---- reading a message

fold_next : {M : Type 0} (step : M → Field → Option M) (m : M) (f : Field) (o : Option (List Field)) → (option_map (λ fs. f ∷ fs) o >>= folded step m) ≡ (step m f >>= λ n. o >>= folded step n)
fold_next {M = M} step m f None = sym (bind_none {B = M} (step m f))
fold_next step m f (Some fs) = refl

-- the loop goes on
pub reads_on : {M : Type 0} (step : M → Field → Option M) (m : M) (bytes rest : List ℕ) (f : Field) → Begins IsField bytes f rest → read_from step m bytes ≡ (step m f >>= λ n. read_from step n rest)
unfolding read_from
reads_on step m bytes rest f b = ap (λ o. o >>= folded step m) (next_is bytes rest f b) ∙ fold_next step m f (fields_of rest)

-- what was at the front was no field
pub reads_none : {M : Type 0} (step : M → Field → Option M) (m : M) (bytes : List ℕ) → (bytes ≡ [] → ⊥) → BeginsNone IsField bytes → read_from step m bytes ≡ None
unfolding read_from
reads_none step m bytes some n = ap (λ o. o >>= folded step m) (no_fields bytes some n)

pub reads_end : {M : Type 0} (step : M → Field → Option M) (m : M) (bytes : List ℕ) → bytes ≡ [] → read_from step m bytes ≡ Some m
unfolding read_from
reads_end step m bytes e = ap (λ o. o >>= folded step m) (fields_from bytes [] e)

pub folded-append : {M : Type 0} (step : M → Field → Option M) (m : M) (fs gs : List Field) → folded step m (fs ++ gs) ≡ (folded step m fs >>= λ n. folded step n gs)
folded-append step m [] gs = refl
folded-append step m (f ∷ fs) gs = bind_same (step m f) (λ n. folded step n (fs ++ gs)) (λ n. folded step n fs >>= λ n. folded step n gs) (λ n. folded-append step n fs gs) ∙ sym (bind_assoc (step m f) (λ n. folded step n fs) (λ n. folded step n gs))

-- bytes that read by themselves, and more behind them
pub reads_append : {M : Type 0} (step : M → Field → Option M) (m n : M) (a b : List ℕ) → read_from step m a ≡ Some n → read_from step m (a ++ b) ≡ read_from step n b
unfolding read_from
reads_append step m n a b e =
    let s = bound (fields_of a) (folded step m) n e in
    elim (some_or_none (fields_of b)) [
      | inl t ↦
          let whole : fields_of (a ++ b) ≡ Some (s.0 ++ t.0) = fields_from (a ++ b) (s.0 ++ t.0) (IsFields-append a b s.0 t.0 (are_fields a s.0 s.1) (are_fields b t.0 t.1)) in
          ap (λ o. o >>= folded step m) whole ∙ folded-append step m s.0 t.0 ∙ ap (λ o. o >>= λ n. folded step n t.0) s.2 ∙ sym (ap (λ o. o >>= folded step n) t.1)
      | inr z ↦
          ap (λ o. o >>= folded step m) (prefix_none a b s.0 (are_fields a s.0 s.1) z) ∙ sym (ap (λ o. o >>= folded step n) z)
    ]

-- what is written reads as its fields
pub reads_written : {M : Type 0} (step : M → Field → Option M) (m : M) (fs : List Field) → AllByRecursion Fits fs → read_from step m (fields_bytes fs) ≡ folded step m fs
unfolding read_from
reads_written step m fs h = ap (λ o. o >>= folded step m) (fields_from (fields_bytes fs) fs (fields_written fs h))

-- ---- what the loop answers

-- an error other than that of refused memory says that nothing is read
pub refused : {Y : Type 0} (e : CodecError) (read : Option Y) → read ≡ None → Refused e read
refused errors.Truncated read h = h
refused errors.BadVarint read h = h
refused errors.BadTag read h = h
refused errors.BadWireType read h = h
refused errors.BadUtf8 read h = h
refused errors.TooLong read h = h
refused errors.TooDeep read h = h
refused errors.NoMemory read h = tt

-- an error of one step, where the reading of the whole starts with it
pub refused_along : {X Y : Type 0} (e : CodecError) (step : Option X) (read : Option Y) → (step ≡ None → read ≡ None) → Refused e step → Refused e read
refused_along errors.Truncated step read f h = f h
refused_along errors.BadVarint step read f h = f h
refused_along errors.BadTag step read f h = f h
refused_along errors.BadWireType step read f h = f h
refused_along errors.BadUtf8 step read f h = f h
refused_along errors.TooLong step read f h = f h
refused_along errors.TooDeep step read f h = f h
refused_along errors.NoMemory step read f h = tt

-- ---- the loop's invariant, that what is still to be read gives the whole

pub went_on : {M : Type 0} (step : M → Field → Option M) (m n : M) (bytes rest : List ℕ) (f : Field) (whole : Option M) → Begins IsField bytes f rest → step m f ≡ Some n → read_from step m bytes ≡ whole → read_from step n rest ≡ whole
went_on step m n bytes rest f whole b s inv = sym (reads_on step m bytes rest f b ∙ ap (λ o. o >>= λ k. read_from step k rest) s) ∙ inv

pub step_refused : {M : Type 0} (step : M → Field → Option M) (m : M) (bytes rest : List ℕ) (f : Field) (whole : Option M) (e : CodecError) → Begins IsField bytes f rest → read_from step m bytes ≡ whole → Refused e (step m f) → Refused e whole
step_refused step m bytes rest f whole e b inv r = refused_along e (step m f) whole (λ s. sym inv ∙ reads_on step m bytes rest f b ∙ ap (λ o. o >>= λ k. read_from step k rest) s) r

-- what is written means the message
pub reads_back : {M : Type 0} (step : M → Field → Option M) (empty m : M) (fs : List Field) → AllByRecursion Fits fs → folded step empty fs ≡ Some m → read_from step empty (fields_bytes fs) ≡ Some m
reads_back step empty m fs fits again = reads_written step empty fs fits ∙ again

-- the other way round: an error other than that of refused memory
pub refused_other : {Y : Type 0} (e : CodecError) (read : Option Y) → Refused e read → e ≢ errors.NoMemory → read ≡ None
refused_other errors.Truncated read h other = h
refused_other errors.BadVarint read h other = h
refused_other errors.BadTag read h other = h
refused_other errors.BadWireType read h other = h
refused_other errors.BadUtf8 read h other = h
refused_other errors.TooLong read h other = h
refused_other errors.TooDeep read h other = h
refused_other errors.NoMemory read h other = absurd (other refl)
