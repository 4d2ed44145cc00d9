-- A fold of fields is a fold of each member's values, and each kind of member means what it should.
use Rattle.std.proofs.Common.{◌≡◌, ℕ, List, [], ◌∷◌, ◌++◌, Bool, true, false, cond, nat_eq, Option, Some, None, refl, sym, ap, ◌∙◌, map}
use Rattle.std.specs.List.{AllByRecursion}
use Rattle.std.specs.Option.{option_map}
use Rattle.std.specs.Str.{is_utf8, IsUtf8}
use Rattle.std.proofs.lemmas.Option.{same_Some, cond_some}
use Rattle.std.proofs.lemmas.Str.{is_utf8-from_IsUtf8, IsUtf8-from_is_utf8}
use Rattle.ttrpc_wire.specs.Field.{Value, Varint, Fixed64, LengthDelimited, Fixed32, Field}
use Rattle.ttrpc_wire.specs.Reading.{◌>>=◌}
use Rattle.ttrpc_wire.specs.Fold.{folded}
use Rattle.ttrpc_wire.proofs.Agrees.{bound, mapped}
use Rattle.ttrpc_wire.proofs.Folds.{bind_none, bind_same}
use Rattle.ttrpc_wire.specs.Codec.Members.{delimited, number, delimited_in, number_in, text_of, last_text, last_bytes, last_number, both}
use Rattle.ttrpc_proto.specs.Meaning.{delimited_value, number_value, delimited_values, number_values, last_or}

-- ---- a message of two parts

-- both members take part in each field, and neither knows of the other
both_step : {A B : Type 0} (s : A → Field → Option A) (t : B → Field → Option B) (fs : List Field) (a : Option A) (b : Option B)
    → ((x : A) (y : B) → folded (both s t) (x, y) fs ≡ (folded s x fs >>= λ v. folded t y fs >>= λ w. Some (v, w)))
    → ((a >>= λ x. b >>= λ y. Some (x, y)) >>= λ m. folded (both s t) m fs) ≡ ((a >>= λ x. folded s x fs) >>= λ v. (b >>= λ y. folded t y fs) >>= λ w. Some (v, w))
both_step s t fs None b h = refl
both_step {A} {B} s t fs (Some x) None h = sym (bind_none {B = A × B} (folded s x fs))
both_step s t fs (Some x) (Some y) h = h x y

folded-both : {A B : Type 0} (s : A → Field → Option A) (t : B → Field → Option B) (x : A) (y : B) (fs : List Field) → folded (both s t) (x, y) fs ≡ (folded s x fs >>= λ v. folded t y fs >>= λ w. Some (v, w))
folded-both s t x y [] = refl
folded-both s t x y (f ∷ fs) = both_step s t fs (s x f) (t y f) (λ v w. folded-both s t v w fs)

pub record Both {A B : Type 0} (s : A → Field → Option A) (t : B → Field → Option B) (x v : A) (y w : B) (fs : List Field) : Type 0 where
  pub first : folded s x fs ≡ Some v
  pub second : folded t y fs ≡ Some w

pub both_apart : {A B : Type 0} (s : A → Field → Option A) (t : B → Field → Option B) (x v : A) (y w : B) (fs : List Field) → folded (both s t) (x, y) fs ≡ Some (v, w) → Both s t x v y w fs
both_apart s t x v y w fs e =
    let a = bound (folded s x fs) (λ v. folded t y fs >>= λ w. Some (v, w)) (v, w) (sym (folded-both s t x y fs) ∙ e) in
    let b = bound (folded t y fs) (λ w. Some (a.0, w)) (v, w) a.2 in
    let same : (a.0, b.0) ≡ (v, w) = same_Some (a.0, b.0) (v, w) b.2 in
    record { first = a.1 ∙ ap (λ p. Some p.0) same; second = b.1 ∙ ap (λ p. Some p.1) same }

pub both_together : {A B : Type 0} (s : A → Field → Option A) (t : B → Field → Option B) (x v : A) (y w : B) (fs : List Field) → Both s t x v y w fs → folded (both s t) (x, y) fs ≡ Some (v, w)
both_together s t x v y w fs h = folded-both s t x y fs ∙ ap (λ o. o >>= λ v. folded t y fs >>= λ w. Some (v, w)) h.first ∙ ap (λ o. o >>= λ w. Some (v, w)) h.second

-- ---- the same message, seen as another type

pub record StepsByParts {M P : Type 0} (step : M → Field → Option M) (parts : M → P) (make : P → M) (s : P → Field → Option P) : Type 0 where
  pub steps : (m : M) (f : Field) → step m f ≡ option_map make (s (parts m) f)
  pub made : (m : M) → make (parts m) ≡ m
  pub parted : (p : P) → parts (make p) ≡ p

seen_step : {M P : Type 0} (step : M → Field → Option M) (parts : M → P) (make : P → M) (s : P → Field → Option P) (fs : List Field) (o : Option P)
    → ((p : P) → folded step (make p) fs ≡ option_map make (folded s p fs))
    → (option_map make o >>= λ m. folded step m fs) ≡ option_map make (o >>= λ p. folded s p fs)
seen_step step parts make s fs None h = refl
seen_step step parts make s fs (Some p) h = h p

folded-made : {M P : Type 0} (step : M → Field → Option M) (parts : M → P) (make : P → M) (s : P → Field → Option P) → StepsByParts step parts make s → (fs : List Field) (p : P) → folded step (make p) fs ≡ option_map make (folded s p fs)
folded-made step parts make s h [] p = refl
folded-made step parts make s h (f ∷ fs) p =
    ap (λ o. o >>= λ m. folded step m fs) (h.steps (make p) f ∙ ap (λ q. option_map make (s q f)) (h.parted p))
    ∙ seen_step step parts make s fs (s p f) (λ q. folded-made step parts make s h fs q)

pub seen_apart : {M P : Type 0} (step : M → Field → Option M) (parts : M → P) (make : P → M) (s : P → Field → Option P) → StepsByParts step parts make s → (fs : List Field) (m n : M) → folded step m fs ≡ Some n → folded s (parts m) fs ≡ Some (parts n)
seen_apart step parts make s h fs m n e =
    let one : folded step m fs ≡ option_map make (folded s (parts m) fs) = ap (λ x. folded step x fs) (sym (h.made m)) ∙ folded-made step parts make s h fs (parts m) in
    let p = mapped make (folded s (parts m) fs) n (sym one ∙ e) in
    p.1 ∙ ap (λ q. Some q) (sym (h.parted p.0) ∙ ap parts p.2)

pub seen_together : {M P : Type 0} (step : M → Field → Option M) (parts : M → P) (make : P → M) (s : P → Field → Option P) → StepsByParts step parts make s → (fs : List Field) (m n : M) → folded s (parts m) fs ≡ Some (parts n) → folded step m fs ≡ Some n
seen_together step parts make s h fs m n e =
    ap (λ x. folded step x fs) (sym (h.made m)) ∙ folded-made step parts make s h fs (parts m) ∙ ap (option_map make) e ∙ ap (λ x. Some x) (h.made n)

-- ---- a member, and its values

abbrev pub read_all : {A B : Type 0} → (A → B → Option A) → A → List B → Option A
read_all read x [] = Some x
read_all read x (b ∷ bs) = read x b >>= λ y. read_all read y bs

bind_some : {A : Type 0} (o : Option A) → o ≡ (o >>= λ y. Some y)
bind_some None = refl
bind_some (Some x) = refl

read_all-next : {A B : Type 0} (read : A → B → Option A) (o : Option A) (bs cs : List B) → ((y : A) → read_all read y (bs ++ cs) ≡ (read_all read y bs >>= λ z. read_all read z cs))
    → (o >>= λ y. read_all read y (bs ++ cs)) ≡ ((o >>= λ y. read_all read y bs) >>= λ z. read_all read z cs)
read_all-next read None bs cs h = refl
read_all-next read (Some x) bs cs h = h x

read_all-append : {A B : Type 0} (read : A → B → Option A) (d : A) (bs cs : List B) → read_all read d (bs ++ cs) ≡ (read_all read d bs >>= λ y. read_all read y cs)
read_all-append read d [] cs = refl
read_all-append read d (b ∷ bs) cs = read_all-next read (read d b) bs cs (λ y. read_all-append read y bs cs)

delimited_one : {A : Type 0} (read : A → List ℕ → Option A) (d : A) (v : Value) (t : Bool) → cond t (delimited read d v) (Some d) ≡ read_all read d (cond t (delimited_value v) [])
delimited_one read d (LengthDelimited bytes) true = bind_some (read d bytes)
delimited_one read d (Varint n) true = refl
delimited_one read d (Fixed64 n) true = refl
delimited_one read d (Fixed32 n) true = refl
delimited_one read d v false = refl

number_one : {A : Type 0} (read : A → ℕ → Option A) (d : A) (v : Value) (t : Bool) → cond t (number read d v) (Some d) ≡ read_all read d (cond t (number_value v) [])
number_one read d (Varint n) true = bind_some (read d n)
number_one read d (LengthDelimited bytes) true = refl
number_one read d (Fixed64 n) true = refl
number_one read d (Fixed32 n) true = refl
number_one read d v false = refl

pub folded-delimited_in : {A : Type 0} (k : ℕ) (read : A → List ℕ → Option A) (d : A) (fs : List Field) → folded (delimited_in k read) d fs ≡ read_all read d (delimited_values k fs)
folded-delimited_in k read d [] = refl
folded-delimited_in k read d (f ∷ fs) =
    let here = cond (nat_eq f.number k) (delimited_value f.value) [] in
    ap (λ o. o >>= λ y. folded (delimited_in k read) y fs) (delimited_one read d f.value (nat_eq f.number k))
    ∙ bind_same (read_all read d here) (λ y. folded (delimited_in k read) y fs) (λ y. read_all read y (delimited_values k fs)) (λ y. folded-delimited_in k read y fs)
    ∙ sym (read_all-append read d here (delimited_values k fs))

folded-number_in : {A : Type 0} (k : ℕ) (read : A → ℕ → Option A) (d : A) (fs : List Field) → folded (number_in k read) d fs ≡ read_all read d (number_values k fs)
folded-number_in k read d [] = refl
folded-number_in k read d (f ∷ fs) =
    let here = cond (nat_eq f.number k) (number_value f.value) [] in
    ap (λ o. o >>= λ y. folded (number_in k read) y fs) (number_one read d f.value (nat_eq f.number k))
    ∙ bind_same (read_all read d here) (λ y. folded (number_in k read) y fs) (λ y. read_all read y (number_values k fs)) (λ y. folded-number_in k read y fs)
    ∙ sym (read_all-append read d here (number_values k fs))

-- ---- texts, bytes, numbers

pub record AreTexts (d x : List ℕ) (bs : List (List ℕ)) : Type 0 where
  pub texts : AllByRecursion IsUtf8 bs
  pub last : x ≡ last_or d bs

texts_read : (d x : List ℕ) (bs : List (List ℕ)) → read_all last_text d bs ≡ Some x → AreTexts d x bs
texts_read d x [] e = record { texts = tt; last = sym (same_Some d x e) }
texts_read d x (b ∷ bs) e =
    let s = bound (text_of b) (λ y. read_all last_text y bs) x e in
    let c = cond_some (is_utf8 b) b s.0 s.1 in
    let r = texts_read s.0 x bs s.2 in
    record { texts = (IsUtf8-from_is_utf8 b c.0, r.texts); last = r.last ∙ ap (λ y. last_or y bs) (sym c.1) }

texts_again : (d : List ℕ) (bs : List (List ℕ)) → AllByRecursion IsUtf8 bs → read_all last_text d bs ≡ Some (last_or d bs)
texts_again d [] h = refl
texts_again d (b ∷ bs) h = let u = is_utf8-from_IsUtf8 b h.0 in rw u (texts_again b bs h.1)

pub text_means : (k : ℕ) (d x : List ℕ) (fs : List Field) → folded (delimited_in k last_text) d fs ≡ Some x → AreTexts d x (delimited_values k fs)
text_means k d x fs e = texts_read d x (delimited_values k fs) (sym (folded-delimited_in k last_text d fs) ∙ e)

pub text_again : (k : ℕ) (d x : List ℕ) (fs : List Field) → AreTexts d x (delimited_values k fs) → folded (delimited_in k last_text) d fs ≡ Some x
text_again k d x fs h = folded-delimited_in k last_text d fs ∙ texts_again d (delimited_values k fs) h.texts ∙ ap (λ y. Some y) (sym h.last)

bytes_again : (d : List ℕ) (bs : List (List ℕ)) → read_all last_bytes d bs ≡ Some (last_or d bs)
bytes_again d [] = refl
bytes_again d (b ∷ bs) = bytes_again b bs

pub bytes_mean : (k : ℕ) (d x : List ℕ) (fs : List Field) → folded (delimited_in k last_bytes) d fs ≡ Some x → x ≡ last_or d (delimited_values k fs)
bytes_mean k d x fs e = same_Some x (last_or d (delimited_values k fs)) (sym e ∙ folded-delimited_in k last_bytes d fs ∙ bytes_again d (delimited_values k fs))

pub bytes_fold : (k : ℕ) (d x : List ℕ) (fs : List Field) → x ≡ last_or d (delimited_values k fs) → folded (delimited_in k last_bytes) d fs ≡ Some x
bytes_fold k d x fs h = folded-delimited_in k last_bytes d fs ∙ bytes_again d (delimited_values k fs) ∙ ap (λ y. Some y) (sym h)

numbers_again : {A : Type 0} (seen : ℕ → A) (d : A) (ns : List ℕ) → read_all (last_number seen) d ns ≡ Some (last_or d (map seen ns))
numbers_again seen d [] = refl
numbers_again seen d (n ∷ ns) = numbers_again seen (seen n) ns

pub number_means : {A : Type 0} (k : ℕ) (seen : ℕ → A) (d x : A) (fs : List Field) → folded (number_in k (last_number seen)) d fs ≡ Some x → x ≡ last_or d (map seen (number_values k fs))
number_means k seen d x fs e = same_Some x (last_or d (map seen (number_values k fs))) (sym e ∙ folded-number_in k (last_number seen) d fs ∙ numbers_again seen d (number_values k fs))

pub number_fold : {A : Type 0} (k : ℕ) (seen : ℕ → A) (d x : A) (fs : List Field) → x ≡ last_or d (map seen (number_values k fs)) → folded (number_in k (last_number seen)) d fs ≡ Some x
number_fold k seen d x fs h = folded-number_in k (last_number seen) d fs ∙ numbers_again seen d (number_values k fs) ∙ ap (λ y. Some y) (sym h)
