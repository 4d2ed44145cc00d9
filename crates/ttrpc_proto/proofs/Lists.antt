-- Members that are messages: a list of them, and one whose values are joined.
use Rattle.std.proofs.Common.{◌≡◌, ℕ, List, [], ◌∷◌, ◌++◌, Option, Some, None, sym, ap, subst, ◌∙◌, append_assoc}
use Rattle.std.specs.List.{AllByRecursion, flat_map}
use Rattle.std.specs.Option.{option_map}
use Rattle.std.proofs.lemmas.Option.{same_Some}
use Rattle.std.proofs.lemmas.List.{append-nil}
use Rattle.std.proofs.lemmas.List.Concat.{flat_map-cons}
use Rattle.ttrpc_wire.specs.Field.{Field}
use Rattle.ttrpc_wire.specs.Reading.{◌>>=◌, fields_of}
use Rattle.ttrpc_wire.specs.Fold.{folded, read_from}
use Rattle.ttrpc_wire.proofs.Agrees.{bound, mapped}
use Rattle.ttrpc_wire.proofs.Fields.{fields_from, are_fields}
use Rattle.ttrpc_wire.proofs.Folds.{reads_append}
use Rattle.ttrpc_wire.specs.Codec.Members.{delimited_in, one_more, joined}
use Rattle.ttrpc_proto.specs.Meaning.{delimited_values, AreEach, Means, AreJoined}
use Rattle.ttrpc_proto.proofs.Means.{read_all, folded-delimited_in}

-- ---- fields of a message, and bytes of one

abbrev pub ReadsTo : {M : Type 0} → (M → Field → Option M) → M → List ℕ → M → Type 0
ReadsTo step empty bytes m = read_from step empty bytes ≡ Some m

pub reads_mean : {M : Type 0} (step : M → Field → Option M) (empty : M) (Of : List Field → M → Type 0) → ((fs : List Field) (m : M) → folded step empty fs ≡ Some m → Of fs m) → (bytes : List ℕ) (m : M) → ReadsTo step empty bytes m → Means Of bytes m
unfolding read_from
reads_mean step empty Of apart bytes m e =
    let s = bound (fields_of bytes) (folded step empty) m e in
    (s.0, are_fields bytes s.0 s.1, apart s.0 m s.2)

pub mean_reads : {M : Type 0} (step : M → Field → Option M) (empty : M) (Of : List Field → M → Type 0) → ((fs : List Field) (m : M) → Of fs m → folded step empty fs ≡ Some m) → (bytes : List ℕ) (m : M) → Means Of bytes m → ReadsTo step empty bytes m
unfolding read_from
mean_reads step empty Of together bytes m h = ap (λ o. o >>= folded step empty) (fields_from bytes h.0 h.1) ∙ together h.0 m h.2

-- ---- a list

pub AreEach-map : {B M : Type 0} (P Q : B → M → Type 0) → ((b : B) (m : M) → P b m → Q b m) → (bs : List B) (ms : List M) → AreEach P bs ms → AreEach Q bs ms
AreEach-map P Q f [] [] h = tt
AreEach-map P Q f [] (m ∷ ms) h = absurd h
AreEach-map P Q f (b ∷ bs) [] h = absurd h
AreEach-map P Q f (b ∷ bs) (m ∷ ms) h = (f b m h.0, AreEach-map P Q f bs ms h.1)

record Grown {M : Type 0} (step : M → Field → Option M) (empty : M) (old xs : List M) (bs : List (List ℕ)) : Type 0 where
  more : List M
  whole : xs ≡ old ++ more
  each : AreEach (ReadsTo step empty) bs more

list_read : {M : Type 0} (step : M → Field → Option M) (empty : M) (old xs : List M) (bs : List (List ℕ)) → read_all (one_more step empty) old bs ≡ Some xs → Grown step empty old xs bs
list_read step empty old xs [] e = record { more = []; whole = sym (same_Some old xs e) ∙ sym (append-nil old); each = tt }
list_read step empty old xs (b ∷ bs) e =
    let s = bound (one_more step empty old b) (λ y. read_all (one_more step empty) y bs) xs e in
    let m = mapped (λ m. old ++ m ∷ []) (read_from step empty b) s.0 s.1 in
    let r = list_read step empty s.0 xs bs s.2 in
    record {
      more = m.0 ∷ r.more;
      whole = r.whole ∙ ap (λ w. w ++ r.more) (sym m.2) ∙ append_assoc old (m.0 ∷ []) r.more;
      each = (m.1, r.each);
    }

list_again : {M : Type 0} (step : M → Field → Option M) (empty : M) (old ys : List M) (bs : List (List ℕ)) → AreEach (ReadsTo step empty) bs ys → read_all (one_more step empty) old bs ≡ Some (old ++ ys)
list_again step empty old [] [] h = ap (λ w. Some w) (sym (append-nil old))
list_again step empty old (y ∷ ys) [] h = absurd h
list_again step empty old [] (b ∷ bs) h = absurd h
list_again step empty old (y ∷ ys) (b ∷ bs) h =
    ap (λ o. option_map (λ m. old ++ m ∷ []) o >>= λ z. read_all (one_more step empty) z bs) h.0
    ∙ list_again step empty (old ++ y ∷ []) ys bs h.1 ∙ ap (λ w. Some w) (append_assoc old (y ∷ []) ys)

pub list_means : {M : Type 0} (k : ℕ) (step : M → Field → Option M) (empty : M) (xs : List M) (fs : List Field) → folded (delimited_in k (one_more step empty)) [] fs ≡ Some xs → AreEach (ReadsTo step empty) (delimited_values k fs) xs
list_means k step empty xs fs e =
    let r = list_read step empty [] xs (delimited_values k fs) (sym (folded-delimited_in k (one_more step empty) [] fs) ∙ e) in
    subst (AreEach (ReadsTo step empty) (delimited_values k fs)) (sym r.whole) r.each

pub list_fold : {M : Type 0} (k : ℕ) (step : M → Field → Option M) (empty : M) (old xs : List M) (fs : List Field) → AreEach (ReadsTo step empty) (delimited_values k fs) xs → folded (delimited_in k (one_more step empty)) old fs ≡ Some (old ++ xs)
list_fold k step empty old xs fs h = folded-delimited_in k (one_more step empty) old fs ∙ list_again step empty old xs (delimited_values k fs) h

-- from a list that isn't empty: which messages come doesn't depend on it
pub list_more : {M : Type 0} (k : ℕ) (step : M → Field → Option M) (empty : M) (old xs : List M) (fs : List Field) → folded (delimited_in k (one_more step empty)) old fs ≡ Some xs → (ys : List M) × AreEach (ReadsTo step empty) (delimited_values k fs) ys
list_more k step empty old xs fs e =
    let r = list_read step empty old xs (delimited_values k fs) (sym (folded-delimited_in k (one_more step empty) old fs) ∙ e) in
    (r.more, r.each)

-- ---- values that are joined

-- whether bytes are refused doesn't depend on the message so far
pub record IsEven {M : Type 0} (step : M → Field → Option M) : Type 0 where
  pub evenly : (m n x : M) (bytes : List ℕ) → ReadsTo step m bytes x → (y : M) × ReadsTo step n bytes y

abbrev pub all_of : List (List ℕ) → List ℕ
all_of bs = flat_map (λ x. x) bs

abbrev pub ByItself : {M : Type 0} → (M → Field → Option M) → M → List ℕ → Type 0
ByItself {M = M} step empty b = (n : M) × ReadsTo step empty b n

record Joined {M : Type 0} (step : M → Field → Option M) (empty : M) (front : List ℕ) (o : Option M) (bs : List (List ℕ)) : Type 0 where
  what : M
  is : o ≡ Some what
  reads : ReadsTo step empty (front ++ all_of bs) what
  each : AllByRecursion (ByItself step empty) bs

joined_read : {M : Type 0} (step : M → Field → Option M) (empty : M) → IsEven step → (front : List ℕ) (n : M) (o : Option M) (bs : List (List ℕ)) → ReadsTo step empty front n → read_all (joined step empty) (Some n) bs ≡ Some o → Joined step empty front o bs
joined_read step empty h front n o [] e r = record { what = n; is = sym (same_Some (Some n) o r); reads = ap (read_from step empty) (append-nil front) ∙ e; each = tt }
joined_read step empty h front n o (b ∷ bs) e r =
    let s = bound (joined step empty (Some n) b) (λ y. read_all (joined step empty) y bs) o r in
    let m = mapped (λ m. Some m) (read_from step n b) s.0 s.1 in
    let both : ReadsTo step empty (front ++ b) m.0 = reads_append step empty n front b e ∙ m.1 in
    let later = joined_read step empty h (front ++ b) m.0 o bs both (ap (λ y. read_all (joined step empty) y bs) m.2 ∙ s.2) in
    record {
      what = later.what;
      is = later.is;
      reads = ap (λ (w : List ℕ). read_from step empty (front ++ w)) (flat_map-cons (λ x. x) b bs) ∙ ap (read_from step empty) (sym (append_assoc front b (all_of bs))) ∙ later.reads;
      each = (h.evenly n empty m.0 b m.1, later.each);
    }

joined_again : {M : Type 0} (step : M → Field → Option M) (empty : M) → IsEven step → (front : List ℕ) (n m : M) (bs : List (List ℕ)) → ReadsTo step empty front n → ReadsTo step empty (front ++ all_of bs) m → AllByRecursion (ByItself step empty) bs → read_all (joined step empty) (Some n) bs ≡ Some (Some m)
joined_again step empty h front n m [] e r all =
    ap (λ x. Some (Some x)) (same_Some n m (sym e ∙ sym (ap (read_from step empty) (append-nil front)) ∙ r))
joined_again step empty h front n m (b ∷ bs) e r all =
    let x = h.evenly empty n all.0.0 b all.0.1 in
    let both : ReadsTo step empty (front ++ b) x.0 = reads_append step empty n front b e ∙ x.1 in
    let whole : ReadsTo step empty ((front ++ b) ++ all_of bs) m = ap (read_from step empty) (append_assoc front b (all_of bs)) ∙ ap (λ (w : List ℕ). read_from step empty (front ++ w)) (sym (flat_map-cons (λ x. x) b bs)) ∙ r in
    ap (λ o. option_map (λ m. Some m) o >>= λ y. read_all (joined step empty) y bs) x.1 ∙ joined_again step empty h (front ++ b) x.0 m bs both whole all.1

joined_first : {M : Type 0} (step : M → Field → Option M) (empty : M) → IsEven step → (o : Option M) (bs : List (List ℕ)) → read_all (joined step empty) None bs ≡ Some o → AreJoined (ReadsTo step empty) bs o
joined_first step empty h o [] e = sym (same_Some None o e)
joined_first step empty h o (b ∷ bs) e =
    let s = bound (joined step empty None b) (λ y. read_all (joined step empty) y bs) o e in
    let m = mapped (λ m. Some m) (read_from step empty b) s.0 s.1 in
    let later = joined_read step empty h b m.0 o bs m.1 (ap (λ y. read_all (joined step empty) y bs) m.2 ∙ s.2) in
    subst (AreJoined (ReadsTo step empty) (b ∷ bs)) (sym later.is) (ap (read_from step empty) (flat_map-cons (λ x. x) b bs) ∙ later.reads, ((m.0, m.1), later.each))

joined_first_again : {M : Type 0} (step : M → Field → Option M) (empty : M) → IsEven step → (o : Option M) (bs : List (List ℕ)) → AreJoined (ReadsTo step empty) bs o → read_all (joined step empty) None bs ≡ Some o
joined_first_again step empty h o [] e = ap (λ x. Some x) (sym e)
joined_first_again step empty h None (b ∷ bs) e = absurd e
joined_first_again step empty h (Some m) (b ∷ bs) e =
    ap (λ o. option_map (λ m. Some m) o >>= λ y. read_all (joined step empty) y bs) e.1.0.1
    ∙ joined_again step empty h b e.1.0.0 m bs e.1.0.1 (sym (ap (read_from step empty) (flat_map-cons (λ x. x) b bs)) ∙ e.0) e.1.1

pub joined_means : {M : Type 0} (k : ℕ) (step : M → Field → Option M) (empty : M) → IsEven step → (o : Option M) (fs : List Field) → folded (delimited_in k (joined step empty)) None fs ≡ Some o → AreJoined (ReadsTo step empty) (delimited_values k fs) o
joined_means k step empty h o fs e = joined_first step empty h o (delimited_values k fs) (sym (folded-delimited_in k (joined step empty) None fs) ∙ e)

pub joined_fold : {M : Type 0} (k : ℕ) (step : M → Field → Option M) (empty : M) → IsEven step → (o : Option M) (fs : List Field) → AreJoined (ReadsTo step empty) (delimited_values k fs) o → folded (delimited_in k (joined step empty)) None fs ≡ Some o
joined_fold k step empty h o fs e = folded-delimited_in k (joined step empty) None fs ∙ joined_first_again step empty h o (delimited_values k fs) e

all_map : {A : Type 0} (P Q : A → Type 0) → ((x : A) → P x → Q x) → (xs : List A) → AllByRecursion P xs → AllByRecursion Q xs
all_map P Q f [] h = tt
all_map P Q f (x ∷ xs) h = (f x h.0, all_map P Q f xs h.1)

pub AreJoined-map : {M : Type 0} (P Q : List ℕ → M → Type 0) → ((b : List ℕ) (m : M) → P b m → Q b m) → (bs : List (List ℕ)) (o : Option M) → AreJoined P bs o → AreJoined Q bs o
AreJoined-map P Q f [] o h = h
AreJoined-map P Q f (b ∷ bs) None h = absurd h
AreJoined-map {M = M} P Q f (b ∷ bs) (Some m) h = (f _ m h.0, all_map (λ x. (n : M) × P x n) (λ x. (n : M) × Q x n) (λ x n. (n.0, f x n.0 n.1)) (b ∷ bs) h.1)
