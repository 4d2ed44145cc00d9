-- How what a receiver was told follows what it saw of what was put in.
use Rattle.ttrpc_world_trace.proofs.StoryWords.{[], after, after_closed, AfterError, ap, append-nil, Bool, Closed, closed, Err, Error, false, Fresh, got, has_end, inl, inr, is_end, items, List, Mood, Ok, Open, Receiver, refl, RemoteClosed, subst, sym, MailboxEntry, ThingEnd, ThingItem, ThingLast, true, Word, ℕ, ◌++◌, ◌||◌, ◌∙◌, ◌∷◌, ◌≡◌, ◌⊎◌}

-- an error that is no end
abbrev pub IsPlain : Error → Type 0
IsPlain error = (m : Mood) → after m (Err error) ≡ AfterError

-- what is so once all of this was told
abbrev pub mood : Mood → List Word → Mood
mood m [] = m
mood m (x ∷ xs) = mood (after m x) xs

-- What was seen is what was told, and where an end was told, it is closed. The receiver goes on to be told that the other
-- side has closed only behind a close or an error.
pub record Reading (seen : List MailboxEntry) (told : List Word) (receiver : Receiver) : Type 0 where
  pub items_are : items seen ≡ got told
  pub ends_are : has_end Fresh told ≡ true → closed seen ≡ true
  pub stops : receiver ≡ Closed → (closed seen ≡ true) ⊎ (mood Fresh told ≡ AfterError)

-- ---- lists

pub items_append : (xs ys : List MailboxEntry) → items (xs ++ ys) ≡ items xs ++ items ys
items_append [] ys = refl
items_append (ThingItem bytes ∷ xs) ys = ap (λ zs. bytes ∷ zs) (items_append xs ys)
items_append (ThingLast bytes ∷ xs) ys = ap (λ zs. bytes ∷ zs) (items_append xs ys)
items_append (x ∷ xs) ys = items_append xs ys

pub got_append : (xs ys : List Word) → got (xs ++ ys) ≡ got xs ++ got ys
got_append [] ys = refl
got_append (Ok bytes ∷ xs) ys = ap (λ zs. bytes ∷ zs) (got_append xs ys)
got_append (Err e ∷ xs) ys = got_append xs ys

pub closed_front : (xs ys : List MailboxEntry) → closed xs ≡ true → closed (xs ++ ys) ≡ true
closed_front [] ys h = cc
closed_front (ThingLast bytes ∷ xs) ys h = refl
closed_front (ThingEnd ∷ xs) ys h = refl
closed_front (x ∷ xs) ys h = closed_front xs ys h

closed_back : (xs ys : List MailboxEntry) → closed ys ≡ true → closed (xs ++ ys) ≡ true
closed_back [] ys h = h
closed_back (ThingLast bytes ∷ xs) ys h = refl
closed_back (ThingEnd ∷ xs) ys h = refl
closed_back (x ∷ xs) ys h = closed_back xs ys h

pub closed_rest : (xs ys : List MailboxEntry) → closed (xs ++ ys) ≡ false → closed ys ≡ false
closed_rest [] ys h = h
closed_rest (ThingLast bytes ∷ xs) ys h = cc
closed_rest (ThingEnd ∷ xs) ys h = cc
closed_rest (x ∷ xs) ys h = closed_rest xs ys h

pub closed_item : (xs : List MailboxEntry) (bytes : List ℕ) → closed (xs ++ ThingItem bytes ∷ []) ≡ closed xs
closed_item [] bytes = refl
closed_item (ThingLast b ∷ xs) bytes = refl
closed_item (ThingEnd ∷ xs) bytes = refl
closed_item (x ∷ xs) bytes = closed_item xs bytes

mood_more : (m : Mood) (xs : List Word) (x : Word) → mood m (xs ++ x ∷ []) ≡ after (mood m xs) x
mood_more m [] x = refl
mood_more m (y ∷ xs) x = mood_more (after m y) xs x

or_false : (b : Bool) → (b || false) ≡ b
or_false true = refl
or_false false = refl

or_assoc : (a b c : Bool) → (a || (b || c)) ≡ ((a || b) || c)
or_assoc true b c = refl
or_assoc false b c = refl

end_more : (m : Mood) (xs : List Word) (x : Word) → has_end m (xs ++ x ∷ []) ≡ (has_end m xs || is_end (after (mood m xs) x))
end_more m [] x = or_false (is_end (after m x))
end_more m (y ∷ xs) x =
    ap (λ b. is_end (after m y) || b) (end_more (after m y) xs x) ∙ or_assoc (is_end (after m y)) (has_end (after m y) xs) (is_end (after (mood (after m y) xs) x))

pub either : (b c : Bool) (P : Type 0) → (b ≡ true → P) → (c ≡ true → P) → (b || c) ≡ true → P
either true c P f g h = f refl
either false c P f g h = g h

-- ---- one more thing is told

told_more : {seen seen2 : List MailboxEntry} {told : List Word} {receiver receiver2 : Receiver} (x : Word) → Reading seen told receiver → items seen2 ≡ items seen ++ got (x ∷ []) → (closed seen ≡ true → closed seen2 ≡ true)
    → (is_end (after (mood Fresh told) x) ≡ true → closed seen2 ≡ true) → (receiver2 ≡ Closed → (closed seen2 ≡ true) ⊎ (after (mood Fresh told) x ≡ AfterError)) → Reading seen2 (told ++ x ∷ []) receiver2
told_more {seen} {seen2} {told} {receiver} {receiver2} x r i c e s = record {
  items_are = i ∙ ap (λ ys. ys ++ got (x ∷ [])) r.items_are ∙ sym (got_append told (x ∷ []));
  ends_are = λ h. either (has_end Fresh told) (is_end (after (mood Fresh told) x)) (closed seen2 ≡ true) (λ b. c (r.ends_are b)) e (sym (end_more Fresh told x) ∙ h);
  stops = λ h. subst (λ (m : Mood). (closed seen2 ≡ true) ⊎ (m ≡ AfterError)) (sym (mood_more Fresh told x)) (s h);
}

pub reads_item : {seen : List MailboxEntry} {told : List Word} (bytes : List ℕ) → Reading seen told Open → Reading (seen ++ ThingItem bytes ∷ []) (told ++ Ok bytes ∷ []) Open
reads_item {seen} bytes r = told_more (Ok bytes) r (items_append seen (ThingItem bytes ∷ [])) (closed_front seen (ThingItem bytes ∷ [])) (λ e. cc) (λ e. cc)

-- the last thing, by which it is closed
pub reads_last : {seen : List MailboxEntry} {told : List Word} (x : MailboxEntry) (w : Word) → closed (x ∷ []) ≡ true → items (x ∷ []) ≡ got (w ∷ []) → Reading seen told Open → Reading (seen ++ x ∷ []) (told ++ w ∷ []) Closed
reads_last {seen} x w last same r =
    let done : closed (seen ++ x ∷ []) ≡ true = closed_back seen (x ∷ []) last in
    told_more w r (items_append seen (x ∷ []) ∙ ap (λ ys. items seen ++ ys) same) (λ e. done) (λ e. done) (λ e. inl done)

-- an error that is no end
pub reads_error : {seen : List MailboxEntry} {told : List Word} {receiver receiver2 : Receiver} (e : Error) → IsPlain e → Reading seen told receiver → Reading seen (told ++ Err e ∷ []) receiver2
reads_error {seen} {told} e plain r = told_more (Err e) r (sym (append-nil (items seen))) (λ h. h)
    (λ h. let bad : is_end AfterError ≡ true = sym (ap is_end (plain (mood Fresh told))) ∙ h in cc)
    (λ h. inr (plain (mood Fresh told)))

-- that the other side has closed, again and again
pub reads_stop : {seen : List MailboxEntry} {told : List Word} → Reading seen told Closed → Reading seen (told ++ Err RemoteClosed ∷ []) Closed
reads_stop {seen} {told} r = elim (r.stops refl) [
  | inl done ↦ told_more (Err RemoteClosed) r (sym (append-nil (items seen))) (λ h. h) (λ h. done) (λ h. inl done)
  | inr bad ↦ told_more (Err RemoteClosed) r (sym (append-nil (items seen))) (λ h. h)
      (λ h. let no : is_end (after_closed AfterError) ≡ true = subst (λ (m : Mood). is_end (after_closed m) ≡ true) bad h in cc)
      (λ h. inr (ap after_closed bad))
]

-- a receiver that isn't closed by the other side
pub reads_on : {seen : List MailboxEntry} {told : List Word} {receiver : Receiver} (receiver2 : Receiver) → (receiver2 ≡ Closed → ⊥) → Reading seen told receiver → Reading seen told receiver2
reads_on receiver2 shut r = record { items_are = r.items_are; ends_are = r.ends_are; stops = λ e. absurd (shut e) }

-- nothing was seen, and nothing told
pub nothing_read : Reading [] [] Open
nothing_read = record { items_are = refl; ends_are = λ e. cc; stops = λ e. cc }
