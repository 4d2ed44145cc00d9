-- One direction of one call or stream, either way, over the table of a mailbox: what was put in and not seen follows what waits
-- in the mailbox and then what is under way, up to the first thing that closes. No ids, no frames and no jobs.
use Rattle.ttrpc_world_trace.proofs.StoryWords.{[], AllByRecursion, answer_by, answer_of, ap, append-nil, append_assoc, Bool, broken, Broken, Closed, closed, Dropped, empty_mail, Eof, Err, Error, error_of, Failure, false, inl, inr, IsInOrder, items, kept_for, left_at, List, Mail, MemoryRefused, None, Ok, Open, Option, past_error, Receiver, Receives, refl, Some, subst, sym, MailboxEntry, ThingBreaking, ThingClosing, ThingEnd, ThingItem, ThingLast, true, with_thing, Word, words_of, ℕ, ◌++◌, ◌||◌, ◌∙◌, ◌∷◌, ◌≡◌, ◌⊎◌}
use Rattle.ttrpc_world_trace.proofs.Reading.{closed_front, closed_item, closed_rest, either, IsPlain, items_append, Reading, reads_error, reads_item, reads_last, reads_on, reads_stop}

-- behind this nothing comes
abbrev pub closes : MailboxEntry → Bool
closes (ThingItem bytes) = false
closes x = true

-- one of these is such
abbrev pub has_closing : List MailboxEntry → Bool
has_closing [] = false
has_closing (x ∷ xs) = closes x || has_closing xs

-- What was put in and not seen is what is on the way, up to the first close in both. A close may be put in that never comes,
-- and an error may come at any place, which is no end; behind either nothing is said.
abbrev pub Follows : List MailboxEntry → List MailboxEntry → Type 0
Follows rest [] = (rest ≡ []) ⊎ (rest ≡ ThingEnd ∷ [])
Follows rest (ThingItem b ∷ way) = (more : List MailboxEntry) × (rest ≡ ThingItem b ∷ more) × Follows more way
Follows rest (ThingLast b ∷ way) = rest ≡ ThingLast b ∷ []
Follows rest (ThingEnd ∷ way) = rest ≡ ThingEnd ∷ []
Follows rest (ThingClosing error ∷ way) = IsPlain error
Follows rest (ThingBreaking error ∷ way) = IsPlain error

-- such an error
abbrev pub IsTurning : MailboxEntry → Type 0
IsTurning x = (rest way : List MailboxEntry) → Follows rest (x ∷ way)

-- what was put in is cut in two: what was seen, and what wasn't
pub record Cut (put : List MailboxEntry) (told : List Word) (receiver : Receiver) : Type 0 where
  pub seen : List MailboxEntry
  pub rest : List MailboxEntry
  pub all : put ≡ seen ++ rest
  pub reading : Reading seen told receiver
  pub past : closed seen ≡ true → rest ≡ []

-- THE INVARIANT OF ONE DIRECTION. Only a receiver that is open is tied to its mailbox and to what is under way.
pub record Flowing (put : List MailboxEntry) (told : List Word) (m : Mail) (flight : List MailboxEntry) : Type 0 where
  pub cut : Cut put told m.receiver
  pub linked : m.receiver ≡ Open → Follows cut.rest (m.things ++ flight)
  pub full : m.receiver ≡ Open → m.ended ≡ true → has_closing m.things ≡ true

-- ITEMS IN ORDER
pub in_order : {put : List MailboxEntry} {told : List Word} {m : Mail} {flight : List MailboxEntry} → Flowing put told m flight → IsInOrder put told
in_order f =
    let c = f.cut in
    record {
      rest = items c.rest;
      beginning = ap items c.all ∙ items_append c.seen c.rest ∙ ap (λ xs. xs ++ items c.rest) c.reading.items_are;
      whole = λ h. let done = c.reading.ends_are h in (ap items (c.past done), ap closed c.all ∙ closed_front c.seen c.rest done);
    }

-- nothing was put in, and errors alone were told
pub begins : {told : List Word} → Reading [] told Open → Flowing [] told empty_mail []
begins r = record { cut = record { seen = []; rest = []; all = refl; reading = r; past = λ e. refl }; linked = λ o. inl refl; full = λ o e. cc }

-- ---- something is put in

follows_more : (rest way more : List MailboxEntry) (x : MailboxEntry) → Follows (x ∷ []) more → closed rest ≡ false → Follows rest way → Follows (rest ++ x ∷ []) (way ++ more)
follows_more rest [] more x s c (inl h) = subst (λ (r : List MailboxEntry). Follows (r ++ x ∷ []) more) (sym h) s
follows_more rest [] more x s c (inr h) = let bad : true ≡ false = sym (ap closed h) ∙ c in cc
follows_more rest (ThingItem b ∷ way) more x s c h = (h.0 ++ x ∷ [], ap (λ r. r ++ x ∷ []) h.1, follows_more h.0 way more x s (sym (ap closed h.1) ∙ c) h.2)
follows_more rest (ThingLast b ∷ way) more x s c h = let bad : true ≡ false = sym (ap closed h) ∙ c in cc
follows_more rest (ThingEnd ∷ way) more x s c h = let bad : true ≡ false = sym (ap closed h) ∙ c in cc
follows_more rest (y ∷ way) more x s c h = h

-- It goes as this: as itself, as an error, or not at all if it is the close.
pub puts : {put : List MailboxEntry} {told : List Word} {m : Mail} {flight : List MailboxEntry} (x : MailboxEntry) (more : List MailboxEntry) → Follows (x ∷ []) more → closed put ≡ false → Flowing put told m flight → Flowing (put ++ x ∷ []) told m (flight ++ more)
puts {m = m} {flight = flight} x more s c f =
    let seen = f.cut.seen in
    let rest = f.cut.rest in
    let unclosed : closed (seen ++ rest) ≡ false = sym (ap closed f.cut.all) ∙ c in
    record {
      cut = record {
        seen = seen;
        rest = rest ++ x ∷ [];
        all = ap (λ xs. xs ++ x ∷ []) f.cut.all ∙ append_assoc seen rest (x ∷ []);
        reading = f.cut.reading;
        past = λ e. let bad : true ≡ false = sym (closed_front seen rest e) ∙ unclosed in cc;
      };
      linked = λ o. subst (λ (w : List MailboxEntry). Follows (rest ++ x ∷ []) w) (append_assoc m.things flight more) (follows_more rest (m.things ++ flight) more x s (closed_rest seen rest unclosed) (f.linked o));
      full = f.full;
    }

-- ---- something comes that wasn't put in

-- an error comes in anywhere
follows_cut : (rest xs way way2 : List MailboxEntry) (x : MailboxEntry) → IsTurning x → Follows rest (xs ++ way) → Follows rest (xs ++ x ∷ way2)
follows_cut rest [] way way2 x n h = n rest way2
follows_cut rest (ThingItem b ∷ xs) way way2 x n h = (h.0, h.1, follows_cut h.0 xs way way2 x n h.2)
follows_cut rest (y ∷ xs) way way2 x n h = h

turns_one : {put : List MailboxEntry} {told : List Word} {m : Mail} {flight : List MailboxEntry} (x : MailboxEntry) → IsTurning x → Flowing put told m flight → Flowing put told m (flight ++ x ∷ [])
turns_one {m = m} {flight = flight} x n f =
    let rest = f.cut.rest in
    let cut_in = λ (o : m.receiver ≡ Open). follows_cut rest (m.things ++ flight) [] [] x n (subst (λ (w : List MailboxEntry). Follows rest w) (sym (append-nil (m.things ++ flight))) (f.linked o)) in
    record { cut = f.cut; full = f.full; linked = λ o. subst (λ (w : List MailboxEntry). Follows rest w) (append_assoc m.things flight (x ∷ [])) (cut_in o) }

-- Errors are under way, behind all else.
pub turns : {put : List MailboxEntry} {told : List Word} {m : Mail} {flight : List MailboxEntry} (xs : List MailboxEntry) → AllByRecursion IsTurning xs → Flowing put told m flight → Flowing put told m (flight ++ xs)
turns {put} {told} {m} {flight} [] n f = subst (λ (w : List MailboxEntry). Flowing put told m w) (sym (append-nil flight)) f
turns {put} {told} {m} {flight} (x ∷ xs) n f = subst (λ (w : List MailboxEntry). Flowing put told m w) (append_assoc flight (x ∷ []) xs) (turns xs n.1 (turns_one x n.0 f))

-- ---- the first thing under way comes

closing_last : (xs : List MailboxEntry) (x : MailboxEntry) → closes x ≡ true → has_closing (xs ++ x ∷ []) ≡ true
closing_last [] x h = rw h refl
closing_last (ThingItem b ∷ xs) x h = closing_last xs x h
closing_last (y ∷ xs) x h = refl

closing_more : (xs : List MailboxEntry) (x : MailboxEntry) → has_closing xs ≡ true → has_closing (xs ++ x ∷ []) ≡ true
closing_more [] x h = cc
closing_more (ThingItem b ∷ xs) x h = closing_more xs x h
closing_more (y ∷ xs) x h = refl

-- it comes as itself, or as an error
abbrev pub ComesAs : MailboxEntry → MailboxEntry → Type 0
ComesAs x y = (y ≡ x) ⊎ IsTurning y

follows_as : (rest xs way : List MailboxEntry) (x y : MailboxEntry) → ComesAs x y → Follows rest (xs ++ x ∷ way) → Follows rest (xs ++ y ∷ way)
follows_as rest xs way x y (inl same) h = subst (λ (z : MailboxEntry). Follows rest (xs ++ z ∷ way)) (sym same) h
follows_as rest xs way x y (inr n) h = follows_cut rest xs (x ∷ way) way y n h

-- It is put into the mailbox.
pub lands : {put : List MailboxEntry} {told : List Word} {m : Mail} {flight : List MailboxEntry} (x y : MailboxEntry) (ends : Bool) → ComesAs x y → (ends ≡ true → closes y ≡ true) → Flowing put told m (x ∷ flight) → Flowing put told (with_thing m y ends) flight
lands {m = m} {flight = flight} x y ends as_is last f =
    let kept : m.receiver ≡ Open → kept_for m.receiver m.things y ≡ m.things ++ y ∷ [] = λ o. ap (λ r. kept_for r m.things y) o in
    let rest = f.cut.rest in
    record {
      cut = f.cut;
      linked = λ o. subst (λ (w : List MailboxEntry). Follows rest (w ++ flight)) (sym (kept o))
          (subst (λ (w : List MailboxEntry). Follows rest w) (sym (append_assoc m.things (y ∷ []) flight)) (follows_as rest m.things flight x y as_is (f.linked o)));
      full = λ o e. ap has_closing (kept o) ∙ either m.ended ends (has_closing (m.things ++ y ∷ []) ≡ true) (λ b. closing_more m.things y (f.full o b)) (λ b. closing_last m.things y (last b)) e;
    }

-- behind a thing that closes anything may come
follows_past : (rest xs way way2 : List MailboxEntry) → has_closing xs ≡ true → Follows rest (xs ++ way) → Follows rest (xs ++ way2)
follows_past rest [] way way2 e h = cc
follows_past rest (ThingItem b ∷ xs) way way2 e h = (h.0, h.1, follows_past h.0 xs way way2 e h.2)
follows_past rest (x ∷ xs) way way2 e h = h

-- Or it is passed over: a mailbox whose receiver is open has ended then.
pub loses : {put : List MailboxEntry} {told : List Word} {m : Mail} {flight : List MailboxEntry} (x : MailboxEntry) → (m.receiver ≡ Open → m.ended ≡ true) → Flowing put told m (x ∷ flight) → Flowing put told m flight
loses {m = m} {flight = flight} x n f = record { cut = f.cut; full = f.full; linked = λ o. follows_past f.cut.rest m.things (x ∷ flight) flight (f.full o (n o)) (f.linked o) }

-- what was told changes, or who is told, and nothing more is seen
abbrev reads_so : {put : List MailboxEntry} {told told2 : List Word} {receiver receiver2 : Receiver} → (c : Cut put told receiver) → Reading c.seen told2 receiver2 → Cut put told2 receiver2
reads_so c r = record { seen = c.seen; rest = c.rest; all = c.all; reading = r; past = c.past }

-- The receiver is dropped, and anything may be under way.
pub drops : {put : List MailboxEntry} {told : List Word} {m : Mail} {flight : List MailboxEntry} (m2 : Mail) (flight2 : List MailboxEntry) → m2.receiver ≡ Dropped → Flowing put told m flight → Flowing put told m2 flight2
drops m2 flight2 gone f =
    let shut : m2.receiver ≡ Open → ⊥ = λ o. let bad : Open ≡ Dropped = sym o ∙ gone in cc in
    let reading = reads_on m2.receiver (λ e. let bad : Closed ≡ Dropped = sym e ∙ gone in cc) f.cut.reading in
    record { cut = reads_so f.cut reading; linked = λ o. absurd (shut o); full = λ o. absurd (shut o) }

-- ---- the receiver is told something

-- An error is told that is no end, and the mailbox stays.
pub aside : {put : List MailboxEntry} {told : List Word} {m : Mail} {flight : List MailboxEntry} (e : Error) → IsPlain e → Flowing put told m flight → Flowing put (told ++ Err e ∷ []) m flight
aside e plain f = record { cut = reads_so f.cut (reads_error e plain f.cut.reading); linked = f.linked; full = f.full }

-- and the receiver isn't open any more
fails : {put : List MailboxEntry} {told : List Word} {m : Mail} {flight : List MailboxEntry} (m2 : Mail) (e : Error) → IsPlain e → (m2.receiver ≡ Open → ⊥) → Flowing put told m flight → Flowing put (told ++ Err e ∷ []) m2 flight
fails m2 e plain shut f = record { cut = reads_so f.cut (reads_error e plain f.cut.reading); linked = λ o. absurd (shut o); full = λ o. absurd (shut o) }

abbrev pub mail : Receiver → List MailboxEntry → Bool → Mail
mail receiver things ended = record { things = things; receiver = receiver; ended = ended }

sees_item : {put : List MailboxEntry} {told : List Word} {flight : List MailboxEntry} (b : List ℕ) (xs : List MailboxEntry) (ended : Bool) → Flowing put told (mail Open (ThingItem b ∷ xs) ended) flight → Flowing put (told ++ Ok b ∷ []) (mail Open xs ended) flight
sees_item b xs ended f =
    let l = f.linked refl in
    let c = f.cut in
    record {
      cut = record {
        seen = c.seen ++ ThingItem b ∷ [];
        rest = l.0;
        all = c.all ∙ ap (λ zs. c.seen ++ zs) l.1 ∙ sym (append_assoc c.seen (ThingItem b ∷ []) l.0);
        reading = reads_item b c.reading;
        past = λ e. let bad : ThingItem b ∷ l.0 ≡ [] = sym l.1 ∙ c.past (sym (closed_item c.seen b) ∙ e) in cc;
      };
      linked = λ o. l.2;
      full = λ o e. f.full refl e;
    }

sees_last : {put : List MailboxEntry} {told : List Word} {m : Mail} {flight : List MailboxEntry} (x : MailboxEntry) (w : Word) (ended : Bool) → ((seen : List MailboxEntry) → Reading seen told m.receiver → Reading (seen ++ x ∷ []) (told ++ w ∷ []) Closed)
    → (f : Flowing put told m flight) → f.cut.rest ≡ x ∷ [] → Flowing put (told ++ w ∷ []) (mail Closed [] ended) flight
sees_last x w ended reads f l =
    let seen = f.cut.seen ++ x ∷ [] in
    let all = f.cut.all ∙ ap (λ zs. f.cut.seen ++ zs) l ∙ sym (append-nil seen) in
    record { cut = record { seen = seen; rest = []; all = all; reading = reads f.cut.seen f.cut.reading; past = λ e. refl }; linked = λ o. cc; full = λ o. cc }

-- a failure is no end
abbrev pub IsPlainFailure : Option Failure → Type 0
IsPlainFailure None = Unit {0}
IsPlainFailure (Some why) = IsPlain (error_of why)

-- what asking gives, by the fields of the mailbox: the failure stands behind all else
abbrev word_at : Option Failure → Bool → Receiver → List MailboxEntry → Option Word
word_at (Some why) false Open [] = Some (Err (error_of why))
word_at failure ended receiver things = answer_of receiver things

word_is : (failure : Option Failure) (ended : Bool) (receiver : Receiver) (things : List MailboxEntry) → answer_by (broken failure (mail receiver things ended)) ≡ word_at failure ended receiver things
word_is None ended receiver things = refl
word_is (Some why) false Open (ThingItem b ∷ xs) = refl
word_is (Some why) ended receiver things = refl

-- nothing is told
still : {put : List MailboxEntry} {told : List Word} {m : Mail} {flight : List MailboxEntry} → Flowing put told m flight → Flowing put (told ++ []) m flight
still {put} {told} {m} {flight} f = subst (λ (ws : List Word). Flowing put ws m flight) (sym (append-nil told)) f

-- what the first thing in the mailbox gives
by_answer : {put : List MailboxEntry} {told : List Word} {flight : List MailboxEntry} (failure : Option Failure) (ended : Bool) (receiver : Receiver) (things : List MailboxEntry) → Flowing put told (mail receiver things ended) flight
    → Flowing put (told ++ words_of (answer_of receiver things)) (left_at failure ended receiver things) flight
by_answer failure ended Closed things f =
    record { cut = reads_so f.cut (reads_stop f.cut.reading); linked = λ o. cc; full = λ o. cc }
by_answer None ended Open [] f = still f
by_answer (Some why) true Open [] f = still f
by_answer (Some why) false Open [] f =
    still (record { cut = reads_so f.cut (reads_on Broken (λ e. cc) f.cut.reading); linked = λ o. cc; full = λ o. cc })
by_answer failure ended Open (ThingItem b ∷ xs) f = sees_item b xs ended f
by_answer failure ended Open (ThingLast b ∷ xs) f = sees_last (ThingLast b) (Ok b) ended (λ s r. reads_last (ThingLast b) (Ok b) refl refl r) f (f.linked refl)
by_answer failure ended Open (ThingEnd ∷ xs) f = sees_last ThingEnd (Err Eof) ended (λ s r. reads_last ThingEnd (Err Eof) refl refl r) f (f.linked refl)
by_answer failure ended Open (ThingClosing e ∷ xs) f = fails _ e (f.linked refl) (λ o. cc) f
by_answer failure ended Open (ThingBreaking e ∷ xs) f = fails _ e (f.linked refl) (λ o. cc) f
by_answer failure ended receiver things f = fails _ past_error (λ m. refl) (λ o. cc) f

by_table : {put : List MailboxEntry} {told : List Word} {flight : List MailboxEntry} (failure : Option Failure) (ended : Bool) (receiver : Receiver) (things : List MailboxEntry) → IsPlainFailure failure → Flowing put told (mail receiver things ended) flight
    → Flowing put (told ++ words_of (word_at failure ended receiver things)) (left_at failure ended receiver things) flight
by_table (Some why) false Open [] plain f = fails _ (error_of why) plain (λ o. cc) f
by_table failure ended receiver things plain f = by_answer failure ended receiver things f

-- THE TURN OF A RECEIVER, by the table
pub reads : {put : List MailboxEntry} {told : List Word} {flight : List MailboxEntry} (failure : Option Failure) (m : Mail) (given : Option Word) (m2 : Mail) → IsPlainFailure failure → Receives failure m given m2 → Flowing put told m flight
    → Flowing put (told ++ words_of given) m2 flight
reads {put} {told} {flight} failure m given m2 plain (inl r) f =
    subst (λ (g : Option Word). Flowing put (told ++ words_of g) m2 flight) (sym (r.0 ∙ word_is failure m.ended m.receiver m.things))
    (subst (λ (x : Mail). Flowing put (told ++ words_of (word_at failure m.ended m.receiver m.things)) x flight) (sym r.1) (by_table failure m.ended m.receiver m.things plain f))
reads {put} {told} {flight} failure m given m2 plain (inr r) f =
    subst (λ (g : Option Word). Flowing put (told ++ words_of g) m2 flight) (sym r.0) (subst (λ (x : Mail). Flowing put (told ++ Err MemoryRefused ∷ []) x flight) (sym r.1) (aside MemoryRefused (λ w. refl) f))
