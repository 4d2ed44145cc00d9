-- The items of one id on their way to the server: the mailbox of its job, what is under way to it, and whether the client may
-- still put something in. It knows no outcome, and nothing of what goes down.
use Rattle.ttrpc_world_trace.proofs.StoryWords.{[], ActiveJob, ap, append_assoc, Body, Bool, brought_by, closed, data_thing, Dropped, empty_mail, Err, Error, Failure, false, FLAG_NO_DATA, FLAG_REMOTE_CLOSED, Flying, has_flag, inl, inr, is_stream, IsInOrder, items, List, Mail, map, map-append, MessageHeader, nat_eq, new_stream, None, Open, opened_with, opening_flags, opening_thing, Option, Receives, refl, Response, Rules, Some, StaysFound, StreamState, stream_body, StreamBody, subst, sym, MailboxEntry, thing_by, ThingItem, ThingLast, true, UnaryBody, unsendable, with_mail, with_thing, Word, words_of, ℕ, ◌%◌, ◌++◌, ◌∙◌, ◌∷◌, ◌≡◌, ◌⊎◌}
use Rattle.ttrpc_world_trace.proofs.Here.{Asking, Birth, Born, ByCall, ByOpen, jobs_of, Left, no_cons, Origin, request_of, Runs, Unborn, ups_of, Waits, Work}
use Rattle.ttrpc_world_trace.proofs.AtServer.{IsWork, mapped}
use Rattle.ttrpc_world_trace.proofs.Reading.{IsPlain, Reading, reads_error}
use Rattle.ttrpc_world_trace.proofs.Flowing.{aside, begins, closes, drops, Flowing, Follows, in_order, IsPlainFailure, lands, loses, mail, puts, reads}

-- the mailbox of one that nobody receives from
abbrev pub gone_mail : Mail
gone_mail = record { things = []; receiver = Dropped; ended = true }

-- nothing was put in yet, and errors alone were told
pub record Hush (put : List MailboxEntry) (told : List Word) : Type 0 where
  pub none : put ≡ []
  pub errors : Reading [] told Open

-- there is nothing to be in order
pub hush_order : {put : List MailboxEntry} {told : List Word} → Hush put told → IsInOrder put told
hush_order {put} {told} h = subst (λ (xs : List MailboxEntry). IsInOrder xs told) (sym h.none) (in_order (begins h.errors))

-- what data bring
abbrev pub thing_up : Flying → MailboxEntry
thing_up x = data_thing x.frame.message.header.stream_id x.frame.message.header.flags x.plain

-- what the request brings by itself
abbrev pub first_things : Birth → List MailboxEntry
first_things (ByCall request) = ThingItem request.payload ∷ []
first_things (ByOpen request true down) = []
first_things (ByOpen request false down) = ThingLast request.payload ∷ []

-- and by what flags
abbrev pub flags_of : Birth → ℕ
flags_of (ByCall request) = 0
flags_of (ByOpen request up down) = opening_flags up

-- the mailbox of a job
abbrev pub box_of : Body → Mail
box_of (UnaryBody deadline) = gone_mail
box_of (StreamBody mail) = mail

-- the server's mailbox, as far as the work has come: before there is a job it is that which the job begins with
abbrev pub box_up : Work → Mail
box_up (Asking x) = empty_mail
box_up (Waits j) = box_of j.body
box_up (Runs j) = box_of j.body
box_up p = gone_mail

-- the frames behind the first
abbrev behind : List Flying → List Flying
behind [] = []
behind (x ∷ xs) = xs

-- what is under way to it
abbrev pub way_up : Birth → Work → List Flying → List MailboxEntry
way_up b (Asking x) ups = first_things b ++ map thing_up (behind ups)
way_up b p ups = map thing_up ups

-- the flags of the request are those; and an id whose job is a stream's is odd
abbrev pub IsFit : ℕ → Birth → Work → Type 0
IsFit k b (Asking x) = x.frame.message.header.flags ≡ flags_of b
IsFit k b (Waits j) = is_stream j.body ≡ true → nat_eq (k % 2) 0 ≡ false
IsFit k b (Runs j) = is_stream j.body ≡ true → nat_eq (k % 2) 0 ≡ false
IsFit k b p = Unit {0}

-- while the client may send, nothing is closed
abbrev pub IsUnclosed : Option StreamState → List MailboxEntry → Type 0
IsUnclosed st put = unsendable st ≡ None → closed put ≡ false

-- THE WAY UP of an id that was used
pub record Up (k : ℕ) (b : Birth) (p : Work) (put : List MailboxEntry) (told : List Word) (ups : List Flying) (st : Option StreamState) : Type 0 where
  pub flowing : Flowing put told (box_up p) (way_up b p ups)
  pub fit : IsFit k b p
  pub unclosed : IsUnclosed st put

-- and of any
abbrev pub IsUpward : ℕ → Origin → Work → List MailboxEntry → List Word → List Flying → Option StreamState → Type 0
IsUpward k Unborn p put told ups st = Hush put told
IsUpward k (Born b) p put told ups st = Up k b p put told ups st

pub record Upward (k : ℕ) (o : Origin) (p : Work) (put : List MailboxEntry) (told : List Word) (ups : List Flying) (st : Option StreamState) : Type 0 where
  pub is : IsUpward k o p put told ups st

-- its items are in order
pub up_order : {k : ℕ} {o : Origin} {p : Work} {put : List MailboxEntry} {told : List Word} {ups : List Flying} {st : Option StreamState} → Upward k o p put told ups st → IsInOrder put told
up_order {o = Unborn} u = hush_order u.is
up_order {o = Born b} u = in_order u.is.flowing

-- ---- nothing happens on the way up

-- What the client keeps of the stream may change, but not to send again.
pub stays : {k : ℕ} {o : Origin} {p : Work} {put : List MailboxEntry} {told : List Word} {ups : List Flying} {st : Option StreamState} (st2 : Option StreamState) → (unsendable st2 ≡ None → unsendable st ≡ None)
    → Upward k o p put told ups st → Upward k o p put told ups st2
stays {o = Unborn} st2 sends u = record { is = u.is }
stays {o = Born b} st2 sends u = record { is = record { flowing = u.is.flowing; fit = u.is.fit; unclosed = λ e. u.is.unclosed (sends e) } }

-- Nothing is received any more.
pub gone : {k : ℕ} {b : Birth} {p : Work} {put : List MailboxEntry} {told : List Word} {ups : List Flying} {st : Option StreamState} (q : Work) (ups2 : List Flying) → box_up q ≡ gone_mail → IsFit k b q → Upward k (Born b) p put told ups st → Upward k (Born b) q put told ups2 st
gone {b = b} q ups2 is fit u = record { is = record { flowing = drops (box_up q) (way_up b q ups2) (ap Mail.receiver is) u.is.flowing; fit = fit; unclosed = u.is.unclosed } }

-- The job is handed out.
pub takes : {k : ℕ} {b : Birth} {put : List MailboxEntry} {told : List Word} {ups : List Flying} {st : Option StreamState} (j : ActiveJob) → Upward k (Born b) (Waits j) put told ups st → Upward k (Born b) (Runs (record j { request = None })) put told ups st
takes j u = record { is = record { flowing = u.is.flowing; fit = u.is.fit; unclosed = u.is.unclosed } }

-- An error is told that is no end.
pub told_aside : {k : ℕ} {o : Origin} {p : Work} {put : List MailboxEntry} {told : List Word} {ups : List Flying} {st : Option StreamState} (e : Error) → IsPlain e → Upward k o p put told ups st → Upward k o p put (told ++ Err e ∷ []) ups st
told_aside {o = Unborn} e plain u = record { is = record { none = u.is.none; errors = reads_error e plain u.is.errors } }
told_aside {o = Born b} e plain u = record { is = record { flowing = aside e plain u.is.flowing; fit = u.is.fit; unclosed = u.is.unclosed } }

-- ---- an id is used

-- what is kept of the stream then
abbrev pub IsStarted : Birth → Option StreamState → Type 0
IsStarted (ByCall request) st = st ≡ None
IsStarted (ByOpen request up down) st = st ≡ Some (new_stream up down)

first_flowing : (b : Birth) (told : List Word) → Reading [] told Open → Flowing (first_things b) told empty_mail (first_things b ++ [])
first_flowing (ByCall request) told r = puts (ThingItem request.payload) (ThingItem request.payload ∷ []) ([], refl, inl refl) refl (begins r)
first_flowing (ByOpen request true down) told r = begins r
first_flowing (ByOpen request false down) told r = puts (ThingLast request.payload) (ThingLast request.payload ∷ []) refl refl (begins r)

first_unclosed : (b : Birth) (st : Option StreamState) → IsStarted b st → IsUnclosed st (first_things b)
first_unclosed (ByOpen request false down) st is e = let bad : unsendable (Some (new_stream false down)) ≡ None = sym (ap unsendable is) ∙ e in cc
first_unclosed b st is e = refl

pub starts : {k : ℕ} {p : Work} {put : List MailboxEntry} {told : List Word} {ups : List Flying} {st st2 : Option StreamState} (b : Birth) (x : Flying) → x.frame.message.header.flags ≡ flags_of b → IsStarted b st2 → Upward k Unborn p put told ups st
    → Upward k (Born b) (Asking x) (put ++ first_things b) told (x ∷ []) st2
starts {k} {put = put} {told = told} {st2 = st2} b x flags is u =
    subst (λ (xs : List MailboxEntry). Upward k (Born b) (Asking x) (xs ++ first_things b) told (x ∷ []) st2) (sym u.is.none)
    (record { is = record { flowing = first_flowing b told u.is.errors; fit = flags; unclosed = first_unclosed b st2 is } })

-- ---- a job is made

call_box : (bare : Bool) (payload : List ℕ) → opened_with (opening_thing bare 0 payload) (has_flag FLAG_REMOTE_CLOSED 0) ≡ with_thing empty_mail (ThingItem payload) false
call_box true [] = refl
call_box bare payload = refl

more_box : (bare : Bool) (payload : List ℕ) → opened_with (opening_thing bare (opening_flags true) payload) (has_flag FLAG_REMOTE_CLOSED (opening_flags true)) ≡ empty_mail
more_box true [] = refl
more_box bare payload = refl

last_box : (bare : Bool) (payload : List ℕ) → opened_with (opening_thing bare (opening_flags false) payload) (has_flag FLAG_REMOTE_CLOSED (opening_flags false)) ≡ with_thing empty_mail (ThingLast payload) true
last_box true [] = refl
last_box bare payload = refl

-- it is no stream's, or its mailbox has what the request brings
abbrev pub IsMade : Birth → Body → Type 0
IsMade b body = (is_stream body ≡ false) ⊎ ((bare : Bool) × (body ≡ stream_body bare (flags_of b) (request_of b).payload))

abbrev boxed : Birth → Bool → Mail
boxed b bare = opened_with (opening_thing bare (flags_of b) (request_of b).payload) (has_flag FLAG_REMOTE_CLOSED (flags_of b))

lands_first : {put : List MailboxEntry} {told : List Word} (b : Birth) (bare : Bool) (way : List MailboxEntry) → Flowing put told empty_mail (first_things b ++ way) → Flowing put told (boxed b bare) way
lands_first {put} {told} (ByCall request) bare way f =
    subst (λ (m : Mail). Flowing put told m way) (sym (call_box bare request.payload)) (lands (ThingItem request.payload) (ThingItem request.payload) false (inl refl) (λ e. cc) f)
lands_first {put} {told} (ByOpen request true down) bare way f = subst (λ (m : Mail). Flowing put told m way) (sym (more_box bare request.payload)) f
lands_first {put} {told} (ByOpen request false down) bare way f =
    subst (λ (m : Mail). Flowing put told m way) (sym (last_box bare request.payload)) (lands (ThingLast request.payload) (ThingLast request.payload) true (inl refl) (λ e. refl) f)

made_box : {put : List MailboxEntry} {told : List Word} (b : Birth) (body : Body) (way : List MailboxEntry) → IsMade b body → Flowing put told empty_mail (first_things b ++ way) → Flowing put told (box_of body) way
made_box b (UnaryBody deadline) way is f = drops gone_mail way refl f
made_box b (StreamBody m) way (inl is) f = let bad : true ≡ false = is in cc
made_box {put} {told} b (StreamBody m) way (inr is) f = subst (λ (x : Body). Flowing put told (box_of x) way) (sym is.1) (lands_first b is.0 way f)

pub makes : {k : ℕ} {b : Birth} {put : List MailboxEntry} {told : List Word} {st : Option StreamState} {x : Flying} {ups u : List Flying} (job : ActiveJob) → ups ≡ x ∷ u → IsMade b job.body → (is_stream job.body ≡ true → nat_eq (k % 2) 0 ≡ false)
    → Upward k (Born b) (Asking x) put told ups st → Upward k (Born b) (Waits job) put told u st
makes {b = b} {put = put} {told = told} {x = x} {u = u} job was is odd s =
    let flowing = made_box b job.body (map thing_up u) is (subst (λ (xs : List Flying). Flowing put told empty_mail (first_things b ++ map thing_up (behind xs))) was s.is.flowing) in
    record { is = record { flowing = flowing; fit = odd; unclosed = s.is.unclosed } }

-- ---- data come, or are sent

way_plain : (b : Birth) (p : Work) (ups : List Flying) → ups_of p ≡ [] → way_up b p ups ≡ map thing_up ups
way_plain b (Asking x) ups none = absurd (no_cons x [] none)
way_plain b p ups none = refl

-- Data come that aren't put in.
pub passes : {k : ℕ} {b : Birth} {p : Work} {put : List MailboxEntry} {told : List Word} {st : Option StreamState} {x : Flying} {ups u : List Flying} → ups ≡ x ∷ u → ups_of p ≡ [] → ((box_up p).receiver ≡ Open → (box_up p).ended ≡ true)
    → Upward k (Born b) p put told ups st → Upward k (Born b) p put told u st
passes {b = b} {p = p} {put = put} {told = told} {x = x} {ups = ups} {u = u} was none over s =
    let came = loses (thing_up x) over (subst (λ (w : List MailboxEntry). Flowing put told (box_up p) w) (way_plain b p ups none ∙ ap (map thing_up) was) s.is.flowing) in
    record { is = record { flowing = subst (λ (w : List MailboxEntry). Flowing put told (box_up p) w) (sym (way_plain b p u none)) came; fit = s.is.fit; unclosed = s.is.unclosed } }

way_more : (b : Birth) (p : Work) (ups : List Flying) (y : Flying) → (items : List Flying) → ups ≡ ups_of p ++ items → way_up b p (ups ++ y ∷ []) ≡ way_up b p ups ++ thing_up y ∷ []
way_more b (Asking x) ups y items was =
    ap (λ (xs : List Flying). first_things b ++ map thing_up (behind (xs ++ y ∷ []))) was ∙ ap (λ (ts : List MailboxEntry). first_things b ++ ts) (map-append thing_up items (y ∷ []))
    ∙ sym (append_assoc (first_things b) (map thing_up items) (thing_up y ∷ [])) ∙ ap (λ (xs : List Flying). (first_things b ++ map thing_up (behind xs)) ++ thing_up y ∷ []) (sym was)
way_more b p ups y items was = map-append thing_up ups (y ∷ [])

-- Data are sent, as they will come.
pub sends : {k : ℕ} {b : Birth} {p : Work} {put : List MailboxEntry} {told : List Word} {ups : List Flying} {st st2 : Option StreamState} (x : MailboxEntry) (y : Flying) (items : List Flying) → thing_up y ≡ x → Follows (x ∷ []) (x ∷ []) → ups ≡ ups_of p ++ items
    → unsendable st ≡ None → IsUnclosed st2 (put ++ x ∷ []) → Upward k (Born b) p put told ups st → Upward k (Born b) p (put ++ x ∷ []) told (ups ++ y ∷ []) st2
sends {b = b} {p = p} {put = put} {told = told} {ups = ups} x y items is same was may unclosed s =
    let way : way_up b p (ups ++ y ∷ []) ≡ way_up b p ups ++ x ∷ [] = way_more b p ups y items was ∙ ap (λ (t : MailboxEntry). way_up b p ups ++ t ∷ []) is in
    let flowing = subst (λ (w : List MailboxEntry). Flowing (put ++ x ∷ []) told (box_up p) w) (sym way) (puts x (x ∷ []) same (s.is.unclosed may) s.is.flowing) in
    record { is = record { flowing = flowing; fit = s.is.fit; unclosed = unclosed } }

-- ---- mailboxes change

closing_closes : (k : ℕ) (payload : List ℕ) → closes (thing_by true true k payload) ≡ true
closing_closes k [] = refl
closing_closes k (b ∷ bs) = refl

data_closes : (ends no_data : Bool) (k : ℕ) (payload : List ℕ) → ends ≡ true → closes (thing_by ends no_data k payload) ≡ true
data_closes true true k payload e = closing_closes k payload
data_closes true false k payload e = refl
data_closes false no_data k payload e = cc

-- data that end a stream close it
pub flag_closes : (k flags : ℕ) (payload : List ℕ) → has_flag FLAG_REMOTE_CLOSED flags ≡ true → closes (data_thing k flags payload) ≡ true
flag_closes k flags payload e = data_closes (has_flag FLAG_REMOTE_CLOSED flags) (has_flag FLAG_NO_DATA flags) k payload e

brought : {put : List MailboxEntry} {told : List Word} {way : List MailboxEntry} (x : Flying) (body : Body) → Flowing put told (box_of body) (thing_up x ∷ way) → Flowing put told (box_of (with_mail (brought_by x.frame.message.header x.plain) body)) way
brought {way = way} x (UnaryBody deadline) f = drops gone_mail way refl f
brought x (StreamBody m) f =
    let h : MessageHeader = x.frame.message.header in
    lands (thing_up x) (thing_up x) (has_flag FLAG_REMOTE_CLOSED h.flags) (inl refl) (flag_closes h.stream_id h.flags x.plain) f

-- the mailbox of a job stays, or its receiver is dropped
abbrev pub IsDeaf : (ActiveJob → ActiveJob) → ActiveJob → Type 0
IsDeaf g j = (box_of (g j).body ≡ box_of j.body) ⊎ ((box_of (g j).body).receiver ≡ Dropped)

module _ (g : ActiveJob → ActiveJob) (found : StaysFound g) where
  brings_job : {put : List MailboxEntry} {told : List Word} {ups u : List Flying} {x : Flying} (j : ActiveJob) → ups ≡ x ∷ u → (g j).body ≡ with_mail (brought_by x.frame.message.header x.plain) j.body
      → Flowing put told (box_of j.body) (map thing_up ups) → Flowing put told (box_of (g j).body) (map thing_up u)
  brings_job {put} {told} {ups} {u} {x} j was now f =
      subst (λ (body : Body). Flowing put told (box_of body) (map thing_up u)) (sym now) (brought x j.body (subst (λ (xs : List Flying). Flowing put told (box_of j.body) (map thing_up xs)) was f))

  -- Data come, and are put in.
  pub brings : (rules : Rules) (had : ℕ → Bool) {k : ℕ} {b : Birth} {put : List MailboxEntry} {told : List Word} {ups u : List Flying} {x : Flying} {st : Option StreamState} (p : Work) → ups ≡ x ∷ u → ups_of p ≡ []
      → ((j : ActiveJob) → j.header.stream_id ≡ k → (g j).body ≡ with_mail (brought_by x.frame.message.header x.plain) j.body) → IsWork rules had k (Born b) p
      → Upward k (Born b) p put told ups st → Upward k (Born b) (mapped g p) put told u st
  brings rules had (Waits j) was none change is s = record { is = record { flowing = brings_job j was (change j is.stream) s.is.flowing; fit = λ e. s.is.fit (sym (found.stream j) ∙ e); unclosed = s.is.unclosed } }
  brings rules had (Runs j) was none change is s = record { is = record { flowing = brings_job j was (change j is.stream) s.is.flowing; fit = λ e. s.is.fit (sym (found.stream j) ∙ e); unclosed = s.is.unclosed } }
  brings rules had (Asking x) was none change is s = absurd (no_cons x [] none)
  brings rules had {u = u} p was none change is s = gone (mapped g p) u refl tt s

  deaf_box : {put : List MailboxEntry} {told : List Word} {way : List MailboxEntry} (j : ActiveJob) → IsDeaf g j → Flowing put told (box_of j.body) way → Flowing put told (box_of (g j).body) way
  deaf_box {put} {told} {way} j (inl same) f = subst (λ (m : Mail). Flowing put told m way) (sym same) f
  deaf_box {way = way} j (inr gone) f = drops (box_of (g j).body) way gone f

  deaf_born : {k : ℕ} {b : Birth} {put : List MailboxEntry} {told : List Word} {ups : List Flying} {st : Option StreamState} (p : Work) → ((j : ActiveJob) → IsDeaf g j) → Upward k (Born b) p put told ups st → Upward k (Born b) (mapped g p) put told ups st
  deaf_born (Waits j) deaf s = record { is = record { flowing = deaf_box j (deaf j) s.is.flowing; fit = λ e. s.is.fit (sym (found.stream j) ∙ e); unclosed = s.is.unclosed } }
  deaf_born (Runs j) deaf s = record { is = record { flowing = deaf_box j (deaf j) s.is.flowing; fit = λ e. s.is.fit (sym (found.stream j) ∙ e); unclosed = s.is.unclosed } }
  deaf_born {ups = ups} (Left j response) deaf s = gone (Left (g j) response) ups refl tt s
  deaf_born p deaf s = s

  -- A receiver is dropped.
  pub unheard : {k : ℕ} {o : Origin} {put : List MailboxEntry} {told : List Word} {ups : List Flying} {st : Option StreamState} (p : Work) → ((j : ActiveJob) → IsDeaf g j) → Upward k o p put told ups st → Upward k o (mapped g p) put told ups st
  unheard {o = Unborn} p deaf s = record { is = s.is }
  unheard {o = Born b} p deaf s = deaf_born p deaf s

  hears_job : {put : List MailboxEntry} {told : List Word} {way : List MailboxEntry} (i j : ActiveJob) (failure : Option Failure) (m left : Mail) (given : Option Word) → i ≡ j → j.body ≡ StreamBody m → (g j).body ≡ StreamBody left
      → IsPlainFailure failure → Receives failure m given left → Flowing put told (box_of i.body) way → Flowing put (told ++ words_of given) (box_of (g i).body) way
  hears_job {put} {told} {way} i j failure m left given same was now plain r f =
      subst (λ (x : Body). Flowing put (told ++ words_of given) (box_of x) way) (sym (ap (λ (x : ActiveJob). (g x).body) same ∙ now))
      (reads failure m given left plain r (subst (λ (x : Body). Flowing put told (box_of x) way) (ap ActiveJob.body same ∙ was) f))

  -- The receiver of the job is told something.
  pub hears : {k : ℕ} {b : Birth} {put : List MailboxEntry} {told : List Word} {ups : List Flying} {st : Option StreamState} (p : Work) (j : ActiveJob) (failure : Option Failure) (m left : Mail) (given : Option Word) → jobs_of p ≡ j ∷ []
      → ((i : ActiveJob) (response : Response) → p ≡ Left i response → ⊥) → j.body ≡ StreamBody m → (g j).body ≡ StreamBody left → IsPlainFailure failure → Receives failure m given left
      → Upward k (Born b) p put told ups st → Upward k (Born b) (mapped g p) put (told ++ words_of given) ups st
  hears (Waits i) j failure m left given is unleft was now plain r s =
      record { is = record { flowing = hears_job i j failure m left given (let same : i ≡ j = cc in same) was now plain r s.is.flowing; fit = λ e. s.is.fit (sym (found.stream i) ∙ e); unclosed = s.is.unclosed } }
  hears (Runs i) j failure m left given is unleft was now plain r s =
      record { is = record { flowing = hears_job i j failure m left given (let same : i ≡ j = cc in same) was now plain r s.is.flowing; fit = λ e. s.is.fit (sym (found.stream i) ∙ e); unclosed = s.is.unclosed } }
  hears (Left i response) j failure m left given is unleft was now plain r s = absurd (unleft i response refl)
  hears p j failure m left given is unleft was now plain r s = absurd (no_cons j [] (sym is))
