-- The items of one id on their way to the client: the mailbox of its stream, what is under way to it, and whether the server may
-- still put something in. It knows no outcome, and nothing of what goes up.
use Rattle.ttrpc_world_trace.proofs.StoryWords.{[], AllByRecursion, ap, Bool, breaks_with, Brings, BringsBeginning, by_status, closed, closing_delivery, data_delivery, Dropped, empty_response, Err, Error, Failure, false, Flying, if◌then◌else◌, inl, inr, is_entered, IsInOrder, IsDelivery, IsToldBy, length, List, Mail, malformed_text, map, map-append, MESSAGE_LENGTH_MAX, MESSAGE_TYPE_DATA, MESSAGE_TYPE_RESPONSE, MessageHeader, nat_eq, nat_lt, StreamDelivery, delivery_of, None, not, Ok, Open, OpenedPayload, Option, Others, oversize_text, Reaches, read_from, Receiver, ReceivesAt, refl, Response, response_delivery, response_step, Result, Sender, SenderDropped, Some, StreamState, subst, sym, MailboxEntry, ThingClosing, true, unknown_error, unless_dropped, unless_unheard, without_reader, without_receiver, without_sender, Word, words_of, ℕ, ◌++◌, ◌∙◌, ◌∷◌, ◌≡◌, by_code, pos, ℤ}
use Rattle.std.proofs.Common.{zero}
use Rattle.ttrpc_proto.specs.declared.error.Error.TheVariants.{RpcStatus}
use Rattle.ttrpc_proto.specs.declared.messages.Status.{Status}
use Rattle.ttrpc_world_trace.proofs.Here.{Birth, Born, ByCall, ByOpen, no_cons, Origin, Unborn, Work}
use Rattle.ttrpc_world_trace.proofs.AtServer.{is_over}
use Rattle.ttrpc_world_trace.proofs.Reading.{IsPlain, reads_error}
use Rattle.ttrpc_world_trace.proofs.Flowing.{aside, begins, closes, ComesAs, drops, Flowing, Follows, in_order, IsPlainFailure, IsTurning, lands, loses, puts, reads, turns}
use Rattle.ttrpc_world_trace.proofs.Upward.{flag_closes, gone_mail, Hush, hush_order, IsStarted}

-- the client's mailbox
abbrev pub box_down : Option StreamState → Mail
box_down None = gone_mail
box_down (Some s) = s.mailbox

-- whether it was opened to receive items
abbrev pub wants : Option StreamState → Bool
wants None = false
wants (Some s) = s.streaming_server

-- what it is brought
abbrev pub thing_of : StreamDelivery → MailboxEntry
thing_of (Brings x ends) = x
thing_of (BringsBeginning text) = ThingClosing (Others text)

-- what a frame brings it
abbrev pub thing_down : Bool → Flying → MailboxEntry
thing_down wanted x = thing_of (delivery_of wanted x.frame.message.header (OpenedPayload x.plain))

-- an error, whatever the stream was opened for
abbrev pub IsTurned : Flying → Type 0
IsTurned x = (wanted : Bool) → IsTurning (thing_down wanted x)

-- THE WAY DOWN of an id that was used. Until the work is over nothing is closed.
pub record Down (p : Work) (put : List MailboxEntry) (told : List Word) (downs : List Flying) (st : Option StreamState) : Type 0 where
  pub flowing : Flowing put told (box_down st) (map (thing_down (wants st)) downs)
  pub unended : is_over p ≡ false → closed put ≡ false

-- and of any
abbrev pub IsDownward : Origin → Work → List MailboxEntry → List Word → List Flying → Option StreamState → Type 0
IsDownward Unborn p put told downs st = Hush put told × (downs ≡ [])
IsDownward (Born b) p put told downs st = Down p put told downs st

pub record Downward (o : Origin) (p : Work) (put : List MailboxEntry) (told : List Word) (downs : List Flying) (st : Option StreamState) : Type 0 where
  pub is : IsDownward o p put told downs st

-- its items are in order
pub down_order : {o : Origin} {p : Work} {put : List MailboxEntry} {told : List Word} {downs : List Flying} {st : Option StreamState} → Downward o p put told downs st → IsInOrder put told
down_order {o = Unborn} d = hush_order d.is.0
down_order {o = Born b} d = in_order d.is.flowing

-- ---- nothing happens on the way down

-- The work may go on, and what is kept of the sender may change.
pub stays : {o : Origin} {p : Work} {put : List MailboxEntry} {told : List Word} {downs : List Flying} {st : Option StreamState} (q : Work) (st2 : Option StreamState) → (is_over q ≡ false → is_over p ≡ false) → box_down st2 ≡ box_down st → wants st2 ≡ wants st
    → Downward o p put told downs st → Downward o q put told downs st2
stays {o = Unborn} q st2 over box wanted d = record { is = d.is }
stays {o = Born b} {put = put} {told = told} {downs = downs} {st = st} q st2 over box wanted d =
    let same = subst (λ (w : Bool). Flowing put told (box_down st) (map (thing_down w) downs)) (sym wanted) d.is.flowing in
    record { is = record { flowing = subst (λ (m : Mail). Flowing put told m (map (thing_down (wants st2)) downs)) (sym box) same; unended = λ e. d.is.unended (over e) } }

-- An error is told that is no end.
pub told_aside : {o : Origin} {p : Work} {put : List MailboxEntry} {told : List Word} {downs : List Flying} {st : Option StreamState} (e : Error) → IsPlain e → Downward o p put told downs st → Downward o p put (told ++ Err e ∷ []) downs st
told_aside {o = Unborn} e plain d = record { is = (record { none = d.is.0.none; errors = reads_error e plain d.is.0.errors }, d.is.1) }
told_aside {o = Born b} e plain d = record { is = record { flowing = aside e plain d.is.flowing; unended = d.is.unended } }

-- ---- an id is used

first_box : {told : List Word} (b : Birth) (st : Option StreamState) → IsStarted b st → Flowing [] told (record { things = []; receiver = Open; ended = false }) [] → Flowing [] told (box_down st) []
first_box {told} (ByCall request) st is f = subst (λ (x : Option StreamState). Flowing [] told (box_down x) []) (sym is) (drops gone_mail [] refl f)
first_box {told} (ByOpen request up down) st is f = subst (λ (x : Option StreamState). Flowing [] told (box_down x) []) (sym is) f

pub starts : {p : Work} {put : List MailboxEntry} {told : List Word} {downs : List Flying} {st : Option StreamState} (b : Birth) (q : Work) (st2 : Option StreamState) → IsStarted b st2 → Downward Unborn p put told downs st → Downward (Born b) q put told downs st2
starts {put = put} {told = told} {downs = downs} b q st2 is d =
    subst (λ (xs : List Flying). Downward (Born b) q put told xs st2) (sym d.is.1) (subst (λ (xs : List MailboxEntry). Downward (Born b) q xs told [] st2) (sym d.is.0.none)
    (record { is = record { flowing = first_box b st2 is (begins d.is.0.errors); unended = λ e. refl } }))

-- ---- frames are sent

all_turned : (wanted : Bool) (more : List Flying) → AllByRecursion IsTurned more → AllByRecursion IsTurning (map (thing_down wanted) more)
all_turned wanted [] h = tt
all_turned wanted (x ∷ more) h = (h.0 wanted, all_turned wanted more h.1)

-- What the server answers itself is sent, and the work may go on.
pub turned : {b : Birth} {p : Work} {put : List MailboxEntry} {told : List Word} {downs : List Flying} {st : Option StreamState} (q : Work) (more : List Flying) → (is_over q ≡ false → is_over p ≡ false) → AllByRecursion IsTurned more → Downward (Born b) p put told downs st → Downward (Born b) q put told (downs ++ more) st
turned {put = put} {told = told} {downs = downs} {st = st} q more over are d =
    let w : Bool = wants st in
    let flowing = subst (λ (way : List MailboxEntry). Flowing put told (box_down st) way) (sym (map-append (thing_down w) downs more)) (turns (map (thing_down w) more) (all_turned w more are) d.is.flowing) in
    record { is = record { flowing = flowing; unended = λ e. d.is.unended (over e) } }

-- it brings what was put in, or an error
abbrev pub IsSentAs : MailboxEntry → Flying → Type 0
IsSentAs x y = (wanted : Bool) → Follows (x ∷ []) (thing_down wanted y ∷ [])

-- these frames go down with what is put in: one that brings it, or none where it is the close
abbrev pub Goes : MailboxEntry → List Flying → Type 0
Goes x more = (wanted : Bool) → Follows (x ∷ []) (map (thing_down wanted) more)

-- Something is put in, and the work may go on.
pub goes : {b : Birth} {p : Work} {put : List MailboxEntry} {told : List Word} {downs : List Flying} {st : Option StreamState} (q : Work) (x : MailboxEntry) (more : List Flying) → is_over p ≡ false → (is_over q ≡ false → closed (put ++ x ∷ []) ≡ false) → Goes x more
    → Downward (Born b) p put told downs st → Downward (Born b) q (put ++ x ∷ []) told (downs ++ more) st
goes {put = put} {told = told} {downs = downs} {st = st} q x more undone over is d =
    let w : Bool = wants st in
    let flowing = subst (λ (way : List MailboxEntry). Flowing (put ++ x ∷ []) told (box_down st) way) (sym (map-append (thing_down w) downs more)) (puts x (map (thing_down w) more) (is w) (d.is.unended undone) d.is.flowing) in
    record { is = record { flowing = flowing; unended = over } }

-- ---- a frame comes to the client

-- an error that a response gives is no end
plain_code : (code : ℤ) (s : Status) (r : Response) (e : Error) → by_code code s r ≡ Err e → IsPlain e
plain_code (pos zero) s r e h = let bad : Ok r ≡ Err e = h in cc
plain_code code s r e h = let same_error : Err (RpcStatus s) ≡ Err e = h in let same : RpcStatus s ≡ e = cc in subst IsPlain same (λ m. refl)

pub plain_status : (status : Option Status) (r : Response) (e : Error) → by_status status r ≡ Err e → IsPlain e
plain_status None r e h = let bad : Ok r ≡ Err e = h in cc
plain_status (Some s) r e h = plain_code s.code s r e h

-- where a delivery ends a stream, it closes
abbrev IsFair : StreamDelivery → Type 0
IsFair (Brings x ends) = ends ≡ true → closes x ≡ true
IsFair (BringsBeginning text) = Unit {0}

fair_outcome : (outcome : Result Response Error) → IsFair (closing_delivery outcome)
fair_outcome (Ok r) = λ e. refl
fair_outcome (Err error) = λ e. refl

fair_response : (r : Option Response) → IsFair (response_delivery r)
fair_response None = tt
fair_response (Some r) = fair_outcome (by_status r.status r)

fair_data : (wanted : Bool) (h : MessageHeader) (plain : List ℕ) → IsFair (data_delivery wanted h plain)
fair_data true h plain = λ e. flag_closes h.stream_id h.flags plain e
fair_data false h plain = λ e. refl

fair : (wanted : Bool) (h : MessageHeader) (plain : List ℕ) → IsFair (delivery_of wanted h (OpenedPayload plain))
fair wanted h plain = by (nat_lt MESSAGE_LENGTH_MAX (length plain)) (nat_eq h.type_ MESSAGE_TYPE_RESPONSE) (nat_eq h.type_ MESSAGE_TYPE_DATA)
  where
    by : (long response data_ : Bool) → IsFair (if long then breaks_with (Others (oversize_text (length plain))) else if response then response_delivery (read_from response_step empty_response plain) else if data_ then data_delivery wanted h plain else breaks_with (Others (malformed_text h)))
    by true response data_ = λ e. refl
    by false true data_ = fair_response (read_from response_step empty_response plain)
    by false false true = fair_data wanted h plain
    by false false false = λ e. refl

comes_as : (delivery : StreamDelivery) (thing : MailboxEntry) (ends : Bool) → IsFair delivery → IsDelivery delivery thing ends → ComesAs (thing_of delivery) thing × (ends ≡ true → closes thing ≡ true)
comes_as (Brings x end) thing ends f is = (inl is.0, λ e. subst (λ (t : MailboxEntry). closes t ≡ true) (sym is.0) (f (sym is.1 ∙ e)))
comes_as (BringsBeginning text) thing ends f is =
    let same : thing ≡ ThingClosing (Others (text ++ is.0.0)) = is.0.1 in
    (inr (subst IsTurning (sym same) (λ rest way m. refl)), λ e. ap closes same)

entered_by : {p : Work} {put : List MailboxEntry} {told : List Word} {d : List Flying} {st2 : Option StreamState} (s : StreamState) (x : Flying) (entered : Bool) → is_entered (Some s) ≡ entered
    → Reaches entered x.frame.message.header (OpenedPayload x.plain) (Some s) st2 → Down p put told (x ∷ d) (Some s) → Down p put told d st2
entered_by {p} {put} {told} {d} s x false is r w =
    subst (λ (z : Option StreamState). Down p put told d z) (sym r) (record { flowing = loses (thing_down s.streaming_server x) (λ o. ended_of s.mailbox.ended is) w.flowing; unended = w.unended })
  where
    ended_of : (b : Bool) → not b ≡ false → b ≡ true
    ended_of true e = refl
    ended_of false e = cc
entered_by {p} {put} {told} {d} s x true is r w =
    let c = comes_as (delivery_of s.streaming_server x.frame.message.header (OpenedPayload x.plain)) r.0 r.1 (fair s.streaming_server x.frame.message.header x.plain) r.2 in
    subst (λ (z : Option StreamState). Down p put told d z) (sym r.3) (record { flowing = lands (thing_down s.streaming_server x) r.0 r.1 c.0 c.1 w.flowing; unended = w.unended })

reached : {p : Work} {put : List MailboxEntry} {told : List Word} {d : List Flying} {st2 : Option StreamState} (st : Option StreamState) (x : Flying) → Reaches (is_entered st) x.frame.message.header (OpenedPayload x.plain) st st2
    → Down p put told (x ∷ d) st → Down p put told d st2
reached {p} {put} {told} {d} None x r w = subst (λ (z : Option StreamState). Down p put told d z) (sym r) (record { flowing = drops gone_mail _ refl w.flowing; unended = w.unended })
reached (Some s) x r w = entered_by s x (is_entered (Some s)) refl r w

pub comes : {o : Origin} {p : Work} {put : List MailboxEntry} {told : List Word} {downs d : List Flying} {st st2 : Option StreamState} (x : Flying) → downs ≡ x ∷ d → Reaches (is_entered st) x.frame.message.header (OpenedPayload x.plain) st st2
    → Downward o p put told downs st → Downward o p put told d st2
comes {o = Unborn} {d = d} x was r w = absurd (no_cons x d (sym was ∙ w.is.1))
comes {o = Born b} {p = p} {put = put} {told = told} {st = st} x was r w = record { is = reached st x r (subst (λ (xs : List Flying). Down p put told xs st) was w.is) }

-- ---- the receiver

pub told_plain : (e told : Error) → IsPlain e → IsToldBy e told → IsPlain told
told_plain e told plain (inl same) = subst IsPlain (sym same) plain
told_plain e told plain (inr same) = subst IsPlain (sym same) (λ m. refl)

-- The receiver is told something.
pub hears : {o : Origin} {p : Work} {put : List MailboxEntry} {told : List Word} {downs : List Flying} {st2 : Option StreamState} (st : Option StreamState) (failure : Option Failure) (given : Option Word) → (o ≡ Unborn → st ≡ None) → IsPlainFailure failure → ReceivesAt failure st given st2
    → Downward o p put told downs st → Downward o p put (told ++ words_of given) downs st2
hears {o} {p} {put} {told} {downs} {st2} None failure given none plain r d =
    subst (λ (z : Option StreamState). Downward o p put (told ++ words_of given) downs z) (sym r.1) (subst (λ (ws : List Word). Downward o p put ws downs None) (sym (ap (λ (g : Option Word). told ++ words_of g) r.0.2))
    (told_aside r.0.0 (told_plain unknown_error r.0.0 (λ m. refl) r.0.1) d))
hears {o = Unborn} (Some s) failure given none plain r d = let bad : Some s ≡ None = none refl in cc
hears {o = Born b} {p} {put} {told} {downs} {st2} (Some s) failure given none plain r d =
    subst (λ (z : Option StreamState). Downward (Born b) p put (told ++ words_of given) downs z) (sym r.2) (record { is = record { flowing = reads failure s.mailbox given r.0 plain r.1 d.is.flowing; unended = d.is.unended } })

deaf : {p : Work} {put : List MailboxEntry} {told : List Word} {downs : List Flying} {st : Option StreamState} (st2 : Option StreamState) → (box_down st2).receiver ≡ Dropped → Down p put told downs st → Down p put told downs st2
deaf {downs = downs} st2 is d = record { flowing = drops (box_down st2) (map (thing_down (wants st2)) downs) is d.flowing; unended = d.unended }

unless_sent : {p : Work} {put : List MailboxEntry} {told : List Word} {downs : List Flying} (s t : StreamState) (sender : Sender) → t.mailbox.receiver ≡ Dropped → Down p put told downs (Some s) → Down p put told downs (unless_dropped sender t)
unless_sent s t SenderDropped is d = deaf None refl d
unless_sent s t sender is d = deaf (Some t) is d

-- It is dropped.
pub unheard : {o : Origin} {p : Work} {put : List MailboxEntry} {told : List Word} {downs : List Flying} (st : Option StreamState) → Downward o p put told downs st → Downward o p put told downs (without_reader st)
unheard None d = d
unheard {o = Unborn} (Some s) d = record { is = d.is }
unheard {o = Born b} (Some s) d = record { is = unless_sent s (record s { mailbox = without_receiver s.mailbox }) s.sender refl d.is }

-- The sender is.
pub unsent : {o : Origin} {p : Work} {put : List MailboxEntry} {told : List Word} {downs : List Flying} (st : Option StreamState) → Downward o p put told downs st → Downward o p put told downs (without_sender st)
unsent None d = d
unsent {o = Unborn} (Some s) d = record { is = d.is }
unsent {o = Born b} {p} {put} {told} {downs} (Some s) d = record { is = by s.mailbox.receiver }
  where
    by : (r : Receiver) → Down p put told downs (unless_unheard r (record s { sender = SenderDropped }))
    by Dropped = deaf None refl d.is
    by r = record { flowing = d.is.flowing; unended = d.is.unended }
