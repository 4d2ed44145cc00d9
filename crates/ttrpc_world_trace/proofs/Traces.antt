-- A trace with one more entry, and what it says of one id; and lists of acts, and of what happened to items.
use Rattle.ttrpc_world_trace.proofs.Words.{Bool, ◌≡◌, ◌≢◌, ◌≤◌, ◌⊎◌, arith, inl, inr, IsBegun, IsExactlyOnce, IsWorkOf, length, Request, subst, ℕ, List, [], ◌∷◌, ◌++◌, true, false, Option, Some, None, Result, nat_eq, refl, sym, ap, ◌∙◌, append_assoc, eq-eqb, ne_eqb, append-nil, flat_map, Error, Response, Rules, Event, Reply, Entry, Outcome, Given, Item, MailboxEntry, ThingEnd, ThingItem, ThingLast, Act, Called, Opened, Ran, Gave, act_of, acts, calls, names, only_if, outcomes, runs, work, Asked, Began, ClosedUp, EndedDown, ending_thing, Flow, heard_down, heard_up, HeardDown, HeardUp, put_down, put_up, SentDown, SentUp, Word}

-- the trace after one more entry
abbrev pub with_entry : List Entry → Event → Reply → List Entry
with_entry trace event reply = trace ++ record { event = event; reply = reply } ∷ []

-- what a trace says, by what each entry says
abbrev pub said : {X : Type 0} → (Event → Reply → List X) → List Entry → List X
said says trace = flat_map (λ (e : Entry). says e.event e.reply) trace

pub said_then : {X : Type 0} (says : Event → Reply → List X) (trace : List Entry) (event : Event) (reply : Reply) → said says (with_entry trace event reply) ≡ said says trace ++ says event reply
said_then says [] event reply = append-nil (says event reply)
said_then says (e ∷ trace) event reply =
    ap (λ xs. says e.event e.reply ++ xs) (said_then says trace event reply) ∙ sym (append_assoc (says e.event e.reply) (said says trace) (says event reply))

-- an entry that says nothing
pub silent : {X : Type 0} (says : Event → Reply → List X) (trace : List Entry) (event : Event) (reply : Reply) → says event reply ≡ [] → said says (with_entry trace event reply) ≡ said says trace
silent says trace event reply h = said_then says trace event reply ∙ ap (λ xs. said says trace ++ xs) h ∙ append-nil (said says trace)

-- an entry that says one thing of this id
pub heard : {X : Type 0} (says : Event → Reply → List X) (k at : ℕ) (trace : List Entry) (event : Event) (reply : Reply) (x : X) → says event reply ≡ only_if (nat_eq at k) x → at ≡ k
    → said says (with_entry trace event reply) ≡ said says trace ++ x ∷ []
heard says k at trace event reply x h e = said_then says trace event reply ∙ ap (λ xs. said says trace ++ xs) (h ∙ ap (λ b. only_if b x) (eq-eqb at k e))

-- and one of another
pub unheard : {X : Type 0} (says : Event → Reply → List X) (k at : ℕ) (trace : List Entry) (event : Event) (reply : Reply) (x : X) → says event reply ≡ only_if (nat_eq at k) x → at ≢ k
    → said says (with_entry trace event reply) ≡ said says trace
unheard says k at trace event reply x h e = silent says trace event reply (h ∙ ap (λ b. only_if b x) (ne_eqb at k e))

-- the outcome that was given, as acts
abbrev pub gave_of : Option (Result Response Error) → List Act
gave_of None = []
gave_of (Some outcome) = Gave outcome ∷ []

-- an outcome was asked for
pub asked : (stream_of : ℕ → ℕ) (k id : ℕ) (trace : List Entry) (given : Option (Result Response Error)) → id ≡ k → acts stream_of k (with_entry trace (Outcome id) (Given given)) ≡ acts stream_of k trace ++ gave_of given
asked stream_of k id trace None e = said_then (act_of stream_of k) trace (Outcome id) (Given None)
asked stream_of k id trace (Some o) e = heard (act_of stream_of k) k id trace (Outcome id) (Given (Some o)) (Gave o) refl e

pub unasked : (stream_of : ℕ → ℕ) (k id : ℕ) (trace : List Entry) (given : Option (Result Response Error)) → id ≢ k → acts stream_of k (with_entry trace (Outcome id) (Given given)) ≡ acts stream_of k trace
unasked stream_of k id trace None e = silent (act_of stream_of k) trace (Outcome id) (Given None) refl
unasked stream_of k id trace (Some o) e = unheard (act_of stream_of k) k id trace (Outcome id) (Given (Some o)) (Gave o) refl e

-- ---- what receivers were told

-- what was told, as words
abbrev pub words_of : Option Word → List Word
words_of None = []
words_of (Some word) = word ∷ []

-- and as what happened to items
abbrev pub told_of : (Word → Flow) → Option Word → List Flow
told_of hears None = []
told_of hears (Some word) = hears word ∷ []

-- an item was asked for of this id
pub told : (says : Event → Reply → List Flow) (k at : ℕ) (trace : List Entry) (event : Event) (hears : Word → Flow) (given : Option Word) → says event (Item None) ≡ []
    → ((word : Word) → says event (Item (Some word)) ≡ only_if (nat_eq at k) (hears word)) → at ≡ k → said says (with_entry trace event (Item given)) ≡ said says trace ++ told_of hears given
told says k at trace event hears None none some e = said_then says trace event (Item None) ∙ ap (λ xs. said says trace ++ xs) none
told says k at trace event hears (Some word) none some e = heard says k at trace event (Item (Some word)) (hears word) (some word) e

-- and of another
pub untold : (says : Event → Reply → List Flow) (k at : ℕ) (trace : List Entry) (event : Event) (hears : Word → Flow) (given : Option Word) → says event (Item None) ≡ []
    → ((word : Word) → says event (Item (Some word)) ≡ only_if (nat_eq at k) (hears word)) → at ≢ k → said says (with_entry trace event (Item given)) ≡ said says trace
untold says k at trace event hears None none some e = silent says trace event (Item None) none
untold says k at trace event hears (Some word) none some e = unheard says k at trace event (Item (Some word)) (hears word) (some word) e

-- ---- lists of acts

pub work_append : (a b : List Act) → work (a ++ b) ≡ work a ++ work b
work_append [] b = refl
work_append (Gave outcome ∷ a) b = work_append a b
work_append (act ∷ a) b = ap (λ xs. act ∷ xs) (work_append a b)

pub outcomes_append : (a b : List Act) → outcomes (a ++ b) ≡ outcomes a ++ outcomes b
outcomes_append [] b = refl
outcomes_append (Gave outcome ∷ a) b = ap (λ xs. outcome ∷ xs) (outcomes_append a b)
outcomes_append (act ∷ a) b = outcomes_append a b

pub calls_append : (a b : List Act) → calls (a ++ b) ≡ calls a ++ calls b
calls_append [] b = refl
calls_append (Called request ∷ a) b = ap (λ xs. request ∷ xs) (calls_append a b)
calls_append (act ∷ a) b = calls_append a b

pub calls_work : (a : List Act) → calls a ≡ calls (work a)
calls_work [] = refl
calls_work (Called request ∷ a) = ap (λ xs. request ∷ xs) (calls_work a)
calls_work (act ∷ a) = calls_work a

pub names_work : (a : List Act) → names a ≡ names (work a)
names_work [] = refl
names_work (Called request ∷ a) = ap (λ xs. request ∷ xs) (names_work a)
names_work (Opened request up down ∷ a) = ap (λ xs. request ∷ xs) (names_work a)
names_work (act ∷ a) = names_work a

pub runs_work : (a : List Act) → runs a ≡ runs (work a)
runs_work [] = refl
runs_work (Ran job stream request ∷ a) = ap (λ xs. job ∷ xs) (runs_work a)
runs_work (act ∷ a) = runs_work a

-- what was done for one call or stream has one name and at most one run
abbrev pub IsOnce : List Act → Type 0
IsOnce xs = (length (names xs) ≤ 1) × (length (runs xs) ≤ 1)

call_once : (q : Request) {xs : List Act} → IsBegun (Called q) q xs → IsOnce xs
call_once q (inl e) = subst IsOnce (sym e) (omega arith, omega arith)
call_once q (inr (job, stream, inl e)) = subst IsOnce (sym e) (omega arith, omega arith)
call_once q (inr (job, stream, inr (kind, result, e))) = subst IsOnce (sym e) (omega arith, omega arith)

stream_once : (q : Request) (up down : Bool) {xs : List Act} → IsBegun (Opened q up down) q xs → IsOnce xs
stream_once q up down (inl e) = subst IsOnce (sym e) (omega arith, omega arith)
stream_once q up down (inr (job, stream, inl e)) = subst IsOnce (sym e) (omega arith, omega arith)
stream_once q up down (inr (job, stream, inr (kind, result, e))) = subst IsOnce (sym e) (omega arith, omega arith)

work_once : (xs : List Act) → (xs ≡ []) ⊎ IsWorkOf xs → IsOnce xs
work_once xs (inl e) = subst IsOnce (sym e) (omega arith, omega arith)
work_once xs (inr (inl (q, b))) = call_once q b
work_once xs (inr (inr (q, up, down, b))) = stream_once q up down b

pub named_once : (xs : List Act) → IsExactlyOnce xs → IsOnce xs
named_once xs h = let n = work_once (work xs) h.work_is in (rw (names_work xs) n.0, rw (runs_work xs) n.1)

pub all_work : (a : List Act) → outcomes a ≡ [] → a ≡ work a
all_work [] h = refl
all_work (Gave outcome ∷ a) h = cc
all_work (act ∷ a) h = ap (λ xs. act ∷ xs) (all_work a h)

-- ---- lists of what happened to items

pub put_up_append : (a b : List Flow) → put_up (a ++ b) ≡ put_up a ++ put_up b
put_up_append [] b = refl
put_up_append (Asked request ∷ a) b = ap (λ (xs : List MailboxEntry). ThingItem request.payload ∷ xs) (put_up_append a b)
put_up_append (Began request true ∷ a) b = put_up_append a b
put_up_append (Began request false ∷ a) b = ap (λ (xs : List MailboxEntry). ThingLast request.payload ∷ xs) (put_up_append a b)
put_up_append (SentUp bytes ∷ a) b = ap (λ (xs : List MailboxEntry). ThingItem bytes ∷ xs) (put_up_append a b)
put_up_append (ClosedUp ∷ a) b = ap (λ (xs : List MailboxEntry). ThingEnd ∷ xs) (put_up_append a b)
put_up_append (x ∷ a) b = put_up_append a b

pub put_down_append : (rules : Rules) (limit : ℕ) (a b : List Flow) → put_down rules limit (a ++ b) ≡ put_down rules limit a ++ put_down rules limit b
put_down_append rules limit [] b = refl
put_down_append rules limit (SentDown bytes ∷ a) b = ap (λ (xs : List MailboxEntry). ThingItem bytes ∷ xs) (put_down_append rules limit a b)
put_down_append rules limit (EndedDown result ∷ a) b = ap (λ (xs : List MailboxEntry). ending_thing rules limit result ∷ xs) (put_down_append rules limit a b)
put_down_append rules limit (x ∷ a) b = put_down_append rules limit a b

pub heard_up_append : (a b : List Flow) → heard_up (a ++ b) ≡ heard_up a ++ heard_up b
heard_up_append [] b = refl
heard_up_append (HeardUp word ∷ a) b = ap (λ xs. word ∷ xs) (heard_up_append a b)
heard_up_append (x ∷ a) b = heard_up_append a b

pub heard_down_append : (a b : List Flow) → heard_down (a ++ b) ≡ heard_down a ++ heard_down b
heard_down_append [] b = refl
heard_down_append (HeardDown word ∷ a) b = ap (λ xs. word ∷ xs) (heard_down_append a b)
heard_down_append (x ∷ a) b = heard_down_append a b
