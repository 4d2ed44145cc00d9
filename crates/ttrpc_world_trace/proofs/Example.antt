-- A stream of one item each way, and its ends: the definitions say of it what it is, by computing alone.
use Rattle.ttrpc_world_trace.proofs.Words.{[], AreInOrder, Entry, Eof, Err, flows, Fresh, has_end, heard_down, heard_up, Item, List, None, Ok, put_down, put_up, refl, Request, Rules, Some, ThingEnd, ThingItem, true, ℕ, ◌∷◌, ◌≡◌, IsInOrder, RemoteClosed, false, acts, arith, AsyncRules, calls, Event, inl, inr, sym, told_by, Given, MessageHeader, Outcome, pos, Reply, Response, SyncRules, ◌++◌, Act, AllByRecursion, Answered, ap, asked_by, Called, Error, Gave, IsExactlyOnce, IsWorkOf, Ran, Result, subst, ◌∙◌, ◌⊎◌}
use Rattle.ttrpc_world_trace.proofs.Here.{never_empty, no_cons}
use Rattle.std.specs.Prelude.{◌+◌, ◌-◌}
use Rattle.ttrpc_world_trace.specs.Flows.{Tells}
use Rattle.ttrpc_world_trace.specs.Trace.{IsOneToOne, IsStreamOf, some_of}
use Rattle.ttrpc_world_trace.specs.Types.{Answer, CallEvent, Carry, Close, Count, Deliver, Done, EndStream, Handed, Drain, Named, Open, Recv, Refused, Send, Take, Tick, Ticket}
use Rattle.ttrpc_world_trace.specs.declared.events.Side.TheVariants.{Client as ClientSide, Server as ServerSide}
use Rattle.ttrpc_world_trace.specs.Clean.{is_clean_answer, is_clean_event, is_clean_reply, IsAskedFor, IsAskedOutDown, IsAskedOutUp, IsClean, IsCleanAt, IsDrained, IsAnsweredIn, IsInTime, IsQuiet, IsWholeCall, IsWholeStream, since, takes_nothing}
use Rattle.ttrpc_world_trace.specs.declared.events.StreamEnd.TheVariants as end

-- It is opened by this request, and its job is 7. The client sends `a` and closes, the server sends `b` and ends it.
abbrev trace : Request → List Entry
trace q =
    record { event = Open q true true; reply = Named 1 } ∷
    record { event = Send (end.Client 1) (97 ∷ []); reply = Ticket 1 } ∷
    record { event = Recv (end.Server 7); reply = Item (Some (Ok (97 ∷ []))) } ∷
    record { event = Recv (end.Server 7); reply = Item None } ∷
    record { event = Close 1; reply = Ticket 2 } ∷
    record { event = Recv (end.Server 7); reply = Item (Some (Err Eof)) } ∷
    record { event = Send (end.Server 7) (98 ∷ []); reply = Ticket 1 } ∷
    record { event = EndStream 7 (Ok None); reply = Done } ∷
    record { event = Recv (end.Client 1); reply = Item (Some (Ok (98 ∷ []))) } ∷
    record { event = Recv (end.Client 1); reply = Item (Some (Err Eof)) } ∷ []

-- the stream of its job
abbrev stream_of : ℕ → ℕ
stream_of job = 1

pub is_put_up : (q : Request) → put_up (flows stream_of 1 (trace q)) ≡ ThingItem (97 ∷ []) ∷ ThingEnd ∷ []
is_put_up q = refl

pub is_put_down : (rules : Rules) (limit : ℕ) (q : Request) → put_down rules limit (flows stream_of 1 (trace q)) ≡ ThingItem (98 ∷ []) ∷ ThingEnd ∷ []
is_put_down rules limit q = refl

pub is_heard : (q : Request) → (heard_up (flows stream_of 1 (trace q)) ≡ Ok (97 ∷ []) ∷ Err Eof ∷ []) × (heard_down (flows stream_of 1 (trace q)) ≡ Ok (98 ∷ []) ∷ Err Eof ∷ [])
is_heard q = (refl, refl)

pub has_ends : (q : Request) → (has_end Fresh (heard_up (flows stream_of 1 (trace q))) ≡ true) × (has_end Fresh (heard_down (flows stream_of 1 (trace q))) ≡ true)
has_ends q = (refl, refl)

pub is_in_order : (rules : Rules) (limit : ℕ) (q : Request) → AreInOrder rules limit (flows stream_of 1 (trace q))
is_in_order rules limit q = record {
  up = record { rest = []; beginning = refl; whole = λ e. (refl, refl) };
  down = record { rest = []; beginning = refl; whole = λ e. (refl, refl) };
}

-- and nothing of another id
pub none_of_another : (q : Request) → flows stream_of 3 (trace q) ≡ []
none_of_another q = refl

-- An item that is lost isn't in order, and neither is an end where nothing was closed.
pub lost : IsInOrder (ThingItem [] ∷ ThingItem (98 ∷ []) ∷ []) (Ok (98 ∷ []) ∷ []) → ⊥
lost o = let bad : [] ∷ (98 ∷ []) ∷ [] ≡ (98 ∷ []) ∷ o.rest = o.beginning in cc

pub unclosed : IsInOrder (ThingItem (97 ∷ []) ∷ []) (Ok (97 ∷ []) ∷ Err RemoteClosed ∷ []) → ⊥
unclosed o = let bad : false ≡ true = (o.whole refl).1 in cc

-- ---- a clean and quiet run, of a call and of a stream: what is whole in it has premises that can be met

abbrev e : Event → Reply → Entry
e event reply = record { event = event; reply = reply }

-- what is asked: the call may take five nanoseconds
abbrev asked : Request
asked = record { service = []; method = []; payload = 97 ∷ []; timeout_nano = pos 5; metadata = [] }

abbrev header_at : ℕ → MessageHeader
header_at k = record { length = 0; stream_id = k; type_ = 1; flags = 0 }

abbrev replied : Response
replied = record { status = None; payload = 98 ∷ [] }

-- of job 1 the id is 1, of job 2 it is 3
abbrev id_of : ℕ → ℕ
id_of job = job + job - 1

abbrev last_four : List Entry
last_four = e (Carry ClientSide 1) (Count 0) ∷ e (Carry ServerSide 1) (Count 0) ∷ e (Deliver ServerSide 1) (Count 0) ∷ e (Deliver ClientSide 1) (Count 0) ∷ []

-- The call is made and answered in time. A later moment is behind its deadline, and it has its outcome by then.
abbrev one_call : List Entry
one_call = e (CallEvent asked) (Named 1) ∷ e (Tick 4) Done ∷ e (Carry ClientSide 40) (Count 30) ∷ e (Deliver ServerSide 40) (Count 30)
    ∷ e Take (Handed (Some (record { id = 1; header = header_at 1; stream = false; request = asked }))) ∷ e Take (Handed None)
    ∷ e (Answer 1 (Ok replied)) Done ∷ e (Carry ServerSide 40) (Count 30) ∷ e (Deliver ClientSide 40) (Count 30) ∷ e (Outcome 1) (Given (Some (Ok replied))) ∷ e (Tick 5) Done ∷ []

abbrev once : List Entry
once = one_call ++ last_four

clean_at : (rules : Rules) (f : ℕ → ℕ) (front : List Entry) (event : Event) (reply : Reply) → is_clean_event event ≡ true → is_clean_reply reply ≡ true → is_clean_answer rules event reply ≡ true → IsInTime f front event reply → IsCleanAt rules f front event reply
clean_at rules f front event reply a b d t = record { event_is = a; reply_is = b; answer_is = d; in_time = t }

pub clean : IsClean SyncRules id_of once
clean = (clean_at _ _ _ _ _ refl refl refl tt, (clean_at _ _ _ _ _ refl refl refl refl, (clean_at _ _ _ _ _ refl refl refl tt, (clean_at _ _ _ _ _ refl refl refl tt, (clean_at _ _ _ _ _ refl refl refl tt, (clean_at _ _ _ _ _ refl refl refl tt, (clean_at _ _ _ _ _ refl refl refl tt, (clean_at _ _ _ _ _ refl refl refl tt, (clean_at _ _ _ _ _ refl refl refl tt, (clean_at _ _ _ _ _ refl refl refl tt, (clean_at _ _ _ _ _ refl refl refl refl, (clean_at _ _ _ _ _ refl refl refl tt, (clean_at _ _ _ _ _ refl refl refl tt, (clean_at _ _ _ _ _ refl refl refl tt, (clean_at _ _ _ _ _ refl refl refl tt, tt)))))))))))))))

pub quiet : IsQuiet once
quiet = record {
  drained = record { front = one_call; from = ClientSide; to = ServerSide; a = 1; b = 1; c = 1; d = 1; some = (omega arith, omega arith, omega arith, omega arith); ends = refl };
  answered = (tt, (tt, (tt, (tt, (refl, (tt, (tt, (tt, (tt, (tt, (tt, (tt, (tt, (tt, (tt, tt)))))))))))))));
  taken = refl;
}

-- so the call is whole: by its one run it was answered, and told of that answer
pub is_called : calls (acts id_of 1 once) ≡ asked ∷ []
is_called = refl

pub is_asked_for : IsAskedFor id_of 1 once
is_asked_for = inr refl

pub is_whole : (limit : ℕ) → told_by SyncRules limit replied ≡ Ok replied → IsWholeCall SyncRules limit asked (acts id_of 1 once)
is_whole limit told = (1, Ok replied, Ok replied, refl, (replied, refl, sym told))

-- Where the outcome was asked for too early, it isn't asked for.
abbrev too_early : List Entry
too_early = e (CallEvent asked) (Named 1) ∷ e (Outcome 1) (Given None) ∷ e (Carry ServerSide 40) (Count 30) ∷ e (Deliver ClientSide 40) (Count 30) ∷ last_four

pub isnt_asked_for : IsAskedFor id_of 1 too_early → ⊥
isnt_asked_for (inl some) = some refl
isnt_asked_for (inr late) = cc

-- A moment that reaches the deadline of a call that waits isn't clean.
pub late : IsInTime id_of (e (CallEvent asked) (Named 1) ∷ []) (Tick 5) Done → ⊥
late h = cc

-- ---- made-up stories of one id, each of which lacks one thing

-- a second outcome
pub two_outcomes : (one two : Result Response Error) → IsExactlyOnce (Called asked ∷ Gave one ∷ Gave two ∷ []) → ⊥
two_outcomes one two h = absurd (omega (arith, h.one_outcome))

-- an `Ok` without a run
pub no_run : IsExactlyOnce (Called asked ∷ Gave (Ok replied) ∷ []) → ⊥
no_run h = let w = h.whole replied refl in
    let bad : Called asked ∷ Gave (Ok replied) ∷ [] ≡ Called w.1.0 ∷ Ran w.1.1 w.1.2 (asked_by w.1.2 w.1.0) ∷ Answered w.1.2 (Ok (Some replied)) ∷ Gave (Ok replied) ∷ [] = w.1.3 in
    cc

-- an `Ok` of another answer than that of the run
abbrev other_reply : Response
other_reply = record { status = None; payload = [] }

pub another_answer : IsExactlyOnce (Called asked ∷ Ran 1 false asked ∷ Answered false (Ok (Some replied)) ∷ Gave (Ok other_reply) ∷ []) → ⊥
another_answer h = let w = h.whole other_reply refl in
    let all : Called asked ∷ Ran 1 false asked ∷ Answered false (Ok (Some replied)) ∷ Gave (Ok other_reply) ∷ []
    ≡ Called w.1.0 ∷ Ran w.1.1 w.1.2 (asked_by w.1.2 w.1.0) ∷ Answered w.1.2 (Ok (Some other_reply)) ∷ Gave (Ok other_reply) ∷ [] = w.1.3 in
    let same : replied ≡ other_reply = cc in
    no_cons 98 [] (ap (λ (r : Response). r.payload) same)

-- a run without a call or a stream, and one of another request than the call's
unnamed : (Ran 1 false asked ∷ [] ≡ []) ⊎ IsWorkOf (Ran 1 false asked ∷ []) → ⊥
unnamed (inl e) = cc
unnamed (inr (inl (q, inl e))) = cc
unnamed (inr (inl (q, inr (job, stream, inl e)))) = cc
unnamed (inr (inl (q, inr (job, stream, inr (kind, result, e))))) = cc
unnamed (inr (inr (q, up, down, inl e))) = cc
unnamed (inr (inr (q, up, down, inr (job, stream, inl e)))) = cc
unnamed (inr (inr (q, up, down, inr (job, stream, inr (kind, result, e))))) = cc

pub no_call : IsExactlyOnce (Ran 1 false asked ∷ []) → ⊥
no_call h = unnamed h.work_is

-- a whole call whose outcome isn't what is told of its answer
untold_by : (limit : ℕ) (result : Result Response Error) → told_by SyncRules limit replied ≡ Ok replied → some_of result ≡ Ok (Some replied) → Tells SyncRules limit result (Err Eof) → ⊥
untold_by limit (Ok r) told same t =
    let sent : t.0 ≡ r = t.1 in
    let is : r ≡ replied = cc in
    let bad : Err Eof ≡ Ok replied = t.2 ∙ ap (told_by SyncRules limit) (sent ∙ is) ∙ told in
    cc
untold_by limit (Err x) told same t = cc

pub another_outcome : (limit : ℕ) → told_by SyncRules limit replied ≡ Ok replied → IsWholeCall SyncRules limit asked (Called asked ∷ Ran 1 false asked ∷ Answered false (Ok (Some replied)) ∷ Gave (Err Eof) ∷ []) → ⊥
another_outcome limit told w =
    let all : Called asked ∷ Ran 1 false asked ∷ Answered false (Ok (Some replied)) ∷ Gave (Err Eof) ∷ [] ≡ Called asked ∷ Ran w.0 false asked ∷ Answered false (some_of w.1) ∷ Gave w.2 ∷ [] = w.3 in
    let answer : some_of w.1 ≡ Ok (Some replied) = cc in
    let given : w.2 ≡ Err Eof = cc in
    untold_by limit w.1 told answer (subst (Tells SyncRules limit w.1) given w.4)

-- a second job of one id, under a function that is right for both
abbrev handed : ℕ → Entry
handed id = e Take (Handed (Some (record { id = id; header = header_at 1; stream = false; request = asked })))

pub two_jobs : (f : ℕ → ℕ) → IsStreamOf f (handed 1 ∷ handed 2 ∷ []) → IsOneToOne f → ⊥
two_jobs f right one = absurd (omega (arith, one 1 2 (right.0 ∙ sym right.1.0)))

-- ---- events that aren't clean, each for one reason alone

pub unclean_event : (IsCleanAt SyncRules id_of [] Drain Done → ⊥) × (is_clean_reply Done ≡ true) × (is_clean_answer SyncRules Drain Done ≡ true) × IsInTime id_of [] Drain Done
unclean_event = ((λ c. let bad : false ≡ true = c.event_is in cc), refl, refl, tt)

pub unclean_reply : (IsCleanAt SyncRules id_of [] (CallEvent asked) (Refused Eof) → ⊥) × (is_clean_event (CallEvent asked) ≡ true) × (is_clean_answer SyncRules (CallEvent asked) (Refused Eof) ≡ true) × IsInTime id_of [] (CallEvent asked) (Refused Eof)
unclean_reply = ((λ c. let bad : false ≡ true = c.reply_is in cc), refl, refl, tt)

pub unclean_answer : (IsCleanAt SyncRules id_of [] (Answer 1 (Err Eof)) Done → ⊥) × (is_clean_event (Answer 1 (Err Eof)) ≡ true) × (is_clean_reply Done ≡ true) × IsInTime id_of [] (Answer 1 (Err Eof)) Done
unclean_answer = ((λ c. let bad : false ≡ true = c.answer_is in cc), refl, refl, tt)

pub unclean_moment : (IsCleanAt SyncRules id_of (e (CallEvent asked) (Named 1) ∷ []) (Tick 5) Done → ⊥) × (is_clean_event (Tick 5) ≡ true) × (is_clean_reply Done ≡ true) × (is_clean_answer SyncRules (Tick 5) Done ≡ true)
unclean_moment = ((λ c. late c.in_time), refl, refl, refl)

-- ---- runs that aren't quiet, each for one reason alone

-- the last four events aren't those of a run in which nothing moves
pub undrained : (IsDrained [] → ⊥) × AllByRecursion (λ (x : Entry). IsAnsweredIn [] x.event x.reply) [] × (since ServerSide takes_nothing true [] ≡ true)
undrained = ((λ d. never_empty d.front _ _ (sym d.ends)), tt, refl)

drained_behind : (front : List Entry) → IsDrained (front ++ last_four)
drained_behind front = record { front = front; from = ClientSide; to = ServerSide; a = 1; b = 1; c = 1; d = 1; some = (omega arith, omega arith, omega arith, omega arith); ends = refl }

-- a job that was handed out has no answer
abbrev kept_waiting : List Entry
kept_waiting = (handed 1 ∷ e Take (Handed None) ∷ []) ++ last_four

pub unanswered_job : IsDrained kept_waiting × (AllByRecursion (λ (x : Entry). IsAnsweredIn kept_waiting x.event x.reply) kept_waiting → ⊥) × (since ServerSide takes_nothing true kept_waiting ≡ true)
unanswered_job = (drained_behind (handed 1 ∷ e Take (Handed None) ∷ []), (λ all. let bad : false ≡ true = all.0 in cc), refl)

-- nobody asked for a job behind the last bytes
abbrev unasked_for : List Entry
unasked_for = (e (Deliver ServerSide 40) (Count 30) ∷ []) ++ last_four

pub untaken : IsDrained unasked_for × AllByRecursion (λ (x : Entry). IsAnsweredIn unasked_for x.event x.reply) unasked_for × (since ServerSide takes_nothing true unasked_for ≡ true → ⊥)
untaken = (drained_behind (e (Deliver ServerSide 40) (Count 30) ∷ []), (tt, (tt, (tt, (tt, (tt, tt))))), (λ late. let bad : false ≡ true = late in cc))

-- ---- the stream above, which is clean where nothing else is of it: both its receivers were told of an end

pub both_ends : (q : Request) → IsAskedOutUp stream_of 1 (trace q) × IsAskedOutDown stream_of 1 (trace q)
both_ends q = (inl refl, inl refl)

pub is_whole_stream : (rules : Rules) (limit : ℕ) (q : Request) → IsWholeStream rules limit stream_of 1 (trace q)
is_whole_stream rules limit q = record { up = λ out. refl; down = λ out. refl }

-- One that lost an item on its way isn't whole.
abbrev lossy : Request → List Entry
lossy q = e (Open q true true) (Named 1) ∷ e (Send (end.Client 1) (97 ∷ [])) (Ticket 1) ∷ e (Recv (end.Server 7)) (Item None) ∷ []

none_given : (bytes : List ℕ) → [] ≡ bytes ∷ [] → ⊥
none_given bytes h = cc

pub isnt_whole : (rules : Rules) (limit : ℕ) (q : Request) → IsWholeStream rules limit stream_of 1 (lossy q) → ⊥
isnt_whole rules limit q w = none_given (97 ∷ []) (w.up (inr refl))

-- ---- one that is clean and quiet: its job is told of an item and then of nothing yet, and its client of an item and an end

-- it sends items itself
abbrev opening : Request
opening = record { service = []; method = []; payload = []; timeout_nano = pos 0; metadata = [] }

abbrev two_ways : List Entry
two_ways = e (Open opening true true) (Named 1) ∷ e (Send (end.Client 1) (97 ∷ [])) (Ticket 1) ∷ e (Carry ClientSide 40) (Count 30) ∷ e (Deliver ServerSide 40) (Count 30)
    ∷ e Take (Handed (Some (record { id = 1; header = header_at 1; stream = true; request = opening }))) ∷ e Take (Handed None)
    ∷ e (Recv (end.Server 1)) (Item (Some (Ok (97 ∷ [])))) ∷ e (Recv (end.Server 1)) (Item None) ∷ e (Send (end.Server 1) (98 ∷ [])) (Ticket 1) ∷ e (EndStream 1 (Ok None)) Done
    ∷ e (Carry ServerSide 40) (Count 30) ∷ e (Deliver ClientSide 40) (Count 30) ∷ e (Recv (end.Client 1)) (Item (Some (Ok (98 ∷ [])))) ∷ e (Recv (end.Client 1)) (Item (Some (Err Eof))) ∷ []

abbrev streamed : List Entry
streamed = two_ways ++ last_four

pub clean_stream : IsClean AsyncRules id_of streamed
clean_stream = (clean_at _ _ _ _ _ refl refl refl tt, (clean_at _ _ _ _ _ refl refl refl tt, (clean_at _ _ _ _ _ refl refl refl tt, (clean_at _ _ _ _ _ refl refl refl tt, (clean_at _ _ _ _ _ refl refl refl tt, (clean_at _ _ _ _ _ refl refl refl tt, (clean_at _ _ _ _ _ refl refl refl tt, (clean_at _ _ _ _ _ refl refl refl tt, (clean_at _ _ _ _ _ refl refl refl tt, (clean_at _ _ _ _ _ refl refl refl tt, (clean_at _ _ _ _ _ refl refl refl tt, (clean_at _ _ _ _ _ refl refl refl tt, (clean_at _ _ _ _ _ refl refl refl tt, (clean_at _ _ _ _ _ refl refl refl tt, (clean_at _ _ _ _ _ refl refl refl tt, (clean_at _ _ _ _ _ refl refl refl tt, (clean_at _ _ _ _ _ refl refl refl tt, (clean_at _ _ _ _ _ refl refl refl tt, tt))))))))))))))))))

pub quiet_stream : IsQuiet streamed
quiet_stream = record {
  drained = record { front = two_ways; from = ClientSide; to = ServerSide; a = 1; b = 1; c = 1; d = 1; some = (omega arith, omega arith, omega arith, omega arith); ends = refl };
  answered = (tt, (tt, (tt, (tt, (refl, (tt, (tt, (tt, (tt, (tt, (tt, (tt, (tt, (tt, (tt, (tt, (tt, (tt, tt))))))))))))))))));
  taken = refl;
}

pub asked_out : IsAskedOutUp id_of 1 streamed × IsAskedOutDown id_of 1 streamed
asked_out = (inr refl, inl refl)

pub is_whole_too : (rules : Rules) (limit : ℕ) → IsWholeStream rules limit id_of 1 streamed
is_whole_too rules limit = record { up = λ out. refl; down = λ out. refl }

-- Where nothing was there yet before the bytes came, the receiver isn't asked out.
abbrev asked_early : List Entry
asked_early = e (Recv (end.Server 1)) (Item None) ∷ e (Deliver ServerSide 40) (Count 30) ∷ last_four

pub isnt_asked_out : IsAskedOutUp id_of 1 asked_early → ⊥
isnt_asked_out (inl ends) = cc
isnt_asked_out (inr late) = cc
