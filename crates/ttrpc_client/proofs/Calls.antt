-- The calls of a client core take nothing of what comes in, and the queue goes through what they say.
use Rattle.ttrpc_client.proofs.Words.{cond_both, ◌≡◌, ◌∙◌, ◌&&◌, not, ℕ, nat_eq, List, [], ◌∷◌, Option, Some, None, is_some, Bool, true, false, if◌then◌else◌, refl, sym, ap, subst, Queued, Queue, Happening, Placed, with_payload, OutboundTransform, Connection, Failure, AreLawful, Goes, ClientCore, Called, Asked, Dropped, Ticked, Opened, SentOn, Passes, Does, Causes, called, core, thrown_at, thrown_if, Client, call_at, throws, due_at, taken_back, takes_back, IsOpeningFrame, IsRequestFrame, CancelledDuringWrite, DeadlineDuringWrite, goes_not, queued_goes}
use Rattle.ttrpc_connection.specs.Items.{IsDataFrame}

-- ---- the decoder

back_decoder : {O I : Type 0} (b : Bool) (c : Connection O I) (ids : ℕ → Bool) (why : Failure) → (if b then taken_back c ids why else c).decoder ≡ c.decoder
back_decoder b c ids why = cond_both b (taken_back c ids why) c (λ x. x.decoder ≡ c.decoder) (λ _. refl) (λ _. refl)

passes_decoder : {O I : Type 0} (seals : Bool) (failure : Option Failure) (old : ClientCore O I) (now : ℕ) (new : ClientCore O I) → Passes seals failure old now new → new.connection.decoder ≡ old.connection.decoder
passes_decoder seals None old now new ticks = ap (λ (c : Connection _ _). c.decoder) ticks.connection ∙ back_decoder (throws old.state.kind seals) old.connection _ _
passes_decoder seals (Some failure) old now new same = ap (λ c. c.connection.decoder) same

does_decoder : {O I : Type 0} (out : OutboundTransform O) (seals : Bool) (a : Called) (old new : ClientCore O I) → Does out seals a old new → new.connection.decoder ≡ old.connection.decoder
does_decoder out seals (Dropped id) old new did = ap (λ c. c.connection.decoder) did.same ∙ back_decoder (takes_back seals old id) old.connection _ _
does_decoder out seals (Ticked now) old new did = passes_decoder seals old.connection.failure old now new did
does_decoder out seals a old new did = ap (λ c. c.connection.decoder) did.same

decoder : {O I : Type 0} (out : OutboundTransform O) (seals : Bool) (a : Called) (s : Client) (old : Connection O I) (hs : List Happening) (t : Client) (new : Connection O I) → called out seals a s old hs t new
    → new.decoder ≡ old.decoder
decoder out seals a s old hs t new call = does_decoder out seals a (core s old) (core t new) call.0

-- ---- the queue

back_goes : {O I : Type 0} (b : Bool) (c : Connection O I) (ids : ℕ → Bool) (why : Failure) → Goes c.outbox.queue (thrown_if b ids) (if b then taken_back c ids why else c).outbox.queue
back_goes true c ids why = record { after = refl; allowed = (tt, tt) }
back_goes false c ids why = record { after = refl; allowed = tt }

goes_so : (q : Queue) (hs ks : List Happening) (r p : Queue) → Goes q ks p → hs ≡ ks → r ≡ p → Goes q hs r
goes_so q hs ks r p goes same is = subst (λ xs. Goes q xs r) (sym same) (subst (λ x. Goes q ks x) (sym is) goes)

passes_goes : {O I : Type 0} (seals : Bool) (failure : Option Failure) (old : ClientCore O I) (now : ℕ) (new : ClientCore O I) → old.connection.failure ≡ failure → Passes seals failure old now new
    → (hs : List Happening) → hs ≡ thrown_at seals old now → Goes old.connection.outbox.queue hs new.connection.outbox.queue
passes_goes seals None old now new e ticks hs is =
    let due : ℕ → Bool = λ id. due_at now (call_at old.state id) in
    goes_so old.connection.outbox.queue hs _ new.connection.outbox.queue _ (back_goes (throws old.state.kind seals) old.connection due DeadlineDuringWrite)
    (is ∙ ap (λ f. thrown_if (not (is_some f) && throws old.state.kind seals) due) e) (ap (λ (c : Connection _ _). c.outbox.queue) ticks.connection)
passes_goes seals (Some failure) old now new e same hs is =
    goes_not old.connection.outbox.queue new.connection.outbox.queue hs (ap (λ c. c.connection.outbox.queue) same)
    (is ∙ ap (λ f. thrown_if (not (is_some f) && throws old.state.kind seals) (λ id. due_at now (call_at old.state id))) e)

queue : {O I : Type 0} (out : OutboundTransform O) (seals : Bool) (a : Called) (s : Client) (old : Connection O I) (hs : List Happening) (t : Client) (new : Connection O I) → called out seals a s old hs t new
    → Goes old.outbox.queue hs new.outbox.queue
queue out seals (Asked request now id) s old hs t new call =
    queued_goes old.outbox.queue new.outbox.queue (call.1.0 ∷ []) hs (with_payload call.0.frame call.0.sends.sealed ∷ [], call.0.sends.queue) call.1.2 call.1.3
queue out seals (Opened request streaming_client streaming_server id) s old hs t new call =
    queued_goes old.outbox.queue new.outbox.queue (call.1.0 ∷ []) hs (with_payload call.0.frame call.0.sends.sealed ∷ [], call.0.sends.queue) call.1.2 call.1.3
queue out seals (SentOn id flags plain sender ticket) s old hs t new call =
    queued_goes old.outbox.queue new.outbox.queue (call.1.0 ∷ []) hs (with_payload call.0.sends.frame call.0.sends.sends.sealed ∷ [], call.0.sends.sends.queue) call.1.2 call.1.3
queue out seals (Dropped id) s old hs t new call =
    goes_so old.outbox.queue hs _ new.outbox.queue _ (back_goes (takes_back seals (core s old) id) old (λ k. nat_eq k id) CancelledDuringWrite) call.1 (ap (λ c. c.connection.outbox.queue) call.0.same)
queue out seals (Ticked now) s old hs t new call = passes_goes seals old.failure (core s old) now (core t new) refl call.0 hs call.1
queue out seals a s old hs t new call = goes_not old.outbox.queue new.outbox.queue hs (ap (λ c. c.connection.outbox.queue) call.0.same) call.1

pub called_is_lawful : {O I : Type 0} (out : OutboundTransform O) (seals : Bool) → AreLawful (called {O = O} {I = I} out seals)
called_is_lawful out seals = record { decoder = decoder out seals; queue = queue out seals }

-- ---- each call has its history

filled_request : (id : ℕ) (f : Queued) (payload : List ℕ) → IsRequestFrame id f → IsRequestFrame id (with_payload f payload)
filled_request id f payload is =
    record { stream_id = is.stream_id; type_ = is.type_; flags = is.flags; ticket = is.ticket; is_unary_request = is.is_unary_request; owner = is.owner }

filled_opening : (streaming_client : Bool) (id : ℕ) (f : Queued) (payload : List ℕ) → IsOpeningFrame streaming_client id f → IsOpeningFrame streaming_client id (with_payload f payload)
filled_opening streaming_client id f payload is =
    record { stream_id = is.stream_id; type_ = is.type_; flags = is.flags; ticket = is.ticket; is_unary_request = is.is_unary_request; owner = is.owner }

filled_data : (id flags ticket : ℕ) (f : Queued) (payload : List ℕ) → IsDataFrame id flags ticket f → IsDataFrame id flags ticket (with_payload f payload)
filled_data id flags ticket f payload is =
    record { stream_id = is.stream_id; type_ = is.type_; flags_are = is.flags_are; ticket_is = is.ticket_is; is_unary_request = is.is_unary_request; owner = is.owner }

pub does_cause : {O I : Type 0} (out : OutboundTransform O) (seals : Bool) (a : Called) (old new : ClientCore O I) → Does out seals a old new → (hs : List Happening) × Causes a seals old new hs
does_cause out seals (Asked request now id) old new did =
    let f = with_payload did.frame did.sends.sealed in
    (Placed f ∷ [], (f, filled_request id did.frame did.sends.sealed did.is_frame, ap (λ (q : Queue). q.frames) did.sends.queue, refl))
does_cause out seals (Opened request streaming_client streaming_server id) old new did =
    let f = with_payload did.frame did.sends.sealed in
    (Placed f ∷ [], (f, filled_opening streaming_client id did.frame did.sends.sealed did.is_frame, ap (λ (q : Queue). q.frames) did.sends.queue, refl))
does_cause out seals (SentOn id flags plain sender ticket) old new did =
    let f = with_payload did.sends.frame did.sends.sends.sealed in
    (Placed f ∷ [], (f, filled_data id flags ticket did.sends.frame did.sends.sends.sealed did.sends.is_frame, ap (λ (q : Queue). q.frames) did.sends.sends.queue, refl))
does_cause out seals (Dropped id) old new did = (_, refl)
does_cause out seals (Ticked now) old new did = (_, refl)
does_cause out seals a old new did = ([], refl)
