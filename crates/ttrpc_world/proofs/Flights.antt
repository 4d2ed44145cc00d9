-- The flights that requests, data and responses are sent as, and what they bring.
use Rattle.ttrpc_world.proofs.Payloads.{data_read, fitted_is, IsAnswerOf, IsRefusal, may_refuse, MaySend, response_read}
use Rattle.ttrpc_world.proofs.Words.{[], Act, AllByRecursion, ap, append-nil, append_assoc, arith, associated, Bool, by_status, close_flags, closing_delivery, data_delivery, data_thing, Err, Error, false, fitted, Flying, Follows, Gives, HasOkStatus, id_of, inl, inr, IsAnswer, IsCloseFrame, IsDown, IsItem, IsNever, IsOwned, IsRequest, IsResponse, IsSent, IsSentAs, IsSound, IsTurned, call_result_of, last_id, last_thing, length, List, malformed_text, MESSAGE_LENGTH_MAX, MESSAGE_TYPE_REQUEST, MESSAGE_TYPE_RESPONSE, StreamDelivery, delivery_of, None, Ok, Opened, Option, Origin, Others, OutboundTransform, Outbox, parcels, plain_status, pushed_other, pushed_own, Queued, refl, Request, request_bytes, Responds, Response, response_bytes, Result, Rules, safe_limit, SendsAll, SendsData, SendsOne, Sent, Some, status_cases, subst, sym, MailboxEntry, thing_down, thing_of, thing_up, ThingEnd, ThingItem, ThingLast, told_by, true, with_frame, with_payload, ℕ, ◌++◌, ◌<◌, ◌^◌, ◌∙◌, ◌∷◌, ◌≡◌, ◌≢◌, ◌≤◌, ◌⊎◌}

-- A frame was sent: it is a flight such as this.
pub record SendsFlight {O : Type 0} (out : OutboundTransform O) (old : Outbox O) (is_such : Flying → Type 0) (new : Outbox O) : Type 0 where
  pub y : Flying
  pub queue : new.queue ≡ with_frame old.queue y.frame
  pub seal : out.seals old.half y.plain (associated y.frame.message.header) y.frame.message.payload new.half
  pub sound : IsSound y.frame
  pub own : IsOwned y
  pub is : is_such y

-- the flight of a frame and its data
abbrev flight_of : Queued → List ℕ → List ℕ → Flying
flight_of f sealed plain = record { frame = with_payload f sealed; plain = plain }

sends_flight : {O : Type 0} (out : OutboundTransform O) (old : Outbox O) (f : Queued) (plain : List ℕ) (new : Outbox O) (is_such : Flying → Type 0) → (s : SendsOne out old f plain new)
    → f.message.header.stream_id ≤ last_id → f.message.header.type_ < 2 ^ 8 → f.message.header.flags < 2 ^ 8 → (f.is_unary_request ≡ true → f.owner ≡ f.message.header.stream_id) → is_such (flight_of f s.sealed plain)
    → SendsFlight out old is_such new
sends_flight out old f plain new is_such s stream type_ flags own is = record {
  y = flight_of f s.sealed plain;
  queue = s.queue;
  seal = s.seal;
  sound = record {
    fits = record { length = omega (arith, s.fits); stream_id = omega (arith, stream); type_ = type_; flags = flags };
    stated = omega (arith, s.fits);
    short = s.fits;
  };
  own = own;
  is = is;
}

-- a request in flight, of these flags
pub record IsRequestFlight (id : ℕ) (request : Request) (flags : ℕ) (y : Flying) : Type 0 where
  pub sent : IsSent id request y
  pub flags_are : y.frame.message.header.flags ≡ flags

-- A request is a flight, a call's or a stream's.
pub sends_request : {O : Type 0} (out : OutboundTransform O) (old : Outbox O) (request : Request) (id flags : ℕ) (f : Queued) (new : Outbox O) → IsRequest request → SendsOne out old f (request_bytes request) new
    → length (request_bytes request) ≤ MESSAGE_LENGTH_MAX → id ≤ last_id → f.message.header.stream_id ≡ id → f.message.header.type_ ≡ MESSAGE_TYPE_REQUEST → f.message.header.flags ≡ flags → flags < 2 ^ 8 → f.owner ≡ id
    → SendsFlight out old (IsRequestFlight id request flags) new
sends_request out old request id flags f new known s short within stream type_ flags_are low owner =
    sends_flight out old f (request_bytes request) new (IsRequestFlight id request flags) s (omega (arith, stream, within)) (omega (arith, type_)) (omega (arith, flags_are, low)) (λ unary. owner ∙ sym stream)
    (record { sent = record { known = known; plain = refl; short = short; stream = stream; type_ = type_ }; flags_are = flags_are })

-- data in flight, of these flags
pub record IsData (id flags : ℕ) (plain : List ℕ) (y : Flying) : Type 0 where
  pub item : IsItem id y
  pub flags_are : y.frame.message.header.flags ≡ flags
  pub plain_is : y.plain ≡ plain

-- Data of a stream are a flight.
pub sends_data : {O : Type 0} (out : OutboundTransform O) (old : Outbox O) (id flags ticket : ℕ) (plain : List ℕ) (new : Outbox O) → id ≤ last_id → flags < 2 ^ 8 → SendsData out old id flags plain ticket new → SendsFlight out old (IsData id flags plain) new
sends_data out old id flags ticket plain new within low p =
    let g = p.is_frame in
    sends_flight out old p.frame plain new (IsData id flags plain) p.sends (omega (arith, g.stream_id, within)) (omega (arith, g.type_)) (omega (arith, g.flags_are, low)) (λ unary. g.owner ∙ sym g.stream_id)
    (record { item = record { short = omega (arith, p.fits); stream = g.stream_id; type_ = g.type_ }; flags_are = g.flags_are; plain_is = refl })

-- what they bring
pub data_brings : {id flags : ℕ} {plain : List ℕ} {y : Flying} → IsData id flags plain y → thing_up y ≡ data_thing id flags plain
data_brings d = rw (d.item.stream, d.flags_are, d.plain_is) refl

-- a data frame that comes to the client is no end of a call
pub item_never : {k : ℕ} {y : Flying} → IsItem k y → IsNever k y
item_never {k} {y} i = record { stream = i.stream; error = Others (malformed_text y.frame.message.header); lands = (data_read y.frame.message.header y.plain i.short i.type_).0 }

-- and what it brings a stream there, unless that was opened without items
data_goes : {k flags : ℕ} {plain : List ℕ} {y : Flying} (x : MailboxEntry) → Follows (x ∷ []) (data_thing k flags plain ∷ []) → IsData k flags plain y → IsSentAs x y
data_goes {y = y} x follows d wanted =
    subst (λ (n : StreamDelivery). Follows (x ∷ []) (thing_of n ∷ [])) (sym ((data_read y.frame.message.header y.plain d.item.short d.item.type_).1 wanted)) (by wanted)
  where
    by : (b : Bool) → Follows (x ∷ []) (thing_of (data_delivery b y.frame.message.header y.plain) ∷ [])
    by true = subst (λ (t : MailboxEntry). Follows (x ∷ []) (t ∷ [])) (sym (data_brings d)) follows
    by false = λ m. refl

-- a frame that goes down with what was put in, and ends no call well
pub record IsGoing (k : ℕ) (x : MailboxEntry) (y : Flying) : Type 0 where
  pub never : IsNever k y
  pub goes : IsSentAs x y

-- an item
pub item_going : {k : ℕ} {bytes : List ℕ} {y : Flying} → IsData k 0 bytes y → IsGoing k (ThingItem bytes) y
item_going {k} {bytes} d =
    let follows : Follows (ThingItem bytes ∷ []) (data_thing k 0 bytes ∷ []) = ([], refl, inl refl) in
    record { never = item_never d.item; goes = data_goes (ThingItem bytes) follows d }

-- a frame that closes a stream
pub sends_close : {O : Type 0} (out : OutboundTransform O) (old : Outbox O) (k : ℕ) (f : Queued) (new : Outbox O) → k ≤ last_id → IsCloseFrame k f → SendsOne out old f [] new → SendsFlight out old (IsGoing k ThingEnd) new
sends_close out old k f new within g s =
    sends_flight out old f [] new (IsGoing k ThingEnd) s (omega (arith, g.stream_id, within)) (omega (arith, g.type_)) (omega (arith, g.flags)) (λ unary. g.owner ∙ sym g.stream_id)
    (closing (record { item = record { short = omega arith; stream = g.stream_id; type_ = g.type_ }; flags_are = g.flags; plain_is = refl }))
  where
    closing : {k : ℕ} {y : Flying} → IsData k close_flags [] y → IsGoing k ThingEnd y
    closing d = record { never = item_never d.item; goes = data_goes ThingEnd refl d }

-- such flights are such others
pub flight_as : {O : Type 0} {out : OutboundTransform O} {old new : Outbox O} (P Q : Flying → Type 0) → ((y : Flying) → P y → Q y) → SendsFlight out old P new → SendsFlight out old Q new
flight_as P Q turn f = record { y = f.y; queue = f.queue; seal = f.seal; sound = f.sound; own = f.own; is = turn f.y f.is }

-- the one frame of a response
one_of : {O : Type 0} (out : OutboundTransform O) (old : Outbox O) (rs : Rules) (k : ℕ) (r : Response) (sent : List Sent) (new : Outbox O) → (p : Responds rs (safe_limit out old.half) k r sent) → SendsAll out old sent new
    → SendsOne out old p.frame (response_bytes (fitted rs (safe_limit out old.half) r)) new
one_of out old rs k r sent new p q =
    let all = subst (λ (xs : List Sent). SendsAll out old xs new) p.is q in
    subst (λ (o : Outbox _). SendsOne out old p.frame (response_bytes (fitted rs (safe_limit out old.half) r)) o) (sym all.2) all.1

-- a flight of this response
record IsResponseFlight (k : ℕ) (r : Response) (y : Flying) : Type 0 where
  plain : y.plain ≡ response_bytes r
  stream : y.frame.message.header.stream_id ≡ k
  type_ : y.frame.message.header.type_ ≡ MESSAGE_TYPE_RESPONSE
  short : length (response_bytes r) ≤ MESSAGE_LENGTH_MAX

sends_last : {O : Type 0} (out : OutboundTransform O) (old : Outbox O) (rs : Rules) (k : ℕ) (r : Response) (sent : List Sent) (new : Outbox O) → k ≤ last_id → Responds rs (safe_limit out old.half) k r sent → SendsAll out old sent new
    → SendsFlight out old (IsResponseFlight k (fitted rs (safe_limit out old.half) r)) new
sends_last out old rs k r sent new within p q =
    let last = fitted rs (safe_limit out old.half) r in
    let g = p.is_frame in
    sends_flight out old p.frame (response_bytes last) new (IsResponseFlight k last) (one_of out old rs k r sent new p q) (omega (arith, g.stream_id, within)) (omega (arith, g.type_)) (omega (arith, g.flags)) (λ unary. let bad : true ≡ false = sym unary ∙ g.is_unary_request in cc)
    (record { plain = refl; stream = g.stream_id; type_ = g.type_; short = omega (arith, p.fits) })

-- what it gives a call, and brings a stream
lands_as : {k : ℕ} {r : Response} {y : Flying} → IsResponse r → IsResponseFlight k r y → call_result_of y.frame.message.header (Opened y.plain) ≡ Gives (by_status r.status r)
lands_as {r = r} {y = y} is f = rw (f.plain) (response_read y.frame.message.header r is f.short f.type_).0

brings_as : {k : ℕ} {r : Response} {y : Flying} → IsResponse r → IsResponseFlight k r y → (wanted : Bool) → thing_down wanted y ≡ thing_of (closing_delivery (by_status r.status r))
brings_as {r = r} {y = y} is f wanted =
    let delivery : delivery_of wanted y.frame.message.header (Opened y.plain) ≡ closing_delivery (by_status r.status r) = rw (f.plain) ((response_read y.frame.message.header r is f.short f.type_).1 wanted) in
    ap thing_of delivery

-- where it is said what a frame gives a call, it gives that
abbrev pub GivesSo : Option (Result Response Error) → Flying → Type 0
GivesSo None y = Unit {0}
GivesSo (Some outcome) y = call_result_of y.frame.message.header (Opened y.plain) ≡ Gives outcome

-- A frame of an answer: if it is an outcome that is Ok, it is the answer; and it brings what was put in.
pub record IsAnswering (k : ℕ) (o : Origin) (done : List Act) (x : MailboxEntry) (given : Option (Result Response Error)) (y : Flying) : Type 0 where
  pub down : IsDown k true o done y
  pub goes : IsSentAs x y
  pub gives : GivesSo given y

well : (last : Response) (o : Origin) (done : List Act) → IsAnswerOf o done last → (x : Response) → by_status last.status last ≡ Ok x → (HasOkStatus last.status × (by_status last.status last ≡ Ok last)) ⊎ ((e : Error) × (by_status last.status last ≡ Err e))
    → HasOkStatus x.status × ((true ≡ true) × IsAnswer o done x)
well last o done answers x e (inl h) =
    let same_ok : Ok last ≡ Ok x = sym h.1 ∙ e in
    let same : last ≡ x = cc in
    subst (λ (z : Response). HasOkStatus z.status × ((true ≡ true) × IsAnswer o done z)) same (h.0, (refl, answers h.0))
well last o done answers x e (inr h) = let bad : Err h.0 ≡ Ok x = sym h.1 ∙ e in cc

-- it is the answer itself, or a refusal
last_follows : (r last : Response) → (last ≡ r) ⊎ IsRefusal last → (HasOkStatus last.status × (by_status last.status last ≡ Ok last)) ⊎ ((e : Error) × (by_status last.status last ≡ Err e))
    → Follows (last_thing (by_status last.status last) r ∷ []) (thing_of (closing_delivery (by_status last.status last)) ∷ [])
last_follows r last (inl same) (inl h) = subst (λ (o : Result Response Error). Follows (last_thing o r ∷ []) (thing_of (closing_delivery o) ∷ [])) (sym h.1) (ap (λ (x : Response). ThingLast x.payload ∷ []) (sym same))
last_follows r last (inr refusal) (inl h) = absurd (refusal.never_ok h.0)
last_follows r last other (inr h) = subst (λ (o : Result Response Error). Follows (last_thing o r ∷ []) (thing_of (closing_delivery o) ∷ [])) (sym h.1) (plain_status last.status last h.0 h.1)

-- A response is such a flight.
pub sends_response : {O : Type 0} (out : OutboundTransform O) (old : Outbox O) (rs : Rules) (k : ℕ) (r : Response) (sent : List Sent) (new : Outbox O) (o : Origin) (done : List Act) → k ≤ last_id → IsResponse r → IsAnswerOf o done r
    → Responds rs (safe_limit out old.half) k r sent → SendsAll out old sent new → SendsFlight out old (IsAnswering k o done (last_thing (told_by rs (safe_limit out old.half) r) r) (Some (told_by rs (safe_limit out old.half) r))) new
sends_response out old rs k r sent new o done within is answer p q =
    let limit = safe_limit out old.half in
    let last = fitted rs limit r in
    let m = fitted_is (MaySend o done) (may_refuse o done) rs limit r (omega arith) (record { is = is; answers = answer }) in
    let kept = fitted_is (λ (x : Response). (x ≡ r) ⊎ IsRefusal x) (λ x f. inr f) rs limit r (omega arith) (inl refl) in
    flight_as (IsResponseFlight k last) (IsAnswering k o done (last_thing (told_by rs limit r) r) (Some (told_by rs limit r)))
    (λ y f. record {
      down = record { stream = f.stream; outcome = by_status last.status last; lands = lands_as m.is f; answer = λ x e. well last o done m.answers x e (status_cases last.status last) };
      goes = λ wanted. subst (λ (t : MailboxEntry). Follows (last_thing (told_by rs limit r) r ∷ []) (t ∷ [])) (sym (brings_as m.is f wanted)) (last_follows r last kept (status_cases last.status last));
      gives = lands_as m.is f;
    }) (sends_last out old rs k r sent new within p q)

-- A refusal is a flight that ends no call well, and brings a stream an error.
pub record IsRefusing (k : ℕ) (outcome : Result Response Error) (y : Flying) : Type 0 where
  pub never : IsNever k y
  pub turned : IsTurned y
  pub gives : GivesSo (Some outcome) y

refusing : {k : ℕ} {y : Flying} (last : Response) → IsRefusal last → IsResponseFlight k last y → IsRefusing k (by_status last.status last) y
refusing {k} {y} last m f =
    let h : (e : Error) × (by_status last.status last ≡ Err e) = elim (status_cases last.status last) [ inl ok ↦ absurd (m.never_ok ok.0) | inr fails ↦ fails ] in
    record {
      never = record { stream = f.stream; error = h.0; lands = lands_as m.is f ∙ ap (λ (o : Result Response Error). Gives o) h.1 };
      turned = λ wanted rest way. subst (λ (t : MailboxEntry). Follows rest (t ∷ way)) (sym (brings_as m.is f wanted ∙ ap (λ (o : Result Response Error). thing_of (closing_delivery o)) h.1)) (plain_status last.status last h.0 h.1);
      gives = lands_as m.is f;
    }

pub sends_refusal : {O : Type 0} (out : OutboundTransform O) (old : Outbox O) (rs : Rules) (k : ℕ) (r : Response) (sent : List Sent) (new : Outbox O) → k ≤ last_id → IsRefusal r
    → Responds rs (safe_limit out old.half) k r sent → SendsAll out old sent new → SendsFlight out old (IsRefusing k (told_by rs (safe_limit out old.half) r)) new
sends_refusal out old rs k r sent new within is p q =
    let limit = safe_limit out old.half in
    let last = fitted rs limit r in
    flight_as (IsResponseFlight k last) (IsRefusing k (told_by rs limit r)) (λ y f. refusing last (fitted_is IsRefusal (λ x g. g) rs limit r (omega arith) is) f) (sends_last out old rs k r sent new within p q)

-- ---- frames of one id behind others

pub behind_other : (P : Flying → Type 0) (k i : ℕ) → ((y : Flying) → P y → id_of y ≡ k) → (down more : List Flying) → AllByRecursion P more → k ≢ i → parcels i (down ++ more) ≡ parcels i down
behind_other P k i own down [] are e = ap (parcels i) (append-nil down)
behind_other P k i own down (y ∷ more) are e =
    ap (parcels i) (sym (append_assoc down (y ∷ []) more)) ∙ behind_other P k i own (down ++ y ∷ []) more are.1 e ∙ pushed_other id_of i y down (λ same. e (sym (own y are.0) ∙ same))

pub behind_own : (P : Flying → Type 0) (k : ℕ) → ((y : Flying) → P y → id_of y ≡ k) → (down more : List Flying) → AllByRecursion P more → parcels k (down ++ more) ≡ parcels k down ++ more
behind_own P k own down [] are = ap (parcels k) (append-nil down) ∙ sym (append-nil (parcels k down))
behind_own P k own down (y ∷ more) are =
    ap (parcels k) (sym (append_assoc down (y ∷ []) more)) ∙ behind_own P k own (down ++ y ∷ []) more are.1
    ∙ ap (λ (xs : List Flying). xs ++ more) (pushed_own id_of k y down (own y are.0)) ∙ append_assoc (parcels k down) (y ∷ []) more
