-- What is sent reads back, what a core makes of it then, and the flights that it is sent as.
use Rattle.std.proofs.lemmas.Bool.{lt-ltb}
use Rattle.ttrpc_pair.specs.Types.{IsAbove}
use Rattle.ttrpc_world.proofs.Words.{[], Absent, Act, and_parts, arith, request_kind_row, AskedCall, Asks, AsyncRules, Bool, Busy, by_status, case_of, case_row, Chat, closing_delivery, codes, data_case, data_delivery, decimal, empty_request, empty_response, Err, even_id_text, EvenId, false, fit_to_message, fitted, Full, Gives, has_method, has_service, has_stream, HasOkStatus, if◌then◌else◌, Ignore, inactive_text, StreamIdState, INVALID_ARGUMENT, IsAnswer, IsAscii, IsAscii-decimal, IsRequest, IsResponse, IsUtf8, IsUtf8-append, IsUtf8-from_ascii, call_result_of, le-ltb, length, limit_text, List, ltb-true, MakeJob, MakeStream, malformed_text, MESSAGE_LENGTH_MAX, MESSAGE_TYPE_DATA, MESSAGE_TYPE_REQUEST, MESSAGE_TYPE_RESPONSE, MessageHeader, method_text, nat_eq, nat_lt, delivery_of, NoMethod, NoService, Opened, Origin, other_of, Others, oversize_text, path_text, PutIn, reads_back, refl, Request, request_again, request_bytes, request_fields, request_fits, request_row, request_step, Response, response_again, response_bytes, response_fields, response_fits, response_size, response_step, Row, Rules, rules, SendResponse, service_text, Services, Some, status_response, subst, suc, sym, SyncRules, Taking, timeout_response, true, UNIMPLEMENTED, UNKNOWN, zero, ℕ, ◌%◌, ◌&&◌, ◌++◌, ◌-◌, ◌<◌, ◌^◌, ◌∙◌, ◌∷◌, ◌≡◌, ◌≤◌, None, Option, newer_case, newest_after, Case, inl, inr, ap, ◌⊎◌}

-- ---- texts

-- whether all bytes are below 128
abbrev is_plain : List ℕ → Bool
is_plain [] = true
is_plain (b ∷ bs) = nat_lt b 128 && is_plain bs

plain_is_ascii : (bs : List ℕ) → is_plain bs ≡ true → IsAscii bs
plain_is_ascii [] is i = omega arith
plain_is_ascii (b ∷ bs) is zero = ltb-true b 128 (and_parts (nat_lt b 128) (is_plain bs) is).0
plain_is_ascii (b ∷ bs) is (suc i) = plain_is_ascii bs (and_parts (nat_lt b 128) (is_plain bs) is).1 i

plain_text : (bs : List ℕ) → is_plain bs ≡ true → IsUtf8 bs
plain_text bs is = IsUtf8-from_ascii bs (plain_is_ascii bs is)

path_is_utf8 : (r : Request) → IsRequest r → IsUtf8 (path_text r.service r.method)
path_is_utf8 r is =
    let slash : IsUtf8 (codes "/") = plain_text (codes "/") refl in
    IsUtf8-append (codes "/" ++ r.service ++ codes "/" ++ r.method) (codes " does not exist")
    (IsUtf8-append (codes "/" ++ r.service ++ codes "/") r.method (IsUtf8-append (codes "/" ++ r.service) (codes "/") (IsUtf8-append (codes "/") r.service slash is.service) slash) is.method)
    (plain_text (codes " does not exist") refl)

limit_is_utf8 : (n limit : ℕ) → n < 2 ^ 64 → limit < 2 ^ 64 → IsUtf8 (limit_text n limit)
limit_is_utf8 n limit small low =
    IsUtf8-append (codes "response payload " ++ decimal n ++ codes " bytes exceeds safe limit " ++ decimal limit) (codes " bytes (after transform overhead)")
    (IsUtf8-append (codes "response payload " ++ decimal n ++ codes " bytes exceeds safe limit ") (decimal limit)
    (IsUtf8-append (codes "response payload " ++ decimal n) (codes " bytes exceeds safe limit ")
    (IsUtf8-append (codes "response payload ") (decimal n) (plain_text (codes "response payload ") refl) (IsUtf8-from_ascii (decimal n) (IsAscii-decimal n small)))
    (plain_text (codes " bytes exceeds safe limit ") refl))
    (IsUtf8-from_ascii (decimal limit) (IsAscii-decimal limit low)))
    (plain_text (codes " bytes (after transform overhead)") refl)

oversize_is_utf8 : (n : ℕ) → n < 2 ^ 64 → IsUtf8 (oversize_text n)
oversize_is_utf8 n small =
    IsUtf8-append (codes "message length " ++ decimal n) (codes " exceed maximum message size of 4194304")
    (IsUtf8-append (codes "message length ") (decimal n) (plain_text (codes "message length ") refl) (IsUtf8-from_ascii (decimal n) (IsAscii-decimal n small)))
    (plain_text (codes " exceed maximum message size of 4194304") refl)

-- ---- responses that the core makes itself

-- a response that ends no call well
pub record IsRefusal (r : Response) : Type 0 where
  pub is : IsResponse r
  pub never_ok : HasOkStatus r.status → ⊥

refused : (text : List ℕ) → IsUtf8 text → IsRefusal (status_response INVALID_ARGUMENT text)
refused text is = record { is = record { status = record { code = search rules; message = is; details = tt } }; never_ok = λ h. cc }

pub too_late : IsRefusal timeout_response
too_late = record { is = record { status = record { code = search rules; message = plain_text (codes "timeout") refl; details = tt } }; never_ok = λ h. cc }

-- a status of code UNKNOWN
pub unknown_never : (text : List ℕ) → HasOkStatus (status_response UNKNOWN text).status → ⊥
unknown_never text h = cc

method_refusal : (r : Request) → IsRequest r → IsRefusal (status_response UNIMPLEMENTED (method_text r.method))
method_refusal r is =
    let text = IsUtf8-append r.method (codes " method") is.method (plain_text (codes " method") refl) in
    record { is = record { status = record { code = search rules; message = text; details = tt } }; never_ok = λ h. cc }

even_refusal : IsRefusal (status_response INVALID_ARGUMENT even_id_text)
even_refusal = refused even_id_text (plain_text even_id_text refl)

inactive_refusal : IsRefusal (status_response INVALID_ARGUMENT inactive_text)
inactive_refusal = refused inactive_text (plain_text inactive_text refl)

-- ---- what the server makes of what comes

-- A request is a job of its kind, or is refused, which it isn't under an odd id if it names a method. A stream's job has an
-- odd id.
abbrev pub IsAskRow : (method : Bool) → ℕ → Rules → Request → Row → Type 0
IsAskRow method k r q (MakeJob request) = request ≡ q
IsAskRow method k r q (MakeStream request) = (request ≡ q) × (r ≡ AsyncRules) × (nat_eq (k % 2) 0 ≡ false) × (method ≡ false)
IsAskRow method k r q (SendResponse response) = IsRefusal response × (nat_eq (k % 2) 0 ≡ false → method ≡ false)
IsAskRow method k r q row = ⊥

-- nobody takes data: under async rules and an odd id somebody would
abbrev pub IsUntaken : ℕ → Rules → StreamIdState → Type 0
IsUntaken k r id_state = r ≡ AsyncRules → nat_eq (k % 2) 0 ≡ false → id_state ≡ Taking → ⊥

-- Data are put in, refused, or passed over.
abbrev pub IsItemRow : ℕ → Rules → StreamIdState → List ℕ → Row → Type 0
IsItemRow k r id_state plain (PutIn payload) = payload ≡ plain
IsItemRow k r id_state plain (SendResponse response) = IsRefusal response × IsUntaken k r id_state
IsItemRow k r id_state plain Ignore = IsUntaken k r id_state
IsItemRow k r id_state plain row = ⊥

other_asked : (method : Bool) → method ≡ false → (k : ℕ) → nat_eq (k % 2) 0 ≡ false → (q : Request) → IsRequest q → (chat service : Bool) → IsAskRow method k AsyncRules q (request_kind_row q (if chat then Chat else if service then NoMethod else NoService))
other_asked method none k odd q is true service = (refl, refl, odd, none)
other_asked method none k odd q is false true = (method_refusal q is, λ o. none)
other_asked method none k odd q is false false = (refused (service_text q.service) (IsUtf8-append q.service (codes " service does not exist") is.service (plain_text (codes " service does not exist") refl)), λ o. none)

other_is : (method : Bool) → method ≡ false → (k : ℕ) (r : Rules) → (r ≡ AsyncRules → nat_eq (k % 2) 0 ≡ false) → (services : Services) (q : Request) → IsRequest q → IsAskRow method k r q (request_kind_row q (other_of r services q))
other_is method none k SyncRules odd services q is = (refused (path_text q.service q.method) (path_is_utf8 q is), λ o. none)
other_is method none k AsyncRules odd services q is = other_asked method none k (odd refl) q is (has_stream services q.service q.method) (has_service services q.service)

-- such a row of a request to a server with these services
abbrev pub IsRowOf : Services → ℕ → Rules → Request → Row → Type 0
IsRowOf services k r q row = IsAskRow (has_method services q.service q.method) k r q row

asked_is : (k : ℕ) (r : Rules) → (r ≡ AsyncRules → nat_eq (k % 2) 0 ≡ false) → (services : Services) (q : Request) → IsRequest q → IsRowOf services k r q (request_row r services (Some q))
asked_is k r odd services q is = by (has_method services q.service q.method) refl
  where
    by : (b : Bool) → has_method services q.service q.method ≡ b → IsRowOf services k r q (request_kind_row q (if b then AskedCall else other_of r services q))
    by true e = refl
    by false e = other_is (has_method services q.service q.method) e k r odd services q is

-- a request that is opened as it was sent reads back
read_is : (r : Rules) (services : Services) (h : MessageHeader) (q : Request) → IsRequest q → length (request_bytes q) ≤ MESSAGE_LENGTH_MAX → case_row r services h (Asks (request_bytes q)) ≡ request_row r services (Some q)
read_is r services h q is short =
    let fits : length (request_bytes q) < 2 ^ 64 - 1 = omega (arith, short) in
    rw (reads_back request_step empty_request q (request_fields q) (request_fits q is fits) (request_again q is fits)) refl

pub seen_up : (newest : Option ℕ) (low low2 : ℕ) → low ≤ low2 → IsAbove low newest → IsAbove low2 newest
seen_up None low low2 le below = tt
seen_up (Some newest) low low2 le below = omega (arith, le, below)

-- a request above the newest one is read
newer_is : (k : ℕ) (newest : Option ℕ) (plain : List ℕ) → IsAbove k newest → newer_case k newest plain ≡ Asks plain
newer_is k None plain below = refl
newer_is k (Some newest) plain below = rw (lt-ltb newest k below) refl

even_or_asked : (services : Services) (h : MessageHeader) (q : Request) (newest : Option ℕ) → IsRequest q → length (request_bytes q) ≤ MESSAGE_LENGTH_MAX → IsAbove h.stream_id newest → (even : Bool) → nat_eq (h.stream_id % 2) 0 ≡ even
    → IsRowOf services h.stream_id AsyncRules q (case_row AsyncRules services h (if even then EvenId else newer_case h.stream_id newest (request_bytes q)))
even_or_asked services h q newest is short below true e = (even_refusal, λ odd. let bad : true ≡ false = sym e ∙ odd in cc)
even_or_asked services h q newest is short below false e =
    subst (IsRowOf services h.stream_id AsyncRules q) (sym (ap (case_row AsyncRules services h) (newer_is h.stream_id newest (request_bytes q) below) ∙ read_is AsyncRules services h q is short)) (asked_is h.stream_id AsyncRules (λ a. e) services q is)

pub ask_row : (r : Rules) (services : Services) (h : MessageHeader) (q : Request) (newest : Option ℕ) → IsRequest q → length (request_bytes q) ≤ MESSAGE_LENGTH_MAX → IsAbove h.stream_id newest → h.type_ ≡ MESSAGE_TYPE_REQUEST
    → IsRowOf services h.stream_id r q (case_row r services h (case_of r h (Opened (request_bytes q)) newest Absent))
ask_row SyncRules services h q newest is short below type_ =
    let within : nat_lt MESSAGE_LENGTH_MAX (length (request_bytes q)) ≡ false = le-ltb _ _ short in
    rw (within, type_) (subst (IsRowOf services h.stream_id SyncRules q) (sym (read_is SyncRules services h q is short)) (asked_is h.stream_id SyncRules (λ a. let bad : SyncRules ≡ AsyncRules = a in cc) services q is))
ask_row AsyncRules services h q newest is short below type_ =
    let within : nat_lt MESSAGE_LENGTH_MAX (length (request_bytes q)) ≡ false = le-ltb _ _ short in
    rw (within, type_) (even_or_asked services h q newest is short below (nat_eq (h.stream_id % 2) 0) refl)

even_or_item : (services : Services) (h : MessageHeader) (plain : List ℕ) (id_state : StreamIdState) (even : Bool) → nat_eq (h.stream_id % 2) 0 ≡ even
    → IsItemRow h.stream_id AsyncRules id_state plain (case_row AsyncRules services h (if even then EvenId else data_case plain id_state))
even_or_item services h plain id_state true e = (even_refusal, λ a odd t. let bad : true ≡ false = sym e ∙ odd in cc)
even_or_item services h plain Absent false e = (inactive_refusal, λ a odd t. cc)
even_or_item services h plain Busy false e = (inactive_refusal, λ a odd t. cc)
even_or_item services h plain Taking false e = refl
even_or_item services h plain Full false e = λ a odd t. cc

pub item_row : (r : Rules) (services : Services) (h : MessageHeader) (plain : List ℕ) (newest : Option ℕ) (id_state : StreamIdState) → length plain ≤ MESSAGE_LENGTH_MAX → h.type_ ≡ MESSAGE_TYPE_DATA
    → IsItemRow h.stream_id r id_state plain (case_row r services h (case_of r h (Opened plain) newest id_state))
item_row SyncRules services h plain newest id_state short type_ =
    let within : nat_lt MESSAGE_LENGTH_MAX (length plain) ≡ false = le-ltb _ _ short in
    rw (within, type_) (λ a odd t. let bad : SyncRules ≡ AsyncRules = a in cc)
item_row AsyncRules services h plain newest id_state short type_ =
    let within : nat_lt MESSAGE_LENGTH_MAX (length plain) ≡ false = le-ltb _ _ short in
    rw (within, type_) (even_or_item services h plain id_state (nat_eq (h.stream_id % 2) 0) refl)

-- and leave the newest request
pub data_leave : (r : Rules) (h : MessageHeader) (plain : List ℕ) (newest : Option ℕ) (id_state : StreamIdState) → length plain ≤ MESSAGE_LENGTH_MAX → h.type_ ≡ MESSAGE_TYPE_DATA
    → newest_after r h.stream_id (case_of r h (Opened plain) newest id_state) newest ≡ newest
data_leave SyncRules h plain newest id_state short type_ = refl
data_leave AsyncRules h plain newest id_state short type_ =
    let within : nat_lt MESSAGE_LENGTH_MAX (length plain) ≡ false = le-ltb _ _ short in
    rw (within, type_) (by (nat_eq (h.stream_id % 2) 0) id_state)
  where
    by : (even : Bool) (id_state : StreamIdState) → newest_after AsyncRules h.stream_id (if even then EvenId else data_case plain id_state) newest ≡ newest
    by true id_state = refl
    by false Absent = refl
    by false Busy = refl
    by false Taking = refl
    by false Full = refl

-- a request may be the newest then
pub request_moves : (r : Rules) (k : ℕ) (case : Case) (newest : Option ℕ) → (newest_after r k case newest ≡ newest) ⊎ (newest_after r k case newest ≡ Some k)
request_moves SyncRules k case newest = inl refl
request_moves AsyncRules k (Asks plain) newest = inr refl
request_moves AsyncRules k case newest = inl refl

-- ---- what the client makes of what comes

-- Of a response it makes its outcome, and brings a stream what closes it.
pub response_read : (h : MessageHeader) (r : Response) → IsResponse r → length (response_bytes r) ≤ MESSAGE_LENGTH_MAX → h.type_ ≡ MESSAGE_TYPE_RESPONSE
    → (call_result_of h (Opened (response_bytes r)) ≡ Gives (by_status r.status r)) × ((wanted : Bool) → delivery_of wanted h (Opened (response_bytes r)) ≡ closing_delivery (by_status r.status r))
response_read h r is short type_ =
    let within : nat_lt MESSAGE_LENGTH_MAX (length (response_bytes r)) ≡ false = le-ltb _ _ short in
    let fits : length (response_bytes r) < 2 ^ 64 - 1 = omega (arith, short) in
    let again = reads_back response_step empty_response r (response_fields r) (response_fits r is fits) (response_again r is fits) in
    (rw (within, type_, again) refl, λ wanted. rw (within, type_, again) refl)

-- Of data it makes an error, and brings a stream them.
pub data_read : (h : MessageHeader) (plain : List ℕ) → length plain ≤ MESSAGE_LENGTH_MAX → h.type_ ≡ MESSAGE_TYPE_DATA
    → (call_result_of h (Opened plain) ≡ Gives (Err (Others (malformed_text h)))) × ((wanted : Bool) → delivery_of wanted h (Opened plain) ≡ data_delivery wanted h plain)
data_read h plain short type_ =
    let within : nat_lt MESSAGE_LENGTH_MAX (length plain) ≡ false = le-ltb _ _ short in
    let other : nat_eq h.type_ MESSAGE_TYPE_RESPONSE ≡ false = rw type_ refl in
    (rw (within, other) refl, λ wanted. rw (within, type_) refl)

-- if it is an outcome that is Ok, it is the answer of the one run
abbrev pub IsAnswerOf : Origin → List Act → Response → Type 0
IsAnswerOf o done r = HasOkStatus r.status → IsAnswer o done r

-- a response that may be sent for it
pub record MaySend (o : Origin) (done : List Act) (r : Response) : Type 0 where
  pub is : IsResponse r
  pub answers : IsAnswerOf o done r

pub may_refuse : (o : Origin) (done : List Act) (r : Response) → IsRefusal r → MaySend o done r
may_refuse o done r f = record { is = f.is; answers = λ ok. absurd (f.never_ok ok) }

-- What a response is sent as is the response, or a refusal: what holds of both holds of it.
module _ (P : Response → Type 0) (refusals : (r : Response) → IsRefusal r → P r) where
  limited : (b : Bool) (limit : ℕ) (r : Response) → limit ≤ MESSAGE_LENGTH_MAX → P r → P (if b then status_response INVALID_ARGUMENT (limit_text (response_size r) limit) else r)
  limited true limit r low is = refusals _ (refused (limit_text (response_size r) limit) (limit_is_utf8 (response_size r) limit (omega arith) (omega (arith, low))))
  limited false limit r low is = is

  shortened : (b : Bool) (r : Response) → P r → P (if b then status_response INVALID_ARGUMENT (oversize_text (response_size r)) else r)
  shortened true r is = refusals _ (refused (oversize_text (response_size r)) (oversize_is_utf8 (response_size r) (omega arith)))
  shortened false r is = is

  whole_message : (rs : Rules) (r : Response) → P r → P (fit_to_message rs r)
  whole_message SyncRules r is = is
  whole_message AsyncRules r is = shortened (nat_lt MESSAGE_LENGTH_MAX (response_size r)) r is

  pub fitted_is : (rs : Rules) (limit : ℕ) (r : Response) → limit ≤ MESSAGE_LENGTH_MAX → P r → P (fitted rs limit r)
  fitted_is rs limit r low is = limited (nat_lt limit (response_size (fit_to_message rs r))) limit (fit_to_message rs r) low (whole_message rs r is)
