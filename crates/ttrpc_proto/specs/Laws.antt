-- The two laws of each message: the fields that are written have a written form, and mean the message. The language wants the proof of
-- an impl's law in specs/.
-- Source: this project's.
use Rattle.std.specs.Prelude.{◌≡◌, ℕ, ◌<◌, ◌^◌, ◌-◌, List, [], ◌∷◌, ◌++◌, length, Option, Some, None, refl, ℤ}
use Rattle.std.specs.List.{AllByRecursion}
use Rattle.std.proofs.Common.{sym, ap, arith, ◌∙◌, append_assoc}
use Rattle.std.proofs.lemmas.List.{append-nil}
use Rattle.std.proofs.lemmas.Str.{is_utf8-from_IsUtf8}
use Rattle.ttrpc_wire.specs.Field.{Field, Fits, fields_bytes}
use Rattle.ttrpc_wire.specs.Number.{number_of, int64_of, int32_of}
use Rattle.ttrpc_wire.specs.Fold.{folded, read_from}
use Rattle.ttrpc_wire.proofs.Folds.{reads_back}
use Rattle.ttrpc_proto.specs.declared.messages.Any.{Any}
use Rattle.ttrpc_proto.specs.declared.messages.KeyValue.{KeyValue}
use Rattle.ttrpc_proto.specs.declared.messages.Request.{Request}
use Rattle.ttrpc_proto.specs.declared.messages.Response.{Response}
use Rattle.ttrpc_proto.specs.declared.messages.Status.{Status}
use Rattle.ttrpc_wire.specs.Codec.Members.{delimited_field, delimited_fields, delimited_in, last_number, last_text, number_fields, number_in, one_more, part_fields, optional_fields}
use Rattle.ttrpc_proto.specs.Messages.{IsKeyValue, empty_key_value, key_value_step, key_value_fields, IsAny, empty_any, any_step, any_fields, IsStatus, empty_status, status_step, status_fields, IsRequest, empty_request, request_step, request_head, request_tail, request_before, request_after, request_fields, IsOptional, IsResponse, empty_response, response_step, response_before, response_fields}
use Rattle.std.specs.Option.{option_map}
use Rattle.ttrpc_wire.specs.Reading.{◌>>=◌}
use Rattle.ttrpc_wire.specs.Codec.InPlace.{HasPayload, payload_head}
use Rattle.ttrpc_wire.proofs.Around.{other_field}
use Rattle.ttrpc_wire.proofs.Written.{fields_then, payload_then, length-fields_bytes-append, fit_then, fold_then, delimited_fit, fold_delimited, number_fit, fold_number, int32_back, int32_zero, int32_small, int64_back, int64_zero, int64_small, length-part_fields, parts_fit, parts_back, fold_parts, optional_fit}

-- ---- KeyValue

-- Each field that is written for a `KeyValue` has a written form, if together they have fewer than 2 ^ 64 - 1 bytes.
pub key_value_fits : (m : KeyValue) → length (fields_bytes (key_value_fields m)) < 2 ^ 64 - 1 → AllByRecursion Fits (key_value_fields m)
key_value_fits m short = fit_then (delimited_fields 1 m.key) (delimited_fields 2 m.value) short (delimited_fit 1 m.key (omega arith) (omega arith)) (delimited_fit 2 m.value (omega arith) (omega arith))

-- The fields that are written for a valid `KeyValue` mean that `KeyValue`, if together they have fewer than 2 ^ 64 - 1 bytes.
pub key_value_again : (m : KeyValue) → IsKeyValue m → length (fields_bytes (key_value_fields m)) < 2 ^ 64 - 1 → folded key_value_step empty_key_value (key_value_fields m) ≡ Some m
key_value_again m h short =
    let key = is_utf8-from_IsUtf8 m.key h.key in
    let value = is_utf8-from_IsUtf8 m.value h.value in
    let half : KeyValue = record { key = m.key; value = [] } in
    fold_then key_value_step empty_key_value half m (delimited_fields 1 m.key) (delimited_fields 2 m.value)
    (fold_delimited key_value_step empty_key_value half 1 m.key (λ e. ap (λ (w : List ℕ). record { key = w; value = [] }) (sym e)) (rw key refl))
    (fold_delimited key_value_step half m 2 m.value (λ e. ap (λ (w : List ℕ). record { key = m.key; value = w }) (sym e)) (rw value refl))

-- ---- Any

-- Each field that is written for an `Any` has a written form, if together they have fewer than 2 ^ 64 - 1 bytes.
pub any_fits : (m : Any) → length (fields_bytes (any_fields m)) < 2 ^ 64 - 1 → AllByRecursion Fits (any_fields m)
any_fits m short = fit_then (delimited_fields 1 m.type_url) (delimited_fields 2 m.value) short (delimited_fit 1 m.type_url (omega arith) (omega arith)) (delimited_fit 2 m.value (omega arith) (omega arith))

-- The fields that are written for a valid `Any` mean that `Any`, if together they have fewer than 2 ^ 64 - 1 bytes.
pub any_again : (m : Any) → IsAny m → length (fields_bytes (any_fields m)) < 2 ^ 64 - 1 → folded any_step empty_any (any_fields m) ≡ Some m
any_again m h short =
    let type_url = is_utf8-from_IsUtf8 m.type_url h.type_url in
    let half : Any = record { type_url = m.type_url; value = [] } in
    fold_then any_step empty_any half m (delimited_fields 1 m.type_url) (delimited_fields 2 m.value)
    (fold_delimited any_step empty_any half 1 m.type_url (λ e. ap (λ (w : List ℕ). record { type_url = w; value = [] }) (sym e)) (rw type_url refl))
    (fold_delimited any_step half m 2 m.value (λ e. ap (λ (w : List ℕ). record { type_url = m.type_url; value = w }) (sym e)) refl)

-- ---- Status

status_details : (m : Status) (xs : List Any) → AllByRecursion (λ x. read_from any_step empty_any (fields_bytes (any_fields x)) ≡ Some x) xs
    → AllByRecursion (λ x. (old : List Any) → status_step (record m { details = old }) (delimited_field 3 (fields_bytes (any_fields x))) ≡ Some (record m { details = old ++ x ∷ [] })) xs
status_details m [] all = tt
status_details m (x ∷ xs) all = ((λ old. let e = all.0 in rw e refl), status_details m xs all.1)

-- Each field that is written for a valid status has a written form, if together they have fewer than 2 ^ 64 - 1 bytes.
pub status_fits : (m : Status) → IsStatus m → length (fields_bytes (status_fields m)) < 2 ^ 64 - 1 → AllByRecursion Fits (status_fields m)
status_fits m h short =
    fit_then (number_fields 1 (number_of m.code)) (delimited_fields 2 m.message ++ part_fields 3 any_fields m.details) short
    (λ _. number_fit 1 (number_of m.code) (omega arith) (omega arith) (int32_small m.code h.code))
    (λ rest. fit_then (delimited_fields 2 m.message) (part_fields 3 any_fields m.details) rest (delimited_fit 2 m.message (omega arith) (omega arith)) (parts_fit 3 any_fields m.details (omega arith) (omega arith)))

-- The fields that are written for a valid status mean that status, if together they have fewer than 2 ^ 64 - 1 bytes.
pub status_again : (m : Status) → IsStatus m → length (fields_bytes (status_fields m)) < 2 ^ 64 - 1 → folded status_step empty_status (status_fields m) ≡ Some m
status_again m h short =
    let message = is_utf8-from_IsUtf8 m.message h.message in
    let a : Status = record { code = m.code; message = []; details = [] } in
    let b : Status = record { code = m.code; message = m.message; details = [] } in
    let l1 = length-fields_bytes-append (number_fields 1 (number_of m.code)) (delimited_fields 2 m.message ++ part_fields 3 any_fields m.details) in
    let l2 = length-fields_bytes-append (delimited_fields 2 m.message) (part_fields 3 any_fields m.details) in
    let parts : length (fields_bytes (part_fields 3 any_fields m.details)) < 2 ^ 64 - 1 = omega arith in
    let back : int32_of (number_of m.code) ≡ m.code = int32_back m.code h.code in
    fold_then status_step empty_status a m (number_fields 1 (number_of m.code)) (delimited_fields 2 m.message ++ part_fields 3 any_fields m.details)
    (fold_number status_step empty_status a 1 (number_of m.code) (λ e. ap (λ (z : ℤ). record { code = z; message = []; details = [] }) (int32_zero m.code h.code e)) (ap (λ (z : ℤ). Some (record { code = z; message = []; details = [] })) back))
    (fold_then status_step a b m (delimited_fields 2 m.message) (part_fields 3 any_fields m.details)
    (fold_delimited status_step a b 2 m.message (λ e. ap (λ (w : List ℕ). record { code = m.code; message = w; details = [] }) (sym e)) (rw message refl))
    (fold_parts status_step (λ w. record m { details = w }) 3 any_fields [] m.details (status_details m m.details (parts_back any_step empty_any IsAny 3 any_fields m.details any_again (λ x _. any_fits x) h.details parts))))

-- ---- Request

request_metadata : (m : Request) (xs : List KeyValue) → AllByRecursion (λ x. read_from key_value_step empty_key_value (fields_bytes (key_value_fields x)) ≡ Some x) xs
    → AllByRecursion (λ x. (old : List KeyValue) → request_step (record m { metadata = old }) (delimited_field 5 (fields_bytes (key_value_fields x))) ≡ Some (record m { metadata = old ++ x ∷ [] })) xs
request_metadata m [] all = tt
request_metadata m (x ∷ xs) all = ((λ old. let e = all.0 in rw e refl), request_metadata m xs all.1)

abbrev request_names : Request → List Field
request_names m = delimited_fields 2 m.method ++ delimited_fields 3 m.payload

-- Each field that is written for a valid request has a written form, if together they have fewer than 2 ^ 64 - 1 bytes.
pub request_fits : (m : Request) → IsRequest m → length (fields_bytes (request_fields m)) < 2 ^ 64 - 1 → AllByRecursion Fits (request_fields m)
request_fits m h short =
    fit_then (request_head m) (request_tail m) short
    (λ head. fit_then (delimited_fields 1 m.service) (request_names m) head (delimited_fit 1 m.service (omega arith) (omega arith))
    (λ names. fit_then (delimited_fields 2 m.method) (delimited_fields 3 m.payload) names (delimited_fit 2 m.method (omega arith) (omega arith)) (delimited_fit 3 m.payload (omega arith) (omega arith))))
    (λ tail. fit_then (number_fields 4 (number_of m.timeout_nano)) (part_fields 5 key_value_fields m.metadata) tail
    (λ _. number_fit 4 (number_of m.timeout_nano) (omega arith) (omega arith) (int64_small m.timeout_nano h.timeout_nano))
    (parts_fit 5 key_value_fields m.metadata (omega arith) (omega arith)))

-- The fields that are written for a valid request mean that request, if together they have fewer than 2 ^ 64 - 1 bytes.
pub request_again : (m : Request) → IsRequest m → length (fields_bytes (request_fields m)) < 2 ^ 64 - 1 → folded request_step empty_request (request_fields m) ≡ Some m
request_again m h short =
    let service = is_utf8-from_IsUtf8 m.service h.service in
    let method = is_utf8-from_IsUtf8 m.method h.method in
    let a : Request = record empty_request { service = m.service } in
    let b : Request = record a { method = m.method } in
    let c : Request = record b { payload = m.payload } in
    let d : Request = record c { timeout_nano = m.timeout_nano } in
    let l1 = length-fields_bytes-append (request_head m) (request_tail m) in
    let l2 = length-fields_bytes-append (number_fields 4 (number_of m.timeout_nano)) (part_fields 5 key_value_fields m.metadata) in
    let parts : length (fields_bytes (part_fields 5 key_value_fields m.metadata)) < 2 ^ 64 - 1 = omega arith in
    let back : int64_of (number_of m.timeout_nano) ≡ m.timeout_nano = int64_back m.timeout_nano h.timeout_nano in
    fold_then request_step empty_request c m (request_head m) (request_tail m)
    (fold_then request_step empty_request a c (delimited_fields 1 m.service) (request_names m)
    (fold_delimited request_step empty_request a 1 m.service (λ e. ap (λ (w : List ℕ). record empty_request { service = w }) (sym e)) (rw service refl))
    (fold_then request_step a b c (delimited_fields 2 m.method) (delimited_fields 3 m.payload)
    (fold_delimited request_step a b 2 m.method (λ e. ap (λ (w : List ℕ). record a { method = w }) (sym e)) (rw method refl))
    (fold_delimited request_step b c 3 m.payload (λ e. ap (λ (w : List ℕ). record b { payload = w }) (sym e)) refl)))
    (fold_then request_step c d m (number_fields 4 (number_of m.timeout_nano)) (part_fields 5 key_value_fields m.metadata)
    (fold_number request_step c d 4 (number_of m.timeout_nano) (λ e. ap (λ (z : ℤ). record c { timeout_nano = z }) (int64_zero m.timeout_nano h.timeout_nano e)) (ap (λ (z : ℤ). Some (record c { timeout_nano = z })) back))
    (fold_parts request_step (λ w. record m { metadata = w }) 5 key_value_fields [] m.metadata (request_metadata m m.metadata (parts_back key_value_step empty_key_value IsKeyValue 5 key_value_fields m.metadata key_value_again (λ x _. key_value_fits x) h.metadata parts))))

-- ---- Response

response_status : (o : Option Status) → IsOptional IsStatus o → length (fields_bytes (optional_fields 1 status_fields o)) < 2 ^ 64 - 1
    → folded response_step empty_response (optional_fields 1 status_fields o) ≡ Some (record { status = o; payload = [] })
response_status None h short = refl
response_status (Some m) h short =
    let one : length (fields_bytes (status_fields m)) < 2 ^ 64 - 1 = omega (arith, length-part_fields 1 status_fields m []) in
    let back : read_from status_step empty_status (fields_bytes (status_fields m)) ≡ Some m = reads_back status_step empty_status m (status_fields m) (status_fits m h one) (status_again m h one) in
    rw back refl

-- Each field that is written for a valid response has a written form, if together they have fewer than 2 ^ 64 - 1 bytes.
pub response_fits : (m : Response) → IsResponse m → length (fields_bytes (response_fields m)) < 2 ^ 64 - 1 → AllByRecursion Fits (response_fields m)
response_fits m h short = fit_then (optional_fields 1 status_fields m.status) (delimited_fields 2 m.payload) short (optional_fit 1 status_fields m.status (omega arith) (omega arith)) (delimited_fit 2 m.payload (omega arith) (omega arith))

-- The fields that are written for a valid response mean that response, if together they have fewer than 2 ^ 64 - 1 bytes.
pub response_again : (m : Response) → IsResponse m → length (fields_bytes (response_fields m)) < 2 ^ 64 - 1 → folded response_step empty_response (response_fields m) ≡ Some m
response_again m h short =
    let a : Response = record { status = m.status; payload = [] } in
    let l = length-fields_bytes-append (optional_fields 1 status_fields m.status) (delimited_fields 2 m.payload) in
    fold_then response_step empty_response a m (optional_fields 1 status_fields m.status) (delimited_fields 2 m.payload)
    (response_status m.status h.status (omega arith))
    (fold_delimited response_step a m 2 m.payload (λ e. ap (λ (w : List ℕ). record { status = m.status; payload = w }) (sym e)) refl)

-- ---- the payload of a request and of a response

request_around : (m : Request) (p : List ℕ) (a b : Option (List ℕ)) (d : Option ℤ) (e : Option (List KeyValue))
    → (a >>= λ service. b >>= λ method. d >>= λ timeout_nano. e >>= λ metadata.
    Some (record { service = service; method = method; payload = p; timeout_nano = timeout_nano; metadata = metadata }))
    ≡ option_map (λ (n : Request). record n { payload = p }) (a >>= λ service. b >>= λ method. d >>= λ timeout_nano. e >>= λ metadata.
    Some (record { service = service; method = method; payload = m.payload; timeout_nano = timeout_nano; metadata = metadata }))
request_around m p None b d e = refl
request_around m p (Some a) None d e = refl
request_around m p (Some a) (Some b) None e = refl
request_around m p (Some a) (Some b) (Some d) None = refl
request_around m p (Some a) (Some b) (Some d) (Some e) = refl

-- The payload of a request is its field 3: such a field replaces the payload, and no other field reads or changes it.
pub request_carries : HasPayload request_step empty_request 3 (λ m p. record m { payload = p })
request_carries = record {
  first = refl;
  twice = λ m p q. refl;
  takes = λ m p. refl;
  keeps = λ m p f other. rw (other_field 3 p f other, other_field 3 m.payload f other)
      (request_around m p (delimited_in 1 last_text m.service f) (delimited_in 2 last_text m.method f) (number_in 4 (last_number int64_of) m.timeout_nano f)
      (delimited_in 5 (one_more key_value_step empty_key_value) m.metadata f));
}

response_around : (m : Response) (p : List ℕ) (a : Option (Option Status))
    → (a >>= λ status. Some (record { status = status; payload = p }))
    ≡ option_map (λ (n : Response). record n { payload = p }) (a >>= λ status. Some (record { status = status; payload = m.payload }))
response_around m p None = refl
response_around m p (Some a) = refl

-- The payload of a response is its field 2: such a field replaces the payload, and no other field reads or changes it.
pub response_carries : HasPayload response_step empty_response 2 (λ m p. record m { payload = p })
response_carries = record {
  first = refl;
  twice = λ m p q. refl;
  takes = λ m p. refl;
  keeps = λ m p f other. rw (other_field 2 p f other, other_field 2 m.payload f other) (response_around m p _);
}

-- ---- the written form of a request and of a response, in three parts

-- The written form of a request is the bytes before its payload, the payload, and the bytes after it.
pub request_parts : (m : Request) → fields_bytes (request_fields m) ≡ request_before m ++ (m.payload ++ request_after m)
request_parts m =
    let one = delimited_fields 1 m.service in
    let two = delimited_fields 2 m.method in
    let three = delimited_fields 3 m.payload in
    fields_then (request_head m) (request_tail m)
    ∙ ap (λ l. l ++ request_after m) (ap fields_bytes (sym (append_assoc one two three)) ∙ fields_then (one ++ two) three ∙ ap (λ l. fields_bytes (one ++ two) ++ l) (payload_then 3 m.payload) ∙ sym (append_assoc (fields_bytes (one ++ two)) (payload_head 3 m.payload) m.payload))
    ∙ append_assoc (request_before m) m.payload (request_after m)

-- The written form of a response is the bytes before its payload, and the payload.
pub response_parts : (m : Response) → fields_bytes (response_fields m) ≡ response_before m ++ (m.payload ++ [])
response_parts m =
    let status = optional_fields 1 status_fields m.status in
    fields_then status (delimited_fields 2 m.payload)
    ∙ ap (λ l. fields_bytes status ++ l) (payload_then 2 m.payload)
    ∙ sym (append_assoc (fields_bytes status) (payload_head 2 m.payload) m.payload)
    ∙ ap (λ l. response_before m ++ l) (sym (append-nil m.payload))
