-- The five messages. Each has the message of no fields, the message after one more field, and the fields that are written, by rising
-- number.
-- Source: PROTOCOL.md of ttrpc, "RPC", and its definition of the messages.
use Rattle.std.specs.Prelude.{ℕ, zero, suc, List, [], ◌++◌, Option, Some, None, ℤ, pos, negsuc, FitsSigned, Bool, true, false, if◌then◌else◌}
use Rattle.std.specs.List.{AllByRecursion}
use Rattle.std.specs.Int.{w32, w64}
use Rattle.std.specs.Str.{IsUtf8}
use Rattle.ttrpc_wire.specs.Field.{Field, fields_bytes}
use Rattle.ttrpc_wire.specs.Number.{number_of, int64_of, int32_of}
use Rattle.ttrpc_wire.specs.Reading.{◌>>=◌}
use Rattle.ttrpc_proto.specs.declared.messages.Any.{Any}
use Rattle.ttrpc_proto.specs.declared.messages.KeyValue.{KeyValue}
use Rattle.ttrpc_proto.specs.declared.messages.Status.{Status}
use Rattle.ttrpc_proto.specs.declared.messages.Request.{Request}
use Rattle.ttrpc_proto.specs.declared.messages.Response.{Response}
use Rattle.ttrpc_wire.specs.Codec.InPlace.{payload_head}
use Rattle.ttrpc_wire.specs.Codec.Members.{delimited_in, number_in, last_text, last_bytes, last_number, one_more, joined, delimited_fields, number_fields, part_fields, optional_fields}

-- ---- a key and its value: 1 key, 2 value

-- The `KeyValue` of no fields.
abbrev pub empty_key_value : KeyValue
empty_key_value = record { key = []; value = [] }

-- Returns a `KeyValue` after one more field, or None if the field is refused.
abbrev pub key_value_step : KeyValue → Field → Option KeyValue
key_value_step m f =
    delimited_in 1 last_text m.key f >>= λ key.
    delimited_in 2 last_text m.value f >>= λ value.
    Some (record { key = key; value = value })

-- Returns the fields that are written for a `KeyValue`.
abbrev pub key_value_fields : KeyValue → List Field
key_value_fields m = delimited_fields 1 m.key ++ delimited_fields 2 m.value

-- Holds if a `KeyValue` is valid: its key and its value are UTF-8.
pub record IsKeyValue (m : KeyValue) : Type 0 where
  pub key : IsUtf8 m.key
  pub value : IsUtf8 m.value

-- ---- any message under its type's name: 1 type_url, 2 value

-- The `Any` of no fields.
abbrev pub empty_any : Any
empty_any = record { type_url = []; value = [] }

-- Returns an `Any` after one more field, or None if the field is refused.
abbrev pub any_step : Any → Field → Option Any
any_step m f =
    delimited_in 1 last_text m.type_url f >>= λ type_url.
    delimited_in 2 last_bytes m.value f >>= λ value.
    Some (record { type_url = type_url; value = value })

-- Returns the fields that are written for an `Any`.
abbrev pub any_fields : Any → List Field
any_fields m = delimited_fields 1 m.type_url ++ delimited_fields 2 m.value

-- Holds if an `Any` is valid: the name of its type is UTF-8.
pub record IsAny (m : Any) : Type 0 where
  pub type_url : IsUtf8 m.type_url

-- ---- how a call ended: 1 code, 2 message, 3 details

-- The status of no fields.
abbrev pub empty_status : Status
empty_status = record { code = pos 0; message = []; details = [] }

-- Returns a status after one more field, or None if the field is refused.
abbrev pub status_step : Status → Field → Option Status
status_step m f =
    number_in 1 (last_number int32_of) m.code f >>= λ code.
    delimited_in 2 last_text m.message f >>= λ message.
    delimited_in 3 (one_more any_step empty_any) m.details f >>= λ details.
    Some (record { code = code; message = message; details = details })

-- Returns the fields that are written for a status.
abbrev pub status_fields : Status → List Field
status_fields m = number_fields 1 (number_of m.code) ++ (delimited_fields 2 m.message ++ part_fields 3 any_fields m.details)

-- Holds if a status is valid: its code is a signed number of 32 bits, its message is UTF-8, and each of its details is valid.
pub record IsStatus (m : Status) : Type 0 where
  pub code : FitsSigned w32 m.code
  pub message : IsUtf8 m.message
  pub details : AllByRecursion IsAny m.details

-- ---- a request: 1 service, 2 method, 3 payload, 4 timeout_nano, 5 metadata

-- The request of no fields.
abbrev pub empty_request : Request
empty_request = record { service = []; method = []; payload = []; timeout_nano = pos 0; metadata = [] }

-- Returns a request after one more field, or None if the field is refused.
abbrev pub request_step : Request → Field → Option Request
request_step m f =
    delimited_in 1 last_text m.service f >>= λ service.
    delimited_in 2 last_text m.method f >>= λ method.
    delimited_in 3 last_bytes m.payload f >>= λ payload.
    number_in 4 (last_number int64_of) m.timeout_nano f >>= λ timeout_nano.
    delimited_in 5 (one_more key_value_step empty_key_value) m.metadata f >>= λ metadata.
    Some (record { service = service; method = method; payload = payload; timeout_nano = timeout_nano; metadata = metadata })

-- Returns the fields that are written for a request's service and method.
abbrev pub request_texts : Request → List Field
request_texts m = delimited_fields 1 m.service ++ delimited_fields 2 m.method

-- Returns the fields that are written for a request's service, method and payload.
abbrev pub request_head : Request → List Field
request_head m = delimited_fields 1 m.service ++ (delimited_fields 2 m.method ++ delimited_fields 3 m.payload)

-- Returns the fields that are written for a request's timeout and metadata.
abbrev pub request_tail : Request → List Field
request_tail m = number_fields 4 (number_of m.timeout_nano) ++ part_fields 5 key_value_fields m.metadata

-- Returns the fields that are written for a request.
abbrev pub request_fields : Request → List Field
request_fields m = request_head m ++ request_tail m

-- Returns the bytes that are written before the payload of a request.
abbrev pub request_before : Request → List ℕ
request_before m = fields_bytes (request_texts m) ++ payload_head 3 m.payload

-- Returns the bytes that are written after the payload of a request.
abbrev pub request_after : Request → List ℕ
request_after m = fields_bytes (request_tail m)

-- Holds if a request is valid: service and method are UTF-8, the timeout is a signed number of 64 bits, and each pair of the metadata
-- is valid.
pub record IsRequest (m : Request) : Type 0 where
  pub service : IsUtf8 m.service
  pub method : IsUtf8 m.method
  pub timeout_nano : FitsSigned w64 m.timeout_nano
  pub metadata : AllByRecursion IsKeyValue m.metadata

-- ---- a response: 1 status, which may be absent, 2 payload

-- The response of no fields.
abbrev pub empty_response : Response
empty_response = record { status = None; payload = [] }

-- Returns a response after one more field, or None if the field is refused.
abbrev pub response_step : Response → Field → Option Response
response_step m f =
    delimited_in 1 (joined status_step empty_status) m.status f >>= λ status.
    delimited_in 2 last_bytes m.payload f >>= λ payload.
    Some (record { status = status; payload = payload })

-- Returns the bytes that are written before the payload of a response.
abbrev pub response_before : Response → List ℕ
response_before m = fields_bytes (optional_fields 1 status_fields m.status) ++ payload_head 2 m.payload

-- Returns the fields that are written for a response.
abbrev pub response_fields : Response → List Field
response_fields m = optional_fields 1 status_fields m.status ++ delimited_fields 2 m.payload

-- Holds if a message is absent or valid.
abbrev pub IsOptional : {M : Type 0} → (M → Type 0) → Option M → Type 0
IsOptional Is None = Unit {0}
IsOptional Is (Some m) = Is m

-- Holds if a response is valid: its status is absent or valid.
pub record IsResponse (m : Response) : Type 0 where
  pub status : IsOptional IsStatus m.status

-- Returns true if the code is 0, the code of a call that succeeded.
abbrev pub is_ok_code : ℤ → Bool
is_ok_code (pos zero) = true
is_ok_code (pos (suc n)) = false
is_ok_code (negsuc n) = false

-- Returns the status, if there is one and its code isn't 0.
abbrev pub non_ok_of : Option Status → Option Status
non_ok_of None = None
non_ok_of (Some status) = if is_ok_code status.code then None else Some status
