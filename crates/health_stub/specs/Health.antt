-- The statuses of a name in a table, and the answers of the service demo.Health to a request for a status.
-- Source: this project's.
use Rattle.std.specs.Prelude.{ℕ, ◌-◌, List, [], ◌++◌, length, codes, ℤ, Option, Some, None, Result, Ok, Err, pos, slice_get, unwrap_or}
use Rattle.std.specs.BTreeMap.{get_by_text}
use Rattle.std.specs.Option.{option_map}
use Rattle.std.specs.Result.{result_ok}
use Rattle.ttrpc_wire.specs.Field.{fields_bytes}
use Rattle.ttrpc_wire.specs.Fold.{read_from}
use Rattle.ttrpc_wire.specs.declared.values.code.Code.TheVariants.{NOT_FOUND, UNKNOWN}
use Rattle.ttrpc_proto.specs.ErrorText.{status_of}
use Rattle.ttrpc_proto.specs.Messages.{empty_status}
use Rattle.ttrpc_proto.specs.declared.messages.Request.{Request}
use Rattle.ttrpc_proto.specs.declared.messages.Response.{Response}
use Rattle.ttrpc_proto.specs.declared.messages.Status.{Status}
use Rattle.health_stub.specs.declared.messages.HealthCheckRequest.{HealthCheckRequest}
use Rattle.health_stub.specs.declared.messages.HealthCheckResponse.{HealthCheckResponse}
use Rattle.health_stub.specs.declared.table.HealthTable.{HealthTable}
use Rattle.health_stub.specs.Messages.{health_check_request, health_check_response}

-- ---- a table

-- the statuses of a name, in order, if it is there
abbrev pub statuses : HealthTable → List ℕ → Option (List ℤ)
statuses table name = option_map (λ list. list.items) (get_by_text table.names name)

-- ---- the two messages, as bytes

-- the request that bytes mean, if they mean one
unfoldable pub request_in : List ℕ → Option HealthCheckRequest
request_in bytes = read_from health_check_request.part.step health_check_request.part.empty bytes

-- the response that bytes mean, if they mean one
unfoldable pub response_in : List ℕ → Option HealthCheckResponse
response_in bytes = read_from health_check_response.part.step health_check_response.part.empty bytes

-- the bytes of a response
unfoldable pub response_bytes : HealthCheckResponse → List ℕ
response_bytes response = fields_bytes (health_check_response.part.fields response)

-- ---- what is answered

-- the status that refuses a name that isn't there
abbrev pub unknown_status : List ℕ → Status
unknown_status name = status_of NOT_FOUND (codes "service " ++ name ++ codes " is unknown")

-- the status that refuses a payload that means no request
abbrev pub unreadable_status : Status
unreadable_status = status_of UNKNOWN (codes "unreadable request")

-- the response that refuses by a status
abbrev pub refusal : Status → Response
refusal status = record { status = Some status; payload = [] }

-- the response with a status of a service
abbrev pub telling : ℤ → Response
telling status = record { status = Some empty_status; payload = response_bytes (record { status = status }) }

-- ---- what a request asks for

-- the statuses of a name, or the status that refuses it
abbrev pub statuses_of : List ℕ → Option (List ℤ) → Result (List ℤ) Status
statuses_of name (Some list) = Ok list
statuses_of name None = Err (unknown_status name)

-- those of the name that is asked for, or the status that refuses bytes that mean no request
abbrev pub asked_of : HealthTable → Option HealthCheckRequest → Result (List ℤ) Status
asked_of table (Some request) = statuses_of request.service (statuses table request.service)
asked_of table None = Err unreadable_status

-- WHAT `Watch` SENDS for these bytes: each of these statuses, or it is refused by this status.
abbrev pub watch_of : HealthTable → List ℕ → Result (List ℤ) Status
watch_of table bytes = asked_of table (request_in bytes)

-- the last of some statuses; a table has at least one for each name, and without any it is 0
abbrev pub last_of : List ℤ → ℤ
last_of list = unwrap_or (slice_get list (length list - 1)) (pos 0)

-- the answer by the last of these statuses, or by the status that refuses
abbrev pub answer_by : Result (List ℤ) Status → Response
answer_by (Ok list) = telling (last_of list)
answer_by (Err status) = refusal status

-- THE RESPONSE OF `Check` to a request, by the table
abbrev pub check_of : HealthTable → Request → Response
check_of table request = answer_by (watch_of table request.payload)

-- the table's last status for the name that a request asks for
abbrev pub status_asked : HealthTable → Request → Option ℤ
status_asked table request = option_map last_of (result_ok (watch_of table request.payload))
