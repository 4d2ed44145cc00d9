-- The codes of a status, which are gRPC's.
-- Source: gRPC, "Status codes and their use in gRPC".
use Rattle.std.specs.Prelude.{ℕ, ℤ, pos, negsuc, ◌==◌, if◌then◌else◌}
use Rattle.ttrpc_wire.specs.declared.values.code.Code.{Code}
use Rattle.ttrpc_wire.specs.declared.values.code.Code.TheVariants.{OK, CANCELLED, UNKNOWN, INVALID_ARGUMENT, DEADLINE_EXCEEDED, NOT_FOUND, ALREADY_EXISTS, PERMISSION_DENIED, RESOURCE_EXHAUSTED, FAILED_PRECONDITION, ABORTED, OUT_OF_RANGE, UNIMPLEMENTED, INTERNAL, UNAVAILABLE, DATA_LOSS, UNAUTHENTICATED}

-- Returns the number of a code in a status.
abbrev pub number_of_code : Code → ℤ
number_of_code OK = pos 0
number_of_code CANCELLED = pos 1
number_of_code UNKNOWN = pos 2
number_of_code INVALID_ARGUMENT = pos 3
number_of_code DEADLINE_EXCEEDED = pos 4
number_of_code NOT_FOUND = pos 5
number_of_code ALREADY_EXISTS = pos 6
number_of_code PERMISSION_DENIED = pos 7
number_of_code RESOURCE_EXHAUSTED = pos 8
number_of_code FAILED_PRECONDITION = pos 9
number_of_code ABORTED = pos 10
number_of_code OUT_OF_RANGE = pos 11
number_of_code UNIMPLEMENTED = pos 12
number_of_code INTERNAL = pos 13
number_of_code UNAVAILABLE = pos 14
number_of_code DATA_LOSS = pos 15
number_of_code UNAUTHENTICATED = pos 16

-- Returns the code of a number from 0 on, or UNKNOWN if no code has this number.
abbrev pub code_at : ℕ → Code
code_at n =
    if n == 0 then OK else (
    if n == 1 then CANCELLED else (
    if n == 2 then UNKNOWN else (
    if n == 3 then INVALID_ARGUMENT else (
    if n == 4 then DEADLINE_EXCEEDED else (
    if n == 5 then NOT_FOUND else (
    if n == 6 then ALREADY_EXISTS else (
    if n == 7 then PERMISSION_DENIED else (
    if n == 8 then RESOURCE_EXHAUSTED else (
    if n == 9 then FAILED_PRECONDITION else (
    if n == 10 then ABORTED else (
    if n == 11 then OUT_OF_RANGE else (
    if n == 12 then UNIMPLEMENTED else (
    if n == 13 then INTERNAL else (
    if n == 14 then UNAVAILABLE else (
    if n == 15 then DATA_LOSS else (
    if n == 16 then UNAUTHENTICATED else UNKNOWN))))))))))))))))

-- Returns the code of a number, or UNKNOWN if no code has this number. No code has a negative number.
abbrev pub code_of_number : ℤ → Code
code_of_number (pos n) = code_at n
code_of_number (negsuc _) = UNKNOWN
