-- The result of a hook for a connection that a server has accepted.
-- Source: the Rust crate ttrpc, the time limit of its hooks.
use Rattle.std.specs.Prelude.{◌≡◌, ◌+◌, ◌-◌, ◌^◌, ℕ, min, nat_lt, if◌then◌else◌, Result, Ok, Err}
use Rattle.std.specs.Duration.{as_nanos}
use Rattle.std.specs.declared.time.Duration.{Duration}
use Rattle.std.specs.declared.io.Error.{Error as IoError}
use Rattle.ttrpc_secure.specs.declared.hooks.hook_error.HookError.{HookError}
use Rattle.ttrpc_secure.specs.declared.hooks.hook_error.HookError.TheVariants.{Io, Timeout}

-- Returns the moment that was read, in nanoseconds, at most 2^64 - 1.
abbrev pub moment_of : Duration → ℕ
moment_of time = min (as_nanos time) (2 ^ 64 - 1)

-- Returns the result that a server uses, from a hook's result between two readings of a clock. If a reading failed, it is the error of
-- the first such reading. Else it is the hook's result if fewer than 30 seconds passed, and `Timeout` if not.
abbrev pub admitted : {T : Type 0} → Result Duration IoError → Result Duration IoError → Result T HookError → Result T HookError
admitted (Err e) ended hooked = Err (Io e)
admitted (Ok started) (Err e) hooked = Err (Io e)
admitted (Ok started) (Ok ended) hooked = if nat_lt (moment_of ended) (moment_of started + 30000000000) then hooked else Err Timeout

-- Holds if a server may get this result from a hook with these possible results, between two such readings of a clock.
abbrev pub IsAdmission : {T : Type 0} → (Result Duration IoError → Type 0) → (Result T HookError → Type 0) → Result T HookError → Type 0
IsAdmission {T} reads gives result =
    (started : Result Duration IoError) × (ended : Result Duration IoError) × (hooked : Result T HookError)
    × reads started × reads ended × gives hooked × (result ≡ admitted started ended hooked)
