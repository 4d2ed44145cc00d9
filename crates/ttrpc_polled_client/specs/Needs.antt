-- The sources at which a client's calls and its connection wait.
-- Source: this project's.
use Rattle.std.specs.Prelude.{◌≡◌, ℕ, Option, Some, None}
use Rattle.std.specs.Arc.{arc_value}
use Rattle.ttrpc_polled_client.specs.declared.shared.ClientShared.{ClientShared}
use Rattle.ttrpc_polled_client.specs.declared.calls.Calling.{Calling}
use Rattle.ttrpc_polled_client.specs.declared.calls.Calling.TheVariants.{Waits, Refused, Done}
use Rattle.ttrpc_polled_client.specs.declared.calls.OpeningAt.{OpeningAt}
use Rattle.ttrpc_polled_client.specs.declared.calls.OpeningAt.TheVariants as opening
use Rattle.ttrpc_polled_client.specs.declared.line.ClientLine.{ClientLine}
use Rattle.ttrpc_polled_client.specs.declared.opening.Prepared.{Prepared}

-- the source of a line's calls and streams
abbrev pub line_source : {O I : Type 0} → ClientLine O I → ℕ
line_source line = (arc_value line.shared).came.id

-- the source at which the connection's future waits for something to write
abbrev pub asked_source : {O I : Type 0} → ClientShared O I → ℕ
asked_source shared = shared.asked.id

-- a stream that is opened waits for room at the source of its line's calls
abbrev pub opening_needs : {O I : Type 0} → Option (Prepared O I) → ℕ → Type 0
opening_needs None s = ⊥
opening_needs (Some p) s = s ≡ line_source (arc_value p.sends)

-- a stream of a service waits at this source, too
abbrev pub service_opening_needs : {R O I : Type 0} → OpeningAt R O I → ℕ → Type 0
service_opening_needs (opening.Opens stream client) s = opening_needs stream.prepared s
service_opening_needs (opening.Refused e) s = ⊥
service_opening_needs opening.Done s = ⊥

-- a call of a service waits at the source of its request
abbrev pub calling_needs : {O I P : Type 0} → Calling O I P → ℕ → Type 0
calling_needs (Waits request reply) s = s ≡ line_source (arc_value request.line)
calling_needs (Refused e) s = ⊥
calling_needs Done s = ⊥
