-- A request for a method of the server is answered by one response, even if a stream has the same name.
-- Source: this project's; that a method is answered by one response: PROTOCOL.md of ttrpc, "Request".
use Rattle.std.specs.Prelude.{◌≡◌, List, true, false, Some}
use Rattle.std.specs.List.{AllByRecursion}
use Rattle.ttrpc_server.specs.State.{Services, has_method}
use Rattle.ttrpc_world_trace.specs.declared.events.Entry.{Entry}
use Rattle.ttrpc_world_trace.specs.declared.events.Event.{Event}
use Rattle.ttrpc_world_trace.specs.declared.events.Event.TheVariants.{Take}
use Rattle.ttrpc_world_trace.specs.declared.events.Reply.{Reply}
use Rattle.ttrpc_world_trace.specs.declared.events.Reply.TheVariants.{Handed}

-- Holds if no stream's job for a method of the server was handed out at this event.
abbrev pub IsNamedAt : Services → Event → Reply → Type 0
IsNamedAt services Take (Handed (Some job)) = has_method services job.request.service job.request.method ≡ true → job.stream ≡ false
IsNamedAt services event reply = Unit {0}

-- NO JOB FOR A METHOD IS A STREAM'S. Holds if each job of the trace that was handed out for a method of the server isn't a stream's
-- job: it is answered by one response.
abbrev pub AreNamed : Services → List Entry → Type 0
AreNamed services trace = AllByRecursion (λ (e : Entry). IsNamedAt services e.event e.reply) trace
