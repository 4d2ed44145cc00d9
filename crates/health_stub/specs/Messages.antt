-- The messages of health.proto: the number, the kind and the place of each member. Written by tools/messages from health.proto: change that, and run the tool.
-- Source: health.proto.
use Rattle.std.specs.Prelude.{refl}
use Rattle.ttrpc_members.proofs.Proved.{Message, int32, message, none, single, text, ◌&◌∶◌}
use Rattle.health_stub.specs.declared.messages.HealthCheckRequest.{HealthCheckRequest}
use Rattle.health_stub.specs.declared.messages.HealthCheckResponse.{HealthCheckResponse}

-- the message `HealthCheckRequest`: 1 service
abbrev pub health_check_request : Message HealthCheckRequest
health_check_request = message
    (none & 1 ∶ single text)
    (λ m. (tt, m.service))
    (λ x. record { service = x.1 })
    (λ x. refl) (λ m. refl) refl

-- the message `HealthCheckResponse`: 1 status
abbrev pub health_check_response : Message HealthCheckResponse
health_check_response = message
    (none & 1 ∶ single int32)
    (λ m. (tt, m.status))
    (λ x. record { status = x.1 })
    (λ x. refl) (λ m. refl) refl
