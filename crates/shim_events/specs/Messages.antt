-- The messages of events.proto: the number, the kind and the place of each member. Written by tools/messages --each -I ../../tools/trees/containerd/src -I ../../tools/trees/containerd/gogo from ../../tools/trees/containerd/src/github.com/containerd/containerd/api/services/ttrpc/events/v1/events.proto: change that, and run the tool.
-- Source: events.proto.
use Rattle.std.specs.Prelude.{refl}
use Rattle.ttrpc_members.proofs.Proved.{Message, message, nested, none, optional, ◌&◌∶◌}
use Rattle.shim_events.specs.declared.messages.ForwardRequest.{ForwardRequest}
use Rattle.containerd_types_event.specs.Messages.{envelope}

-- the message `ForwardRequest`: 1 envelope
abbrev pub forward_request : Message ForwardRequest
forward_request = message
    (none & 1 ∶ optional (nested envelope))
    (λ m. (tt, m.envelope))
    (λ x. record { envelope = x.1 })
    (λ x. refl) (λ m. refl) refl
