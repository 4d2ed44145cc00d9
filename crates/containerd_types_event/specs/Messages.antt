-- The messages of event.proto: the number, the kind and the place of each member. Written by tools/messages --each -I ../../tools/trees/containerd/src -I ../../tools/trees/containerd/gogo from ../../tools/trees/containerd/src/github.com/containerd/containerd/api/types/event.proto: change that, and run the tool.
-- Source: event.proto.
use Rattle.std.specs.Prelude.{refl}
use Rattle.ttrpc_members.proofs.Proved.{Message, message, nested, none, optional, single, text, ◌&◌∶◌}
use Rattle.containerd_types_event.specs.declared.messages.Envelope.{Envelope}
use Rattle.ttrpc_well_known.specs.Messages.{any, timestamp}

-- the message `Envelope`: 1 timestamp, 2 namespace, 3 topic, 4 event
abbrev pub envelope : Message Envelope
envelope = message
    (none & 1 ∶ optional (nested timestamp) & 2 ∶ single text & 3 ∶ single text & 4 ∶ optional (nested any))
    (λ m. ((((tt, m.timestamp), m.namespace), m.topic), m.event))
    (λ x. record { timestamp = x.0.0.0.1; namespace = x.0.0.1; topic = x.0.1; event = x.1 })
    (λ x. refl) (λ m. refl) refl
