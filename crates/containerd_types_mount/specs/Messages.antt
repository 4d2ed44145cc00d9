-- The messages of mount.proto: the number, the kind and the place of each member. Written by tools/messages --each -I ../../tools/trees/containerd/src -I ../../tools/trees/containerd/gogo from ../../tools/trees/containerd/src/github.com/containerd/containerd/api/types/mount.proto: change that, and run the tool.
-- Source: mount.proto.
use Rattle.std.specs.Prelude.{refl}
use Rattle.ttrpc_members.proofs.Proved.{Message, message, none, repeated, single, text, ◌&◌∶◌}
use Rattle.containerd_types_mount.specs.declared.messages.Mount.{Mount}

-- the message `Mount`: 1 type, 2 source, 3 target, 4 options
abbrev pub mount : Message Mount
mount = message
    (none & 1 ∶ single text & 2 ∶ single text & 3 ∶ single text & 4 ∶ repeated text)
    (λ m. ((((tt, m.type_), m.source), m.target), m.options))
    (λ x. record { type_ = x.0.0.0.1; source = x.0.0.1; target = x.0.1; options = x.1 })
    (λ x. refl) (λ m. refl) refl
