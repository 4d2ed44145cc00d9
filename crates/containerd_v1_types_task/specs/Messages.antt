-- The messages of task.proto: the number, the kind and the place of each member. Written by tools/messages --each -I ../../tools/trees/containerd/src -I ../../tools/trees/containerd/gogo from ../../tools/trees/containerd/src/github.com/containerd/containerd/api/types/task/task.proto: change that, and run the tool.
-- Source: task.proto.
use Rattle.std.specs.Prelude.{refl}
use Rattle.ttrpc_members.proofs.Proved.{Message, boolean, int32, message, nested, none, optional, single, text, uint32, ◌&◌∶◌}
use Rattle.containerd_v1_types_task.specs.declared.messages.Process.{Process}
use Rattle.containerd_v1_types_task.specs.declared.messages.ProcessInfo.{ProcessInfo}
use Rattle.ttrpc_well_known.specs.Messages.{any, timestamp}

-- the message `Process`: 1 container_id, 2 id, 3 pid, 4 status, 5 stdin, 6 stdout, 7 stderr, 8 terminal, 9 exit_status, 10 exited_at
abbrev pub process : Message Process
process = message
    (none & 1 ∶ single text & 2 ∶ single text & 3 ∶ single uint32 & 4 ∶ single int32 & 5 ∶ single text & 6 ∶ single text & 7 ∶ single text & 8 ∶ single boolean & 9 ∶ single uint32 & 10 ∶ optional (nested timestamp))
    (λ m. ((((((((((tt, m.container_id), m.id), m.pid), m.status), m.stdin), m.stdout), m.stderr), m.terminal), m.exit_status), m.exited_at))
    (λ x. record { container_id = x.0.0.0.0.0.0.0.0.0.1; id = x.0.0.0.0.0.0.0.0.1; pid = x.0.0.0.0.0.0.0.1; status = x.0.0.0.0.0.0.1; stdin = x.0.0.0.0.0.1; stdout = x.0.0.0.0.1; stderr = x.0.0.0.1; terminal = x.0.0.1; exit_status = x.0.1; exited_at = x.1 })
    (λ x. refl) (λ m. refl) refl

-- the message `ProcessInfo`: 1 pid, 2 info
abbrev pub process_info : Message ProcessInfo
process_info = message
    (none & 1 ∶ single uint32 & 2 ∶ optional (nested any))
    (λ m. ((tt, m.pid), m.info))
    (λ x. record { pid = x.0.1; info = x.1 })
    (λ x. refl) (λ m. refl) refl
