-- The messages of shim.proto: the number, the kind and the place of each member. Written by tools/messages --each -I ../../tools/trees/containerd/src -I ../../tools/trees/containerd/gogo from ../../tools/trees/containerd/src/github.com/containerd/containerd/api/runtime/task/v2/shim.proto: change that, and run the tool.
-- Source: shim.proto.
use Rattle.std.specs.Prelude.{refl}
use Rattle.ttrpc_members.proofs.Proved.{Message, boolean, int32, map, message, nested, none, optional, repeated, single, text, text_key, uint32, ◌&◌∶◌}
use Rattle.shim_task_messages.specs.declared.messages.CreateTaskRequest.{CreateTaskRequest}
use Rattle.shim_task_messages.specs.declared.messages.CreateTaskResponse.{CreateTaskResponse}
use Rattle.shim_task_messages.specs.declared.messages.DeleteRequest.{DeleteRequest}
use Rattle.shim_task_messages.specs.declared.messages.DeleteResponse.{DeleteResponse}
use Rattle.shim_task_messages.specs.declared.messages.ExecProcessRequest.{ExecProcessRequest}
use Rattle.shim_task_messages.specs.declared.messages.ExecProcessResponse.{ExecProcessResponse}
use Rattle.shim_task_messages.specs.declared.messages.ResizePtyRequest.{ResizePtyRequest}
use Rattle.shim_task_messages.specs.declared.messages.StateRequest.{StateRequest}
use Rattle.shim_task_messages.specs.declared.messages.StateResponse.{StateResponse}
use Rattle.shim_task_messages.specs.declared.messages.KillRequest.{KillRequest}
use Rattle.shim_task_messages.specs.declared.messages.CloseIORequest.{CloseIORequest}
use Rattle.shim_task_messages.specs.declared.messages.PidsRequest.{PidsRequest}
use Rattle.shim_task_messages.specs.declared.messages.PidsResponse.{PidsResponse}
use Rattle.shim_task_messages.specs.declared.messages.CheckpointTaskRequest.{CheckpointTaskRequest}
use Rattle.shim_task_messages.specs.declared.messages.UpdateTaskRequest.{UpdateTaskRequest}
use Rattle.shim_task_messages.specs.declared.messages.StartRequest.{StartRequest}
use Rattle.shim_task_messages.specs.declared.messages.StartResponse.{StartResponse}
use Rattle.shim_task_messages.specs.declared.messages.WaitRequest.{WaitRequest}
use Rattle.shim_task_messages.specs.declared.messages.WaitResponse.{WaitResponse}
use Rattle.shim_task_messages.specs.declared.messages.StatsRequest.{StatsRequest}
use Rattle.shim_task_messages.specs.declared.messages.StatsResponse.{StatsResponse}
use Rattle.shim_task_messages.specs.declared.messages.ConnectRequest.{ConnectRequest}
use Rattle.shim_task_messages.specs.declared.messages.ConnectResponse.{ConnectResponse}
use Rattle.shim_task_messages.specs.declared.messages.ShutdownRequest.{ShutdownRequest}
use Rattle.shim_task_messages.specs.declared.messages.PauseRequest.{PauseRequest}
use Rattle.shim_task_messages.specs.declared.messages.ResumeRequest.{ResumeRequest}
use Rattle.containerd_types_mount.specs.Messages.{mount}
use Rattle.containerd_v1_types_task.specs.Messages.{process_info}
use Rattle.ttrpc_well_known.specs.Messages.{any, timestamp}

-- the message `CreateTaskRequest`: 1 id, 2 bundle, 3 rootfs, 4 terminal, 5 stdin, 6 stdout, 7 stderr, 8 checkpoint, 9 parent_checkpoint, 10 options
abbrev pub create_task_request : Message CreateTaskRequest
create_task_request = message
    (none & 1 ∶ single text & 2 ∶ single text & 3 ∶ repeated (nested mount) & 4 ∶ single boolean & 5 ∶ single text & 6 ∶ single text & 7 ∶ single text & 8 ∶ single text & 9 ∶ single text & 10 ∶ optional (nested any))
    (λ m. ((((((((((tt, m.id), m.bundle), m.rootfs), m.terminal), m.stdin), m.stdout), m.stderr), m.checkpoint), m.parent_checkpoint), m.options))
    (λ x. record { id = x.0.0.0.0.0.0.0.0.0.1; bundle = x.0.0.0.0.0.0.0.0.1; rootfs = x.0.0.0.0.0.0.0.1; terminal = x.0.0.0.0.0.0.1; stdin = x.0.0.0.0.0.1; stdout = x.0.0.0.0.1; stderr = x.0.0.0.1; checkpoint = x.0.0.1; parent_checkpoint = x.0.1; options = x.1 })
    (λ x. refl) (λ m. refl) refl

-- the message `CreateTaskResponse`: 1 pid
abbrev pub create_task_response : Message CreateTaskResponse
create_task_response = message
    (none & 1 ∶ single uint32)
    (λ m. (tt, m.pid))
    (λ x. record { pid = x.1 })
    (λ x. refl) (λ m. refl) refl

-- the message `DeleteRequest`: 1 id, 2 exec_id
abbrev pub delete_request : Message DeleteRequest
delete_request = message
    (none & 1 ∶ single text & 2 ∶ single text)
    (λ m. ((tt, m.id), m.exec_id))
    (λ x. record { id = x.0.1; exec_id = x.1 })
    (λ x. refl) (λ m. refl) refl

-- the message `DeleteResponse`: 1 pid, 2 exit_status, 3 exited_at
abbrev pub delete_response : Message DeleteResponse
delete_response = message
    (none & 1 ∶ single uint32 & 2 ∶ single uint32 & 3 ∶ optional (nested timestamp))
    (λ m. (((tt, m.pid), m.exit_status), m.exited_at))
    (λ x. record { pid = x.0.0.1; exit_status = x.0.1; exited_at = x.1 })
    (λ x. refl) (λ m. refl) refl

-- the message `ExecProcessRequest`: 1 id, 2 exec_id, 3 terminal, 4 stdin, 5 stdout, 6 stderr, 7 spec
abbrev pub exec_process_request : Message ExecProcessRequest
exec_process_request = message
    (none & 1 ∶ single text & 2 ∶ single text & 3 ∶ single boolean & 4 ∶ single text & 5 ∶ single text & 6 ∶ single text & 7 ∶ optional (nested any))
    (λ m. (((((((tt, m.id), m.exec_id), m.terminal), m.stdin), m.stdout), m.stderr), m.spec))
    (λ x. record { id = x.0.0.0.0.0.0.1; exec_id = x.0.0.0.0.0.1; terminal = x.0.0.0.0.1; stdin = x.0.0.0.1; stdout = x.0.0.1; stderr = x.0.1; spec = x.1 })
    (λ x. refl) (λ m. refl) refl

-- the message `ExecProcessResponse`: no member
abbrev pub exec_process_response : Message ExecProcessResponse
exec_process_response = message
    (none)
    (λ m. tt)
    (λ x. record {})
    (λ x. refl) (λ m. refl) refl

-- the message `ResizePtyRequest`: 1 id, 2 exec_id, 3 width, 4 height
abbrev pub resize_pty_request : Message ResizePtyRequest
resize_pty_request = message
    (none & 1 ∶ single text & 2 ∶ single text & 3 ∶ single uint32 & 4 ∶ single uint32)
    (λ m. ((((tt, m.id), m.exec_id), m.width), m.height))
    (λ x. record { id = x.0.0.0.1; exec_id = x.0.0.1; width = x.0.1; height = x.1 })
    (λ x. refl) (λ m. refl) refl

-- the message `StateRequest`: 1 id, 2 exec_id
abbrev pub state_request : Message StateRequest
state_request = message
    (none & 1 ∶ single text & 2 ∶ single text)
    (λ m. ((tt, m.id), m.exec_id))
    (λ x. record { id = x.0.1; exec_id = x.1 })
    (λ x. refl) (λ m. refl) refl

-- the message `StateResponse`: 1 id, 2 bundle, 3 pid, 4 status, 5 stdin, 6 stdout, 7 stderr, 8 terminal, 9 exit_status, 10 exited_at, 11 exec_id
abbrev pub state_response : Message StateResponse
state_response = message
    (none & 1 ∶ single text & 2 ∶ single text & 3 ∶ single uint32 & 4 ∶ single int32 & 5 ∶ single text & 6 ∶ single text & 7 ∶ single text & 8 ∶ single boolean & 9 ∶ single uint32 & 10 ∶ optional (nested timestamp) & 11 ∶ single text)
    (λ m. (((((((((((tt, m.id), m.bundle), m.pid), m.status), m.stdin), m.stdout), m.stderr), m.terminal), m.exit_status), m.exited_at), m.exec_id))
    (λ x. record { id = x.0.0.0.0.0.0.0.0.0.0.1; bundle = x.0.0.0.0.0.0.0.0.0.1; pid = x.0.0.0.0.0.0.0.0.1; status = x.0.0.0.0.0.0.0.1; stdin = x.0.0.0.0.0.0.1; stdout = x.0.0.0.0.0.1; stderr = x.0.0.0.0.1; terminal = x.0.0.0.1; exit_status = x.0.0.1; exited_at = x.0.1; exec_id = x.1 })
    (λ x. refl) (λ m. refl) refl

-- the message `KillRequest`: 1 id, 2 exec_id, 3 signal, 4 all
abbrev pub kill_request : Message KillRequest
kill_request = message
    (none & 1 ∶ single text & 2 ∶ single text & 3 ∶ single uint32 & 4 ∶ single boolean)
    (λ m. ((((tt, m.id), m.exec_id), m.signal), m.all))
    (λ x. record { id = x.0.0.0.1; exec_id = x.0.0.1; signal = x.0.1; all = x.1 })
    (λ x. refl) (λ m. refl) refl

-- the message `CloseIORequest`: 1 id, 2 exec_id, 3 stdin
abbrev pub close_io_request : Message CloseIORequest
close_io_request = message
    (none & 1 ∶ single text & 2 ∶ single text & 3 ∶ single boolean)
    (λ m. (((tt, m.id), m.exec_id), m.stdin))
    (λ x. record { id = x.0.0.1; exec_id = x.0.1; stdin = x.1 })
    (λ x. refl) (λ m. refl) refl

-- the message `PidsRequest`: 1 id
abbrev pub pids_request : Message PidsRequest
pids_request = message
    (none & 1 ∶ single text)
    (λ m. (tt, m.id))
    (λ x. record { id = x.1 })
    (λ x. refl) (λ m. refl) refl

-- the message `PidsResponse`: 1 processes
abbrev pub pids_response : Message PidsResponse
pids_response = message
    (none & 1 ∶ repeated (nested process_info))
    (λ m. (tt, m.processes))
    (λ x. record { processes = x.1 })
    (λ x. refl) (λ m. refl) refl

-- the message `CheckpointTaskRequest`: 1 id, 2 path, 3 options
abbrev pub checkpoint_task_request : Message CheckpointTaskRequest
checkpoint_task_request = message
    (none & 1 ∶ single text & 2 ∶ single text & 3 ∶ optional (nested any))
    (λ m. (((tt, m.id), m.path), m.options))
    (λ x. record { id = x.0.0.1; path = x.0.1; options = x.1 })
    (λ x. refl) (λ m. refl) refl

-- the message `UpdateTaskRequest`: 1 id, 2 resources, 3 annotations
abbrev pub update_task_request : Message UpdateTaskRequest
update_task_request = message
    (none & 1 ∶ single text & 2 ∶ optional (nested any) & 3 ∶ map text_key text)
    (λ m. (((tt, m.id), m.resources), m.annotations))
    (λ x. record { id = x.0.0.1; resources = x.0.1; annotations = x.1 })
    (λ x. refl) (λ m. refl) refl

-- the message `StartRequest`: 1 id, 2 exec_id
abbrev pub start_request : Message StartRequest
start_request = message
    (none & 1 ∶ single text & 2 ∶ single text)
    (λ m. ((tt, m.id), m.exec_id))
    (λ x. record { id = x.0.1; exec_id = x.1 })
    (λ x. refl) (λ m. refl) refl

-- the message `StartResponse`: 1 pid
abbrev pub start_response : Message StartResponse
start_response = message
    (none & 1 ∶ single uint32)
    (λ m. (tt, m.pid))
    (λ x. record { pid = x.1 })
    (λ x. refl) (λ m. refl) refl

-- the message `WaitRequest`: 1 id, 2 exec_id
abbrev pub wait_request : Message WaitRequest
wait_request = message
    (none & 1 ∶ single text & 2 ∶ single text)
    (λ m. ((tt, m.id), m.exec_id))
    (λ x. record { id = x.0.1; exec_id = x.1 })
    (λ x. refl) (λ m. refl) refl

-- the message `WaitResponse`: 1 exit_status, 2 exited_at
abbrev pub wait_response : Message WaitResponse
wait_response = message
    (none & 1 ∶ single uint32 & 2 ∶ optional (nested timestamp))
    (λ m. ((tt, m.exit_status), m.exited_at))
    (λ x. record { exit_status = x.0.1; exited_at = x.1 })
    (λ x. refl) (λ m. refl) refl

-- the message `StatsRequest`: 1 id
abbrev pub stats_request : Message StatsRequest
stats_request = message
    (none & 1 ∶ single text)
    (λ m. (tt, m.id))
    (λ x. record { id = x.1 })
    (λ x. refl) (λ m. refl) refl

-- the message `StatsResponse`: 1 stats
abbrev pub stats_response : Message StatsResponse
stats_response = message
    (none & 1 ∶ optional (nested any))
    (λ m. (tt, m.stats))
    (λ x. record { stats = x.1 })
    (λ x. refl) (λ m. refl) refl

-- the message `ConnectRequest`: 1 id
abbrev pub connect_request : Message ConnectRequest
connect_request = message
    (none & 1 ∶ single text)
    (λ m. (tt, m.id))
    (λ x. record { id = x.1 })
    (λ x. refl) (λ m. refl) refl

-- the message `ConnectResponse`: 1 shim_pid, 2 task_pid, 3 version
abbrev pub connect_response : Message ConnectResponse
connect_response = message
    (none & 1 ∶ single uint32 & 2 ∶ single uint32 & 3 ∶ single text)
    (λ m. (((tt, m.shim_pid), m.task_pid), m.version))
    (λ x. record { shim_pid = x.0.0.1; task_pid = x.0.1; version = x.1 })
    (λ x. refl) (λ m. refl) refl

-- the message `ShutdownRequest`: 1 id, 2 now
abbrev pub shutdown_request : Message ShutdownRequest
shutdown_request = message
    (none & 1 ∶ single text & 2 ∶ single boolean)
    (λ m. ((tt, m.id), m.now))
    (λ x. record { id = x.0.1; now = x.1 })
    (λ x. refl) (λ m. refl) refl

-- the message `PauseRequest`: 1 id
abbrev pub pause_request : Message PauseRequest
pause_request = message
    (none & 1 ∶ single text)
    (λ m. (tt, m.id))
    (λ x. record { id = x.1 })
    (λ x. refl) (λ m. refl) refl

-- the message `ResumeRequest`: 1 id
abbrev pub resume_request : Message ResumeRequest
resume_request = message
    (none & 1 ∶ single text)
    (λ m. (tt, m.id))
    (λ x. record { id = x.1 })
    (λ x. refl) (λ m. refl) refl
