-- The effect of a frame on one stream id.
-- Source: PROTOCOL.md of ttrpc, "Message Frame".
use Rattle.std.specs.Prelude.{◌≡◌, ◌≤◌, ℕ, ◌+◌, List, [], ◌∷◌, ◌++◌, length}
use Rattle.std.specs.List.{AllByRecursion}
use Rattle.ttrpc_server.specs.Types.{MessageHeader, ActiveJob}
use Rattle.ttrpc_connection.specs.Frames.{Sent}
use Rattle.ttrpc_server.specs.State.{Server, brought_by, new_job, on_stream, stream_body, unary_body, without_payload}
use Rattle.ttrpc_server.specs.Table.{Row, MakeJob, MakeStream, PutIn}

-- Returns the jobs of a frame's own stream id after the frame. The row of the frame adds a job with the next id after the others, puts the
-- frame's data into the stream's mailbox, or changes nothing.
abbrev pub made_by : Row → Server → MessageHeader → ℕ → List ActiveJob → List ActiveJob
made_by (MakeJob request) s header now before = before ++ new_job (s.jobs.last + 1) header request (unary_body s.rules now request) ∷ []
made_by (MakeStream request) s header now before =
    before ++ new_job (s.jobs.last + 1) header (without_payload request) (stream_body s.services.bare_openings header.flags request.payload) ∷ []
made_by (PutIn payload) s header now before = on_stream header.stream_id (brought_by header payload) before
made_by row s header now before = before

-- Holds if at most one frame was sent, under this stream id.
pub record IsAnswered (k : ℕ) (sent : List Sent) : Type 0 where
  pub own : AllByRecursion (λ (s : Sent). s.frame.message.header.stream_id ≡ k) sent
  pub at_most_one : length sent ≤ 1
