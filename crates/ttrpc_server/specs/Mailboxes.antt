-- The mailboxes of streams' jobs.
-- Source: PROTOCOL.md of ttrpc, "Streaming".
use Rattle.std.specs.Prelude.{◌≡◌, ℕ, List, Option, None, Some, Result}
use Rattle.ttrpc_connection.specs.Mail.{Receives}
use Rattle.ttrpc_server.specs.Types.{Error, Failure, ActiveJob, Body, Unary, Stream, Mail}
use Rattle.ttrpc_server.specs.State.{job_at, on_mail}

-- Returns the mailbox of a stream's job, and none for a unary job.
abbrev pub mail_of : Body → Option Mail
mail_of (Unary deadline) = None
mail_of (Stream mail) = Some mail

-- Returns the mailbox of a job, if there is a job and it is a stream's.
abbrev pub mail_in : Option ActiveJob → Option Mail
mail_in None = None
mail_in (Some j) = mail_of j.body

-- Returns the mailbox of the job of this id, if it is a stream's.
abbrev pub mail_at : List ActiveJob → ℕ → Option Mail
mail_at jobs id = mail_in (job_at jobs id)

-- Holds if this is the result of a call to receive from the job of this id: that of its mailbox, or none if there is no stream's job of
-- this id.
abbrev pub ReceivesFrom : Option Failure → List ActiveJob → ℕ → Option (Option (Result (List ℕ) Error)) → List ActiveJob → Type 0
ReceivesFrom failure old id None new = (mail_at old id ≡ None) × (new ≡ old)
ReceivesFrom failure old id (Some given) new =
    (mail : Mail) × (left : Mail) × (mail_at old id ≡ Some mail) × Receives failure mail given left × (new ≡ on_mail id (λ _. left) old)
