use Rattle.ttrpc_server.proofs.Words.{append_assoc, refl}
use Rattle.ttrpc_server.proofs.responses.not_above_response.Goals as goal

-- What `format!` ensures groups its pieces otherwise than the text in specs does.
pub returns : goal.returns
returns c = rw (c.response_of.ensures, c.in_ok-text.ensures.ok) (simp append_assoc refl)
