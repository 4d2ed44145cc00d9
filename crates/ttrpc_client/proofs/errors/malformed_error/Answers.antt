use Rattle.ttrpc_client.proofs.Words.{append_assoc, refl}
use Rattle.ttrpc_client.proofs.errors.malformed_error.Goals as goal

-- What `format!` ensures groups its pieces otherwise than the text in specs does.
pub returns : goal.returns
returns c = rw (c.from_string.ensures, c.in_ok-text.ensures.ok) (simp append_assoc refl)
