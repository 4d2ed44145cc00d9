-- What is known of a call from what it answered.
use Rattle.std.proofs.Common.{◌≡◌, ℕ, Result, Ok, Err}
use Rattle.std.specs.declared.io.ErrorKind.{ErrorKind}
use Rattle.ttrpc_proto.specs.Framing.Streams.{Moved, Failed, answered_kind}

pub moved_alone : (r : Result ℕ ErrorKind) (n : ℕ) → answered_kind r ≡ Moved n → r ≡ Ok n
moved_alone (Ok m) n is = cc
moved_alone (Err k) n is = cc

pub failed_alone : (r : Result ℕ ErrorKind) (k : ErrorKind) → answered_kind r ≡ Failed k → r ≡ Err k
failed_alone (Ok m) k is = cc
failed_alone (Err l) k is = cc
