-- The errors that are made of a text, or of none.
use Rattle.std.proofs.Common.{inl, inr, ◌≡◌, ℕ, List, Result, Ok, Err, IfOk, MatchResult, String, string_bytes, ap, ◌∙◌}
use Rattle.std.specs.declared.alloc.AllocError.{AllocError}
use Rattle.std.specs.Global.{Global}
use Rattle.ttrpc_proto.specs.declared.error.Error.{Error}
use Rattle.ttrpc_proto.specs.declared.error.Error.TheVariants.{Others, NoMemory}
use Rattle.ttrpc_transport.specs.Address.Addresses.{IsRefusal}

pub refused : (made : Result (String Global) AllocError) (e : Error) (text : List ℕ) → IfOk made (λ s. string_bytes s ≡ text)
    → MatchResult made (λ s. e ≡ Others (string_bytes s)) (λ _. e ≡ NoMemory) → IsRefusal text e
refused (Ok s) e text is told = inl (told ∙ ap Others is)
refused (Err _) e text is told = inr told
