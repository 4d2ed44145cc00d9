-- A core takes no more bytes than are fed.
use Rattle.ttrpc_server.proofs.Words.{◌≤◌, arith, cases_Bool, Connection, Error, inl, inr, length, List, ℕ}
use Rattle.std.proofs.Common.{Err, IfOk, Ok, Result}
use Rattle.ttrpc_connection.specs.Feeds.{is_open, Ways}
use Rattle.ttrpc_connection.specs.OneEnd.{TakesOrDrains}

pub at_most : {S O I : Type 0} (w : Ways S O I) (s : S) (old : Connection O I) (piece : List ℕ) (at : ℕ) (result : Result ℕ Error) (t : S) (new : Connection O I) → TakesOrDrains w s old piece at result t new → IfOk result (λ n. n ≤ length piece)
at_most w s old piece at (Ok n) t new fed = elim (cases_Bool (is_open w s old.outbox)) [
  | inl ready ↦ (fed.takes ready).taken.count
  | inr shut ↦ let none = (fed.drains shut).ok.0 in omega (arith, none)
]
at_most w s old piece at (Err e) t new fed = tt
