-- What a port's own clauses say of what its trait asks.
use Rattle.std.proofs.Common.{Option, Some, None, IfNone}

-- where nothing more is asked of bytes that aren't told
pub untold : {X : Type 0} (P : Type 0) (r : Option X) → IfNone r P → IfNone r (Unit {0} × P)
untold P None p = (tt, p)
untold P (Some x) p = tt
