-- How many loops have begun at a port, one call after the other.
use Rattle.std.proofs.Common.{ℕ, Option, Some, None, refl, ◌∙◌}
use Rattle.ttrpc_sync.specs.Loops.{IsOneMore, IsSameCount}

pub same_count : (a : Option ℕ) → IsSameCount a a
same_count None = tt
same_count (Some n) = refl

pub same_count_again : (a b c : Option ℕ) → IsSameCount a b → IsSameCount b c → IsSameCount a c
same_count_again a b None p q = tt
same_count_again a None (Some n) p q = absurd q
same_count_again None (Some m) (Some n) p q = absurd p
same_count_again (Some l) (Some m) (Some n) p q = q ∙ p

pub one_more_still : (a b c : Option ℕ) → IsOneMore a b → IsSameCount b c → IsOneMore a c
one_more_still a b None p q = tt
one_more_still a None (Some n) p q = absurd q
one_more_still None (Some m) (Some n) p q = absurd p
one_more_still (Some l) (Some m) (Some n) p q = q ∙ p
