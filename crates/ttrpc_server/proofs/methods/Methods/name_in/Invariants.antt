use Rattle.std.proofs.Common.{◌≡◌, ◌||◌, ℕ, List, map}
use Rattle.std.specs.List.{list_any}
use Rattle.std.specs.Map.Iter.{deref_pair}
use Rattle.ttrpc_server.specs.State.{has_name}
use Rattle.ttrpc_server.specs.Methods.{names_in, others_in}
use Rattle.ttrpc_server.proofs.Handlers.{has_here}
use Rattle.ttrpc_server.proofs.methods.Methods.name_in.Given as goal

abbrev pub invariant-loop-service : goal.invariant-loop-service
invariant-loop-service g l = record {
  names : (s m : List ℕ) → has_name (names_in l.fn.named l.registry) s m ≡ (list_any (has_here s m) (map deref_pair l.yielded) || has_name (names_in l.fn.named l.fn.registry) s m);
  others : others_in l.fn.named l.registry ≡ others_in l.fn.named l.fn.registry;
}
