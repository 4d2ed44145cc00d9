use Rattle.std.proofs.Common.{◌≡◌, ◌&&◌, ◌||◌, ℕ, List, map, string_bytes}
use Rattle.std.specs.List.{list_any}
use Rattle.std.specs.Map.Iter.{deref_pair}
use Rattle.std.specs.Str.{bytes_eq}
use Rattle.ttrpc_server.specs.State.{has_name}
use Rattle.ttrpc_server.specs.Methods.{names_in, others_in}
use Rattle.ttrpc_server.proofs.methods.add_names.Given as goal

abbrev pub invariant-loop-name : goal.invariant-loop-name
invariant-loop-name g l = record {
  names : (s m : List ℕ) → has_name (names_in l.fn.named l.registry) s m ≡ ((bytes_eq s l.service && list_any (λ e. bytes_eq m (string_bytes e.0)) (map deref_pair l.yielded)) || has_name (names_in l.fn.named l.fn.registry) s m);
  others : others_in l.fn.named l.registry ≡ others_in l.fn.named l.fn.registry;
}
