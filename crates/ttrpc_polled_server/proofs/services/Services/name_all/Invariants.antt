use Rattle.std.proofs.Common.{◌≡◌, ℕ, List}
use Rattle.ttrpc_server.specs.State.{has_method}
use Rattle.ttrpc_polled_server.proofs.services.Services.name_all.Given as goal

-- no method and no stream came or went
abbrev pub invariant-loop-name : goal.invariant-loop-name
invariant-loop-name g l = record {
  methods : (s m : List ℕ) → has_method l.registry s m ≡ has_method l.fn.registry s m;
  streams : l.registry.streams ≡ l.fn.registry.streams;
}
