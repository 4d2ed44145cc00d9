use Rattle.std.proofs.Common.{rules, arith, ◌≡◌, ap, length, subst, sym}
use Rattle.std.proofs.lemmas.Fn.{filter_same}
use Rattle.std.specs.List.{filter}
use Rattle.ttrpc_client.specs.pending.Places.{IsTrimmed, is_taken}
use Rattle.ttrpc_client.proofs.Places.{count_kept, kept_taken}
use Rattle.ttrpc_client.proofs.pending.tidy.Goals as goal

pub returns-then-empty-taken-clause-trimmed : goal.returns-then-empty-taken-clause-trimmed
returns-then-empty-taken-clause-trimmed g c =
    let ps = c.args.places.now.items in
    let is : c.retain.new.self.items ≡ filter is_taken ps = filter_same _ is_taken _ (λ x b f k. search rules) c.args.places.now.items c.retain.new.self.items c.retain.ensures.filtered in
    subst (IsTrimmed ps) (sym is) (kept_taken ps)

pub returns-then-empty-taken-clause-few : goal.returns-then-empty-taken-clause-few
returns-then-empty-taken-clause-few g c =
    let ps = c.args.places.now.items in
    let is : c.retain.new.self.items ≡ filter is_taken ps = filter_same _ is_taken _ (λ x b f k. search rules) c.args.places.now.items c.retain.new.self.items c.retain.ensures.filtered in
    λ count. omega (arith, ap length is, count_kept ps, count)
