use Rattle.std.proofs.Common.{rules, ◌≡◌, Err, ◌∷◌, ◌++◌, map, subst, sym, ap, ◌∙◌}
use Rattle.std.proofs.lemmas.List.{map-id}
use Rattle.std.proofs.lemmas.Map.Iter.{rest_more, rest_so_far}
use Rattle.ttrpc_server.specs.Methods.{Adds, AddsAll, IsNotAdded}
use Rattle.ttrpc_server.proofs.Handlers.{adds_more}
use Rattle.ttrpc_server.proofs.methods.Methods.add_all.Goals as goal

pub loop-path-preserved : goal.loop-path-preserved
loop-path-preserved g c = record {
  added = adds_more _ _ _ _ _ _ c.loop-path.invariant.added (subst (λ path. Adds c.loop-path.self path c.in-Some.handler c.add.new.self) c.as_str.ensures.value c.in_ok-add.ensures.ok);
}

pub returns-in_err-add-clause-refused : goal.returns-in_err-add-clause-refused
returns-in_err-add-clause-refused g c =
    let e : c.from_residual.result ≡ Err c.in_err-add.field-0.0 = search rules in
    let start : c.into_iter-path-iterator.result ≡ c.args.handlers.entries = search rules in
    let before = map (λ p. p) c.loop-path.yielded in
    rw e (record {
      before = before;
      path = c.in-Some.path;
      handler = c.in-Some.handler;
      after = c.next.new.self;
      all = sym start ∙ rest_so_far (λ p. p) c.loop-path.yielded _ _ c.loop-path.yielded_by ∙ ap (λ rest. before ++ rest) (rest_more (λ p. p) _ _ _ _ c.in-Some.is c.next.ensures.steps);
      refused = subst (λ path. IsNotAdded path c.in_err-add.field-0.0) c.as_str.ensures.value c.in_err-add.ensures.refused;
    })

pub returns-in_err-add-clause-err : goal.returns-in_err-add-clause-err
returns-in_err-add-clause-err g c =
    let e : c.from_residual.result ≡ Err c.in_err-add.field-0.0 = search rules in
    let start : c.into_iter-path-iterator.result ≡ c.args.handlers.entries = search rules in
    let front = map (λ p. p) c.loop-path.yielded in
    let all = sym start ∙ rest_so_far (λ p. p) c.loop-path.yielded _ _ c.loop-path.yielded_by ∙ ap (λ rest. front ++ rest) (rest_more (λ p. p) _ _ _ _ c.in-Some.is c.next.ensures.steps) in
    rw e (
      c.loop-path.yielded,
      (c.in-Some.path, c.in-Some.handler) ∷ c.next.new.self,
      subst (λ xs. c.args.handlers.entries ≡ xs ++ (c.in-Some.path, c.in-Some.handler) ∷ c.next.new.self) (map-id c.loop-path.yielded) all,
      subst (λ new. AddsAll c.args.self.now c.loop-path.yielded new) (sym c.in_err-add.ensures.err) c.loop-path.invariant.added,
    )
