use Rattle.std.proofs.Common.{rules, ◌≡◌, Err, ◌∷◌, ◌++◌, map, subst, sym, ap, ◌∙◌}
use Rattle.std.proofs.lemmas.List.{map-id}
use Rattle.std.proofs.lemmas.Map.Iter.{rest_more, rest_so_far}
use Rattle.ttrpc_server.specs.Methods.{Puts, PutsAll}
use Rattle.ttrpc_server.proofs.Handlers.{puts_more}
use Rattle.ttrpc_server.proofs.methods.Methods.put_all.Goals as goal

pub loop-name-preserved : goal.loop-name-preserved
loop-name-preserved g c = record {
  put = puts_more _ _ _ _ _ _ _ c.loop-name.invariant.put (subst (λ name. Puts c.loop-name.self c.args.service.now name c.in-Some.handler c.put.new.self) c.as_str.ensures.value c.in_ok-put.ensures.ok);
}

pub returns-in_err-put-clause-err : goal.returns-in_err-put-clause-err
returns-in_err-put-clause-err g c =
    let e : c.from_residual.result ≡ Err c.in_err-put.field-0.0 = search rules in
    let start : c.into_iter-name-iterator.result ≡ c.args.handlers.entries = search rules in
    let front = map (λ p. p) c.loop-name.yielded in
    let all = sym start ∙ rest_so_far (λ p. p) c.loop-name.yielded _ _ c.loop-name.yielded_by ∙ ap (λ rest. front ++ rest) (rest_more (λ p. p) _ _ _ _ c.in-Some.is c.next.ensures.steps) in
    rw e (
      c.loop-name.yielded,
      (c.in-Some.name, c.in-Some.handler) ∷ c.next.new.self,
      subst (λ xs. c.args.handlers.entries ≡ xs ++ (c.in-Some.name, c.in-Some.handler) ∷ c.next.new.self) (map-id c.loop-name.yielded) all,
      subst (λ new. PutsAll c.args.self.now c.args.service.now c.loop-name.yielded new) (sym c.in_err-put.ensures.err) c.loop-name.invariant.put,
    )
