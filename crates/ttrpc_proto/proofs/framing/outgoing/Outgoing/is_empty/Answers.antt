use Rattle.std.proofs.Common.{◌≡◌, ◌∙◌, ◌++◌, true, length, nat_eq, arith, sym, ap}
use Rattle.std.proofs.lemmas.Bool.Decides.{nat_tests}
use Rattle.ttrpc_proto.specs.Framing.Queue.{Queue}
use Rattle.ttrpc_proto.proofs.Laying.{frames_count, none_of}
use Rattle.ttrpc_proto.proofs.framing.outgoing.Outgoing.is_empty.Goals as goal

pub returns-clause-none : goal.returns-clause-none
returns-clause-none c =
    let a = c.self.inside in
    let same : length a.records.items ≡ length c.args.self.now.frames = sym (frames_count a.records.items (a.told.bytes ++ a.ring.items)) ∙ ap (λ (q : Queue). length q.frames) c.self.view_is in
    let count : a.records.len ≡ length c.args.self.now.frames = a.records.ok.0 ∙ same in (
      λ is.
          let zero : nat_eq a.records.len 0 ≡ true = sym c.is_empty.ensures ∙ is in
          none_of c.args.self.now.frames (sym count ∙ grind (arith, nat_tests, zero)),
      λ none. c.is_empty.ensures ∙ ap (λ n. nat_eq n 0) (count ∙ ap (λ fs. length fs) none),
    )
