use Rattle.std.proofs.Common.{◌++◌, ◌∙◌, cond, nat_lt, sym, ap}
use Rattle.ttrpc_proto.specs.Framing.Queue.{last_may_change}
use Rattle.ttrpc_proto.proofs.Laying.{begun_is, frames_count}
use Rattle.ttrpc_proto.proofs.framing.outgoing.Outgoing.last_may_change.Goals as goal

pub returns : goal.returns
returns c =
    let a = c.self.inside in
    ap (λ n. nat_lt n c.len.result) (c.from.ensures ∙ begun_is a.begun)
    ∙ ap (nat_lt (cond a.begun 1 0)) (c.len.ensures ∙ a.records.ok.0 ∙ sym (frames_count a.records.items (a.told.bytes ++ a.ring.items)))
    ∙ ap last_may_change c.self.view_is
