use Rattle.ttrpc_client.proofs.Words.{◌≡◌, ◌+◌, ◌-◌, ◌∙◌, None, ap, call_in, is_at, nat_cmp, remove_entry, Client}
use Rattle.ttrpc_client.proofs.Entered.{client_below, gone_stream, stream_withdrawn, streams_below}
use Rattle.ttrpc_client.specs.pending.Places.{entries_in}
use Rattle.ttrpc_client.proofs.state.ClientState.undo_admit_stream.Goals as goal

pub invariant_of-self : goal.invariant_of-self
invariant_of-self c =
    let kept = c.self.invariant.0 in
    let next : c.self.inside.next ≡ c.args.id + 2 = rw (← c.self.view_is) at c.requires.last in
    let none : call_in (entries_in c.self.inside.calls) c.args.id ≡ None = rw (← c.self.view_is) at c.requires.stream in (
      record {
        valid = client_below _ c.args.id _ kept.valid next none;
        ordered = kept.ordered;
        deadlines_are = kept.deadlines_are;
        has_room = kept.has_room;
        told = kept.told;
      },
      streams_below _ c.args.id _ _ (gone_stream _ _ _ _ c.self.invariant.1 c.args.id c.forget.ensures.own c.forget.ensures.others) kept.valid.odd next c.forget.ensures.own,
    )

pub returns : goal.returns
returns c = λ old stream admits.
    rw c.forget.ensures.entries (ap (λ (x : Client). record x { next = x.next - 2; streams = remove_entry (is_at (nat_cmp c.args.id)) x.streams }) c.self.view_is ∙ stream_withdrawn old c.args.self.now c.args.id stream admits)
