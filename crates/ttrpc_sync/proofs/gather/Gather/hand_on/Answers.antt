use Rattle.std.proofs.Common.{◌++◌, take, sym, ap, ◌∙◌, take-append-drop}
use Rattle.std.proofs.KnownBytes.{append_known-moved}
use Rattle.ttrpc_sync.proofs.gather.Gather.hand_on.Goals as goal

pub returns-clause-bytes : goal.returns-clause-bytes
returns-clause-bytes g c =
    let n = c.write_front-taken.result.0 in
    let kept = c.self.inside.kept.items in
    let taken = rw c.as_slice.ensures.value at c.write_front-taken.ensures.bytes in
    rw (← c.self.view_is) (append_known-moved _ _ _ _ _ taken (sym (take-append-drop n kept) ∙ ap (λ l. take n kept ++ l) (sym c.remove_front.ensures)))
