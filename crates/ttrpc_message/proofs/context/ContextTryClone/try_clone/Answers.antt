use Rattle.std.proofs.Common.{rules, ◌≡◌}
use Rattle.ttrpc_message.specs.Metadata.{seen}
use Rattle.ttrpc_message.proofs.Copies.{copied}
use Rattle.ttrpc_message.proofs.context.ContextTryClone.try_clone.Goals as goal

pub returns : goal.returns
returns c =
    let same : seen c.in_ok-clone.field-0.entries ≡ seen c.self.inside.metadata.entries = copied _ _ c.in_ok-clone.ensures.cases in
    rw (← c.self.view_is) (search (rules, same))
