use Rattle.std.proofs.Common.{rules}
use Rattle.ttrpc_shutdown.proofs.Keeps.{sets}
use Rattle.ttrpc_shutdown.proofs.post.Post.set.Goals as goal

pub swap-requires : goal.swap-requires
swap-requires c = (search rules, search rules, sets _ _ _ (search rules))
