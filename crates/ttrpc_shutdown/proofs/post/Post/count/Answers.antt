use Rattle.std.proofs.Common.{rules}
use Rattle.ttrpc_shutdown.proofs.Keeps.{stays}
use Rattle.ttrpc_shutdown.proofs.post.Post.count.Goals as goal

pub load-requires : goal.load-requires
load-requires c = (search rules, search rules, stays _ _ _)
