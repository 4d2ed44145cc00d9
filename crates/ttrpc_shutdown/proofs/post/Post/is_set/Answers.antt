use Rattle.std.proofs.Common.{rules}
use Rattle.ttrpc_shutdown.proofs.Keeps.{looks}
use Rattle.ttrpc_shutdown.proofs.post.Post.is_set.Goals as goal

pub load-requires : goal.load-requires
load-requires c = (search rules, search rules, looks _ _ _)
