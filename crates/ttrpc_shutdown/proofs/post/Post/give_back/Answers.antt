use Rattle.std.proofs.Common.{rules}
use Rattle.ttrpc_shutdown.proofs.Keeps.{leaves}
use Rattle.ttrpc_shutdown.proofs.post.Post.give_back.Goals as goal

pub fetch_sub-requires : goal.fetch_sub-requires
fetch_sub-requires c = (search rules, search rules, leaves _ _ _ (search rules) (search rules))
