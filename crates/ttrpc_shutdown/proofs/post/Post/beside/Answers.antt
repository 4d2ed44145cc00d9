use Rattle.std.proofs.Common.{rules}
use Rattle.ttrpc_shutdown.proofs.Keeps.{parts, adds}
use Rattle.ttrpc_shutdown.proofs.post.Post.beside.Goals as goal

pub split_seat-seat-requires : goal.split_seat-seat-requires
split_seat-seat-requires c = (search rules, search rules, parts _ _)

pub fetch_add-before-requires : goal.fetch_add-before-requires
fetch_add-before-requires c = (search rules, search rules, adds _ _ _ (search rules) (search rules))
