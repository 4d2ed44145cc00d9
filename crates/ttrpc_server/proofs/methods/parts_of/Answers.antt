use Rattle.std.proofs.Common.{lit<}
use Rattle.std.proofs.lemmas.Option.{MatchOption-at_none, MatchOption-at_some}
use Rattle.std.proofs.lemmas.Str.Pattern.{strip_prefix_char}
use Rattle.ttrpc_server.proofs.Paths.{divided, unslashed}
use Rattle.ttrpc_server.proofs.methods.parts_of.Goals as goal

pub returns-in_err-strip_prefix : goal.returns-in_err-strip_prefix
returns-in_err-strip_prefix c =
    let stripped = strip_prefix_char 47 c.args.path.now c.strip_prefix.result c.strip_prefix.ensures.cases (lit< tt) in
    rw c.from_residual.ensures (unslashed c.args.path.now (MatchOption-at_none _ _ c.in_err-strip_prefix.was stripped))

pub returns : goal.returns
returns c =
    let stripped = strip_prefix_char 47 c.args.path.now c.strip_prefix.result c.strip_prefix.ensures.cases (lit< tt) in
    divided c.args.path.now c.in_ok-strip_prefix.field-0.now c.rsplit_once.result (MatchOption-at_some _ _ c.in_ok-strip_prefix.field-0 c.in_ok-strip_prefix.was stripped) c.rsplit_once.ensures.cases
