use Rattle.std.proofs.Common.{ap, ◌∙◌, ◌≡◌, Ok, rules}
use Rattle.futures.specs.declared.task.Poll.TheVariants.{Ready}
use Rattle.ttrpc_polled_frames.proofs.Pieces.{gives_none, gives_some, takes_end}
use Rattle.ttrpc_polled_frames.proofs.taking.Taking.poll_into.Goals as goal

pub returns-in-Ready-Ok-eq0-clause-took : goal.returns-in-Ready-Ok-eq0-clause-took
returns-in-Ready-Ok-eq0-clause-took g c =
    let none : c.poll_read.result ≡ Ready (Ok 0) = search rules in
    takes_end _ _ _ _ _ _ _ _ _ none c.poll_read.ensures.bytes (c.poll_read.ensures.end none c.requires.some) c.cut.ensures

pub returns-in-Ready-Ok-clause-took : goal.returns-in-Ready-Ok-clause-took
returns-in-Ready-Ok-clause-took g c =
    let some = c.in-Ready-Ok.is ∙ ap Ready (c.in-Ready-Ok.field-0-is ∙ ap Ok c.in-Ready-Ok.count-is) in
    gives_some _ _ _ _ _ _ _ _ _ _ _ some c.poll_read.ensures.bytes c.front.ensures c.feed.ensures.took

pub returns-in-Ready-Ok-clause-none : goal.returns-in-Ready-Ok-clause-none
returns-in-Ready-Ok-clause-none g c =
    let some = c.in-Ready-Ok.is ∙ ap Ready (c.in-Ready-Ok.field-0-is ∙ ap Ok c.in-Ready-Ok.count-is) in
    gives_none _ _ _ _ _ _ _ _ _ _ some c.poll_read.ensures.bytes c.front.ensures c.feed.ensures.more
