use Rattle.ttrpc_polled_frames.proofs.Pieces.{gave_none, gave_one}
use Rattle.ttrpc_polled_frames.proofs.taking.feed.Goals as goal

pub returns-in-Ok-default-Some-clause-took : goal.returns-in-Ok-default-Some-clause-took
returns-in-Ok-default-Some-clause-took c =
    let gave = c.in-Ok-default-Some in
    gave_one _ _ _ _ _ _ gave.field-0-1-is (gave.ensures.all c.requires) gave.ensures.frames (gave.ensures.at_its_end _ gave.field-0-1-is)

pub returns-in-Ok-default-None-clause-more : goal.returns-in-Ok-default-None-clause-more
returns-in-Ok-default-None-clause-more c =
    let gave = c.in-Ok-default-None in
    gave_none _ _ _ _ _ gave.field-0-1-is (gave.ensures.all c.requires) gave.ensures.frames
