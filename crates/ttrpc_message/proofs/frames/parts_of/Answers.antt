use Rattle.std.proofs.Common.{Ok, ap, ◌∙◌}
use Rattle.ttrpc_proto.specs.declared.framing.reading.Found.TheVariants.{Whole}
use Rattle.ttrpc_message.proofs.Told.{parts_of_frame}
use Rattle.ttrpc_message.proofs.frames.parts_of.Goals as goal

pub returns-in-Ok-Whole-Frame : goal.returns-in-Ok-Whole-Frame
returns-in-Ok-Whole-Frame c =
    let k = c.in-Ok-Whole-Frame in
    parts_of_frame k.message c.into_vec.result c.args.took (k.is ∙ ap Ok (k.field-0-is ∙ ap Whole k.field-0-0-is)) c.into_vec.ensures
