-- What is told of a whole frame.
use Rattle.std.proofs.Common.{◌≡◌, Result, Ok, refl, sym, subst}
use Rattle.std.specs.Global.{Vec}
use Rattle.std.proofs.Common.{ℕ}
use Rattle.ttrpc_proto.specs.declared.framing.failure.StreamFailure.{StreamFailure}
use Rattle.ttrpc_proto.specs.declared.framing.frame.Incoming.TheVariants.{Frame}
use Rattle.ttrpc_proto.specs.declared.framing.gen_message.GenMessage.{GenMessage}
use Rattle.ttrpc_proto.specs.declared.framing.reading.Found.{Found}
use Rattle.ttrpc_proto.specs.declared.framing.reading.Found.TheVariants.{Whole}
use Rattle.ttrpc_message.specs.Messages.{ArePartsOf}

pub parts_of_frame : (m : GenMessage) (bytes : Vec ℕ) (took : Result Found StreamFailure) → took ≡ Ok (Whole (Frame m)) → bytes.items ≡ m.payload → ArePartsOf (Ok (m.header, Ok bytes)) took
parts_of_frame m bytes took is same = subst (λ (t : Result Found StreamFailure). ArePartsOf (Ok (m.header, Ok bytes)) t) (sym is) (bytes, refl, same)
