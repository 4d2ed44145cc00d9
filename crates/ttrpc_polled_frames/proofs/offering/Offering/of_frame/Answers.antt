use Rattle.std.proofs.Common.{refl, rules}
use Rattle.ttrpc_proto.specs.Framing.Header.{header_bytes}
use Rattle.ttrpc_polled_frames.proofs.Parts.{parts_are_all}
use Rattle.ttrpc_polled_frames.proofs.offering.Offering.of_frame.Goals as goal

pub returns : goal.returns
returns g c = (refl, parts_are_all 4086 (header_bytes c.args.header.now) (g.P.HasBytes.bytes c.args.payload) c.in_ok-first.first.items (search rules))
