use Rattle.ttrpc_proto.proofs.Departures.{bytes_are_written, all_are_accounted, thrown_are_requests}
use Rattle.ttrpc_proto.proofs.framing.outgoing.departing_frames_are_written.Goals as goal

pub returns : goal.returns
returns c = record {
  written = λ q hs valid may. bytes_are_written hs q valid may;
  in_order = λ q hs. all_are_accounted hs q;
  only_requests = λ q hs. thrown_are_requests hs q;
}
