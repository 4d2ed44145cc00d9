use Rattle.ttrpc_client.proofs.Ticking.{tick_frames}
use Rattle.ttrpc_client.proofs.laws.a_tick_leaves_no_due_request.Goals as goal

pub returns : goal.returns
returns g c = λ old new now throws_is ticks. tick_frames g.O.OutboundTransform.SEALS old new now throws_is ticks
