use Rattle.ttrpc_client.proofs.Words.{rules}
use Rattle.ttrpc_secure.specs.Sends.{joined}
use Rattle.ttrpc_client.specs.Protocol.{IsRequestFrame}
use Rattle.ttrpc_client.proofs.Entered.{may_refuse}
use Rattle.ttrpc_client.proofs.client.ClientCore.begin.Goals as goal

pub returns-in-Err-Failed-clause-refused : goal.returns-in-Err-Failed-clause-refused
returns-in-Err-Failed-clause-refused g c =
    may_refuse g.O.OutboundTransform c.args.self.now (IsRequestFrame c.args.id) (joined c.args.parts) c.request_frame-frame.result c.in-Err-Failed.error c.request_frame-frame.ensures
    (c.send.ensures.refused c.in-Err-Failed.error (search rules))

pub send-requires : goal.send-requires
send-requires g c = rw c.request_frame-frame.ensures.ticket tt
