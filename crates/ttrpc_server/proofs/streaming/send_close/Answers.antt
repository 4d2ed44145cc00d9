use Rattle.ttrpc_server.proofs.Words.{rules, arith, ◌≡◌, ◌≤◌, [], subst, List, ℕ}
use Rattle.std.proofs.Common.{Err}
use Rattle.ttrpc_proto.specs.Framing.Queue.{free}
use Rattle.ttrpc_secure.specs.Halves.{MayFail}
use Rattle.ttrpc_secure.specs.Sends.{associated, joined, needed}
use Rattle.ttrpc_secure.specs.declared.sending.SendError.TheVariants.{Failed}
use Rattle.ttrpc_connection.proofs.Refusing.{room_there}
use Rattle.ttrpc_server.specs.Streaming.{IsCloseFrame}
use Rattle.ttrpc_server.proofs.Astray.{close_refused}
use Rattle.ttrpc_server.proofs.streaming.send_close.Goals as goal

pub returns-in-Err-Failed-clause-refused : goal.returns-in-Err-Failed-clause-refused
returns-in-Err-Failed-clause-refused g c =
    let out = g.O.OutboundTransform in
    let outbox = c.args.outbox.now in
    let frame = c.stream_frame-frame.result in
    let is : IsCloseFrame c.args.stream_id frame = search rules in
    let none : joined c.whole.result ≡ [] = search (rules, c.whole.ensures) in
    let failed : c.send.result ≡ Err (Failed c.in-Err-Failed.refused) = search rules in
    let refuses = c.send.ensures.refused c.in-Err-Failed.refused failed in
    let room = room_there out outbox (joined c.whole.result) c.send.result c.in-Err-Failed.refused failed (rw none (omega arith)) c.send.ensures.no_room.1 in
    close_refused out outbox c.args.stream_id frame c.in-Err-Failed.refused c.unsent_error.result is (subst (λ (p : List ℕ). needed out outbox.half p ≤ free outbox.queue) none room)
    (subst (λ (p : List ℕ). MayFail out.refuses outbox.half p (associated frame.message.header) c.in-Err-Failed.refused) none refuses) c.unsent_error.ensures
