use Rattle.futures.specs.Task.{Keeps}
use Rattle.ttrpc_polled_server.specs.Needs.{CanPoll, HasAsked}
use Rattle.ttrpc_polled_server.proofs.connection.ServerConnectionFuture.poll.Given as goal

-- each handler may still be polled, the end was asked for, and it is still a poll of the same task
abbrev pub invariant-loop : goal.invariant-loop
invariant-loop g l = CanPoll g.M.Call.Future.can_poll g.T.Call.Future.can_poll l.self × HasAsked l.self l.cx × Keeps l.fn.cx l.cx
