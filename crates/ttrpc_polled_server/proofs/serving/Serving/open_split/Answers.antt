use Rattle.std.proofs.lemmas.Result.{IfOk-weaker}
use Rattle.ttrpc_polled_server.proofs.serving.Serving.open_split.Goals as goal

pub returns-clause-opened : goal.returns-clause-opened
returns-clause-opened g c =
    IfOk-weaker c.open.result _ _ (λ made is. (c.in_ok-reader.reader, c.in_ok-reader.writer, is)) c.open.ensures.opened
