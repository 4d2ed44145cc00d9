use Rattle.ttrpc_client.proofs.Words.{rules, ◌≡◌, ◌++◌, sym}
use Rattle.ttrpc_proto.specs.Laws.{request_parts}
use Rattle.ttrpc_client.specs.Protocol.{request_bytes}
use Rattle.ttrpc_client.proofs.client.ClientCore.write_request.Goals as goal

pub returns-in-Ok-clause-ok : goal.returns-in-Ok-clause-ok
returns-in-Ok-clause-ok g c =
    let request = c.args.request.now in
    let bytes : c.in-Ok.around.before ++ (request.payload ++ c.in-Ok.around.after) ≡ request_bytes request = rw c.in-Ok.ensures.ok (sym (request_parts request)) in
    search (rules, bytes)
