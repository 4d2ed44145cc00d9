-- A call that was asked for has begun, waits for room, or was refused.
use Rattle.std.proofs.Common.{◌≡◌, ℕ, Option, Result, Ok, Err, inl, inr}
use Rattle.std.specs.Prelude.{IfOk, IfErr, OnErr}
use Rattle.ttrpc_proto.specs.declared.error.Error.{Error}
use Rattle.ttrpc_proto.specs.declared.error.Error.TheVariants.{Socket, RpcStatus, Nix, LocalClosed, RemoteClosed, Eof, Others, NoMemory, NoRoom}
use Rattle.ttrpc_proto.specs.declared.messages.Request.{Request}
use Rattle.ttrpc_proto.specs.declared.messages.Response.{Response}
use Rattle.ttrpc_secure.specs.declared.transform.OutboundTransform.{Ghosts as OutboundTransform}
use Rattle.ttrpc_client.specs.declared.client.ClientCore.{ClientCore}
use Rattle.ttrpc_client.specs.Protocol.{RefusesRequest, Requests}
use Rattle.ttrpc_polled_client.specs.declared.asked.Asked.{Asked}
use Rattle.ttrpc_polled_client.specs.Steps.{Begins, IsAsked}

pub begins : {O I : Type 0} (out : OutboundTransform O) (call : Asked) (old : ClientCore O I) (request : Request) (now : ℕ) (result : Result ℕ Error) (given : Option (Result Response Error)) (after : Asked) (new : ClientCore O I)
    → IsAsked result call given after → IfOk result (λ id. Requests out old request now id new) → IfErr result (RefusesRequest out old request) → OnErr result (new ≡ old)
    → Begins out call old request now given after new
begins out call old request now (Ok id) given after new asked made refused stays = rw asked.0 (inl (id, asked.1, made))
begins out call old request now (Err NoRoom) given after new asked made refused stays = rw asked.0 (inr (asked.1, stays, refused))
begins out call old request now (Err (Socket text)) given after new asked made refused stays = rw asked.0 (asked.1, stays, refused, λ same. cc)
begins out call old request now (Err (RpcStatus status)) given after new asked made refused stays = rw asked.0 (asked.1, stays, refused, λ same. cc)
begins out call old request now (Err (Nix kind)) given after new asked made refused stays = rw asked.0 (asked.1, stays, refused, λ same. cc)
begins out call old request now (Err LocalClosed) given after new asked made refused stays = rw asked.0 (asked.1, stays, refused, λ same. cc)
begins out call old request now (Err RemoteClosed) given after new asked made refused stays = rw asked.0 (asked.1, stays, refused, λ same. cc)
begins out call old request now (Err Eof) given after new asked made refused stays = rw asked.0 (asked.1, stays, refused, λ same. cc)
begins out call old request now (Err (Others text)) given after new asked made refused stays = rw asked.0 (asked.1, stays, refused, λ same. cc)
begins out call old request now (Err NoMemory) given after new asked made refused stays = rw asked.0 (asked.1, stays, refused, λ same. cc)
