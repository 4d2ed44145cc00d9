-- A client takes all that it is fed, since it asks for no room.
use Rattle.ttrpc_client.proofs.Words.{◌≡◌, arith, Client, Connection, Error, inl, inr, length, List, OutboundTransform, true, ℕ}
use Rattle.std.proofs.Common.{Err, IfOk, Ok, Result}
use Rattle.std.proofs.lemmas.Bool.{cases_lt, le-leb}
use Rattle.ttrpc_connection.specs.Feeds.{is_open}
use Rattle.ttrpc_connection.specs.OneEnd.{Takes}
use Rattle.ttrpc_client.specs.Inside.{calling}
use Rattle.ttrpc_secure.specs.declared.transform.InboundTransform.{Ghosts as InboundTransform}
use Rattle.ttrpc_connection.specs.Types.{Outbox}

pub always_open : {O I : Type 0} (out : OutboundTransform O) (in_ : InboundTransform I) (s : Client) (o : Outbox O) → is_open (calling out in_) s o ≡ true
always_open out in_ s o = le-leb _ _ (omega arith)

pub takes_all : {O I : Type 0} (out : OutboundTransform O) (in_ : InboundTransform I) (s : Client) (old : Connection O I) (piece : List ℕ) (at : ℕ) (result : Result ℕ Error) (t : Client) (new : Connection O I)
    → Takes (calling out in_) s old piece at result t new → IfOk result (λ n. n ≡ length piece)
takes_all out in_ s old piece at (Ok n) t new takes = elim (cases_lt n (length piece)) [
  | inl less ↦ absurd (let shut = takes.taken.short less in let ready = always_open out in_ t new.outbox in cc (shut, ready))
  | inr all ↦ let count = takes.taken.count in omega (arith, all, count)
]
takes_all out in_ s old piece at (Err e) t new takes = tt
