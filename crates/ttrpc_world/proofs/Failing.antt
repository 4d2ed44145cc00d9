-- How a side fails in a run: no step clears a failure, and what is told of one is no end of a stream.
use Rattle.ttrpc_world.proofs.OneWay.{either_way}
use Rattle.ttrpc_world.proofs.Serves.{answered}
use Rattle.ttrpc_world.proofs.Words.{[], ActiveJob, Answer, ap, AsyncRules, Bool, call_at, calling, CancelledDuringWrite, ClientCore, ClientSide, Connection, Count, Cut, cut_to, DeadlineDuringWrite, Deliver, Disconnected, DisconnectedInside, Done, DropCall, due_at, error_of, Event, Fail, failed_by_hand, Failure, false, first_failure, Halves, has_begun, Hears, if◌then◌else◌, Incoming, inl, inr, is_over, IsFresh, IsPlain, IsPlainFailure, IsWhy, List, Lives, nat_eq, Net, None, Option, Passes, refl, Refused, Reply, Rules, rules, Scene, ServerCore, ServerPasses, ServerSide, serving, Some, Steps, subst, sym, SyncRules, taken_back, taken_from, takes_back, throws, Tick, Told, told, true, LeavesDue, Outbox, OutboundTransform, Ways, ℕ, ◌∙◌, ◌∷◌, ◌≡◌}

-- what becomes of the failure of a side: it is kept, and one that is no end stays so
pub record Fails (old new : Option Failure) : Type 0 where
  pub lives : new ≡ None → old ≡ None
  pub plain : IsPlainFailure old → IsPlainFailure new

same_plain : {old new : Option Failure} → new ≡ old → IsPlainFailure old → IsPlainFailure new
same_plain e h = subst IsPlainFailure (sym e) h

-- nothing; or the side lived, and what there is now is no end
same_fails : {old new : Option Failure} → new ≡ old → Fails old new
same_fails e = record { lives = λ n. sym e ∙ n; plain = same_plain e }

lived_fails : {old new : Option Failure} → old ≡ None → IsPlainFailure new → Fails old new
lived_fails alive plain = record { lives = λ n. alive; plain = λ h. plain }

fails_as : {old new new2 : Option Failure} → new2 ≡ new → Fails old new → Fails old new2
fails_as {old} e f = subst (λ (x : Option Failure). Fails old x) (sym e) f

-- it fails by this, unless it had failed
first_fails : (old : Option Failure) (why : Failure) → IsPlain (error_of why) → Fails old (first_failure old why)
first_fails None why plain = lived_fails refl plain
first_fails (Some first) why plain = same_fails refl

if_fails : (b : Bool) (old : Option Failure) (why : Failure) → IsPlain (error_of why) → Fails old (if b then first_failure old why else old)
if_fails true old why plain = first_fails old why plain
if_fails false old why plain = same_fails refl

-- requests are taken back
back_fails : {O I : Type 0} (b : Bool) (c : Connection O I) (ids : ℕ → Bool) (why : Failure) → IsPlain (error_of why) → Fails c.failure (if b then taken_back c ids why else c).failure
back_fails true c ids why plain = if_fails (has_begun c.outbox.queue ids) c.failure why plain
back_fails false c ids why plain = same_fails refl

-- the input may end
heard_fails : {O I : Type 0} (over : Bool) (old new : Connection O I) → Hears over old new → Fails old.failure new.failure
heard_fails true old new h = either_way old.decoder
    (λ none. fails_as (ap (λ (d : Connection _ _). d.failure) (h.between none)) (first_fails old.failure Disconnected (λ m. refl)))
    (λ some. fails_as (ap (λ (d : Connection _ _). d.failure) (h.inside some)) (first_fails old.failure DisconnectedInside (λ m. refl)))
heard_fails false old new h = same_fails (ap (λ (d : Connection _ _). d.failure) h)

-- why jobs that are due are left
leaves_plain : {O : Type 0} (out : OutboundTransform O) (left : List ActiveJob) (o : Outbox O) (failure : Option Failure) → LeavesDue out left o failure → IsPlainFailure failure
leaves_plain out [] o failure none = same_plain none tt
leaves_plain out (j ∷ js) o failure (inl short) = same_plain short.1 tt
leaves_plain out (j ∷ js) o failure (inr wanted) = same_plain wanted.1 (λ m. refl)

-- why a side fails while it is fed: want of memory, or what its core says
why_plain : {S O I : Type 0} (w : Ways S O I) (now : ℕ) (mid : Scene S O I) (last : Option Incoming) (failure : Failure) (inbound : I) → ((s : S) (a : _) → w.core.fails s a failure → IsPlain (error_of failure)) → IsWhy w now mid last failure inbound → IsPlain (error_of failure)
why_plain w now mid None failure inbound core why = subst (λ (x : Failure). IsPlain (error_of x)) (sym why.0) (λ m. refl)
why_plain w now mid (Some f) failure inbound core (inl why) = subst (λ (x : Failure). IsPlain (error_of x)) (sym why.0) (λ m. refl)
why_plain w now mid (Some f) failure inbound core (inr (opening, opens, inl why)) = subst (λ (x : Failure). IsPlain (error_of x)) (sym why) (λ m. refl)
why_plain w now mid (Some f) failure inbound core (inr (opening, opens, inr why)) = core mid.state _ why

-- no side has failed so that it is an end
pub record ArePlain {CO CI SO SI : Type 0} (w : Net CO CI SO SI) : Type 0 where
  pub client : IsPlainFailure w.client.connection.failure
  pub server : IsPlainFailure w.server.connection.failure

-- of both sides
record BothFail {CO CI SO SI : Type 0} (w v : Net CO CI SO SI) : Type 0 where
  client : Fails w.client.connection.failure v.client.connection.failure
  server : Fails w.server.connection.failure v.server.connection.failure

module _ {CO CI SO SI : Type 0} (c : Halves CO CI) (s : Halves SO SI) (seals : Bool) where
  -- the client changed, or the server
  by_client : (w v : Net CO CI SO SI) → v.server.connection.failure ≡ w.server.connection.failure → Fails w.client.connection.failure v.client.connection.failure → BothFail w v
  by_client w v server client = record { client = client; server = same_fails server }

  by_server : (w v : Net CO CI SO SI) → v.client.connection.failure ≡ w.client.connection.failure → Fails w.server.connection.failure v.server.connection.failure → BothFail w v
  by_server w v client server = record { client = same_fails client; server = server }

  passes_client : (failure : Option Failure) (old : ClientCore CO CI) (now : ℕ) (new : ClientCore CO CI) → Passes seals failure old now new → Fails old.connection.failure new.connection.failure
  passes_client None old now new p =
      fails_as (ap (λ (d : Connection CO CI). d.failure) p.connection) (back_fails (throws old.state.kind seals) old.connection (λ id. due_at now (call_at old.state id)) DeadlineDuringWrite (λ m. refl))
  passes_client (Some why) old now new same = same_fails (ap (λ (x : ClientCore CO CI). x.connection.failure) same)

  passes_server : (r : Rules) (failure : Option Failure) (old : ServerCore SO SI) (now : ℕ) (new : ServerCore SO SI) → old.connection.failure ≡ failure → ServerPasses s.out r failure old now new → Fails old.connection.failure new.connection.failure
  passes_server SyncRules failure old now new e same = same_fails (ap (λ (x : ServerCore SO SI). x.connection.failure) same)
  passes_server AsyncRules None old now new e p = lived_fails e (leaves_plain s.out p.left new.connection.outbox new.connection.failure p.leaves)
  passes_server AsyncRules (Some why) old now new e same = same_fails (ap (λ (x : ServerCore SO SI). x.connection.failure) same)

  -- WHAT A STEP DOES TO THE FAILURES.
  fails : (w : Net CO CI SO SI) (event : Event) (reply : Reply) (v : Net CO CI SO SI) → Steps c s seals w event reply v → BothFail w v
  fails w (DropCall id) Done v p =
      by_client w v (ap (λ (x : Net _ _ _ _). x.server.connection.failure) p.only)
      (fails_as (ap (λ (x : ClientCore CO CI). x.connection.failure) p.does.same) (back_fails (takes_back seals w.client id) w.client.connection (λ k. nat_eq k id) CancelledDuringWrite (λ m. refl)))
  fails w (Answer id result) Done v p = by_server w v (ap (λ (x : Net _ _ _ _). x.client.connection.failure) p.1) (elim (answered c s seals w.server id result v.server p.0) [
    | inl a ↦ same_fails (ap (λ (x : ServerCore SO SI). x.connection.failure) a.1.same)
    | inr d ↦ lived_fails d.2.alive (same_plain (ap (λ (x : ServerCore SO SI). x.connection.failure) d.2.same) (λ m. refl))
  ])
  fails w (Tick now) Done v p = record {
    client = passes_client w.client.connection.failure w.client now v.client p.does;
    server = passes_server w.server.state.rules w.server.connection.failure w.server now v.server refl p.serves;
  }
  fails w (Deliver ServerSide n) (Count k) v (inl p) =
      by_server w v (ap (λ (x : Net _ _ _ _). x.client.connection.failure) p.only)
      (lived_fails p.does.does.alive ((heard_fails (is_over (taken_from w.up k)) p.does.mid v.server.connection p.does.hears).plain (same_plain p.does.does.still tt)))
  fails w (Deliver ServerSide n) (Count k) v (inr p) = by_server w v (ap (λ (x : Net _ _ _ _). x.client.connection.failure) p.only) (heard_fails (is_over w.up) w.server.connection v.server.connection p.hears)
  fails w (Deliver ServerSide n) (Refused told) v (inl p) =
      by_server w v (ap (λ (x : Net _ _ _ _). x.client.connection.failure) p.1) (lived_fails p.0.alive (same_plain p.0.fails (why_plain (serving s.out s.in_) w.moment p.0.mid p.0.last p.0.failure v.server.connection.inbound (λ x a used. subst (λ (y : Failure). IsPlain (error_of y)) (sym used.failure_is) (λ m. refl)) p.0.why)))
  fails w (Deliver ClientSide n) (Count k) v p =
      by_client w v (ap (λ (x : Net _ _ _ _). x.server.connection.failure) p.only)
      (lived_fails p.does.does.alive ((heard_fails (is_over (taken_from w.down k)) p.does.mid v.client.connection p.does.hears).plain (same_plain p.does.does.still tt)))
  fails w (Deliver ClientSide n) (Refused told) v (inl p) =
      by_client w v (ap (λ (x : Net _ _ _ _). x.server.connection.failure) p.1) (lived_fails p.0.alive (same_plain p.0.fails (why_plain (calling c.out c.in_) 0 p.0.mid p.0.last p.0.failure v.client.connection.inbound (λ x a never. absurd never) p.0.why)))
  fails w (Cut ServerSide keep) Done v p =
      by_server w v (ap (λ (x : Net _ _ _ _). x.client.connection.failure) p.only)
      (fails_as (ap (λ (x : Net _ _ _ _). x.server.connection.failure) p.only) (heard_fails (is_over (cut_to w.up keep)) w.server.connection p.connection p.hears))
  fails w (Cut ClientSide keep) Done v p =
      by_client w v (ap (λ (x : Net _ _ _ _). x.server.connection.failure) p.only)
      (fails_as (ap (λ (x : Net _ _ _ _). x.client.connection.failure) p.only) (heard_fails (is_over (cut_to w.down keep)) w.client.connection p.connection p.hears))
  fails w (Fail ClientSide) Done v p = subst (λ (x : Net CO CI SO SI). BothFail w x) (sym p) (record { client = first_fails w.client.connection.failure (Told failed_by_hand) (λ m. refl); server = same_fails refl })
  fails w (Fail ServerSide) Done v p = subst (λ (x : Net CO CI SO SI). BothFail w x) (sym p) (record { client = same_fails refl; server = first_fails w.server.connection.failure (Told failed_by_hand) (λ m. refl) })
  fails w (Deliver to n) (Refused told) v (inr p) = subst (λ (x : Net CO CI SO SI). BothFail w x) (sym p.1) (record { client = same_fails refl; server = same_fails refl })
  fails w event reply v p =
      let client : v.client.connection.failure ≡ w.client.connection.failure = first_of (cc, search rules) in
      let server : v.server.connection.failure ≡ w.server.connection.failure = first_of (cc, search rules) in
      record { client = same_fails client; server = same_fails server }

  -- No failure becomes an end.
  pub plainly : (w : Net CO CI SO SI) (event : Event) (reply : Reply) (v : Net CO CI SO SI) → Steps c s seals w event reply v → ArePlain w → ArePlain v
  plainly w event reply v p h = let f = fails w event reply v p in record { client = f.client.plain h.client; server = f.server.plain h.server }

  -- NO STEP CLEARS A FAILURE: who lives behind it lived before it.
  pub lives_back : (w : Net CO CI SO SI) (event : Event) (reply : Reply) (v : Net CO CI SO SI) → Steps c s seals w event reply v → Lives v → Lives w
  lives_back w event reply v p h = let f = fails w event reply v p in record { client = f.client.lives h.client; server = f.server.lives h.server }

pub fresh_plain : {CO CI SO SI : Type 0} {c : Halves CO CI} {s : Halves SO SI} {w : Net CO CI SO SI} → IsFresh c s w → ArePlain w
fresh_plain n = record {
  client = same_plain (ap (λ (x : ClientCore _ _). x.connection.failure) n.client) tt;
  server = same_plain (ap (λ (x : ServerCore _ _). x.connection.failure) n.server) tt;
}
