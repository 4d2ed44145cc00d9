-- What stays the same in a run: the server's rules, its services, and the limit of its outbound half.
use Rattle.ttrpc_world.proofs.Serves.{acts_so, answered, passes_so}
use Rattle.ttrpc_world.proofs.Words.{[], ActiveJob, ActsAll, Answer, ap, Bool, Connection, Count, Cut, cut_to, Deliver, Done, EndsStream, EndStream, Entry, Err, Error, Event, ExpiresOne, Halves, header_of_frame, Hears, Incoming, inl, inr, is_over, List, MESSAGE_LENGTH_MAX, Net, None, Ok, Option, OutboundTransform, Outbox, refl, Refused, Reply, Respond, Response, Result, rules, row_leaves, Runs, safe_limit, Scene, scene, Send, SendsAll, Sent, Server, ServerCore, ServerEnd, ServerSide, serving, Some, Steps, taken_from, Tick, Ticket, ℕ, ◌-◌, ◌∙◌, ◌∷◌, ◌≡◌}
use Rattle.ttrpc_world.proofs.OneWay.{as_heard}

-- these stay, of a server's state and its outbox
pub record Constant {O : Type 0} (out : OutboundTransform O) (old : Server) (from : Outbox O) (new : Server) (to : Outbox O) : Type 0 where
  pub rules : new.rules ≡ old.rules
  pub services : new.services ≡ old.services
  pub limit : safe_limit out to.half ≡ safe_limit out from.half

limit_sent : {O : Type 0} (out : OutboundTransform O) (fixed : (s t : O) (plain aad sealed : List ℕ) → out.seals s plain aad sealed t → out.overhead t ≡ out.overhead s) (sent : List Sent) (old new : Outbox O) → SendsAll out old sent new
    → safe_limit out new.half ≡ safe_limit out old.half
limit_sent out fixed [] old new same = ap (λ (b : Outbox _). safe_limit out b.half) same
limit_sent out fixed (s ∷ sent) old new sends = limit_sent out fixed sent sends.0 new sends.2 ∙ ap (λ n. MESSAGE_LENGTH_MAX - n) (fixed _ _ _ _ _ sends.1.seal)

-- a server that is this one now
as_this : {O I : Type 0} (out : OutboundTransform O) (old new : ServerCore O I) {this : ServerCore O I} → new ≡ this → this.state.rules ≡ old.state.rules → this.state.services ≡ old.state.services → safe_limit out new.connection.outbox.half ≡ safe_limit out old.connection.outbox.half
    → Constant out old.state old.connection.outbox new.state new.connection.outbox
as_this out old new is rules services limit = record { rules = ap (λ (x : ServerCore _ _). x.state.rules) is ∙ rules; services = ap (λ (x : ServerCore _ _). x.state.services) is ∙ services; limit = limit }

stays_same : {O : Type 0} (out : OutboundTransform O) {old new : Server} {from to : Outbox O} → new ≡ old → to ≡ from → Constant out old from new to
stays_same out state outbox = record { rules = ap (λ (s : Server). s.rules) state; services = ap (λ (s : Server). s.services) state; limit = ap (λ (b : Outbox _). safe_limit out b.half) outbox }

both : {O : Type 0} {out : OutboundTransform O} {a b d : Server} {x y z : Outbox O} → Constant out a x b y → Constant out b y d z → Constant out a x d z
both one two = record { rules = two.rules ∙ one.rules; services = two.services ∙ one.services; limit = two.limit ∙ one.limit }

module _ {CO CI SO SI : Type 0} (c : Halves CO CI) (s : Halves SO SI) (seals : Bool) (fixed : (x y : SO) (plain aad sealed : List ℕ) → s.out.seals x plain aad sealed y → s.out.overhead y ≡ s.out.overhead x) where
  abbrev Stays : ServerCore SO SI → ServerCore SO SI → Type 0
  Stays old new = Constant s.out old.state old.connection.outbox new.state new.connection.outbox

  acted : (now : ℕ) (fs : List Incoming) (old new : Scene Server SO SI) → ActsAll (serving s.out s.in_) now old fs new → Constant s.out old.state old.outbox new.state new.outbox
  acted now = acts_so (serving s.out s.in_) now (λ x y. Constant s.out x.state x.outbox y.state y.outbox) (λ x. stays_same s.out refl refl) (λ f fs x y a later.
      let leaves = row_leaves s.out _ _ x.outbox.half (header_of_frame f) now a.1.sent a.0.state a.1.reacts in
      both (record { rules = leaves.rules; services = leaves.services; limit = limit_sent s.out fixed a.1.sent x.outbox a.0.outbox a.1.sends }) later)

  ended : (old : ServerCore SO SI) (id : ℕ) (result : Result (Option Response) Error) (new : ServerCore SO SI) → EndsStream s.out old id result new → safe_limit s.out new.connection.outbox.half ≡ safe_limit s.out old.connection.outbox.half
  ended old id (Ok None) new p = ap (λ n. MESSAGE_LENGTH_MAX - n) (fixed _ _ _ _ _ p.sends.2.seal)
  ended old id (Ok (Some response)) new p = limit_sent s.out fixed p.sends.0 old.connection.outbox new.connection.outbox p.sends.2
  ended old id (Err error) new p = limit_sent s.out fixed p.sends.2.0 old.connection.outbox new.connection.outbox p.sends.2.2

  -- one job expires
  expired : (old mid new : Server) (from between to : Outbox SO) (job : ActiveJob) → ExpiresOne s.out old from job mid between → Constant s.out mid between new to → Constant s.out old from new to
  expired old mid new from between to job e later =
      let first : Constant s.out old from mid between = record { rules = ap (λ (t : Server). t.rules) e.state; services = ap (λ (t : Server). t.services) e.state; limit = limit_sent s.out fixed e.sent from between e.sends } in
      both first later

  -- its input may have ended
  heard_same : (over : Bool) (old new : Connection SO SI) → Hears over old new → new.outbox ≡ old.outbox
  heard_same over old new h = as_heard (λ (y : Connection SO SI). y.outbox ≡ old.outbox) over old new h refl (λ why. refl)

  pub stepped : (w : Net CO CI SO SI) (event : Event) (reply : Reply) (v : Net CO CI SO SI) → Steps c s seals w event reply v → Stays w.server v.server
  stepped w (Answer id result) Done v p = elim (answered c s seals w.server id result v.server p.0) [
    | inl a ↦ as_this s.out w.server v.server a.1.same refl refl (limit_sent s.out fixed a.1.sent w.server.connection.outbox v.server.connection.outbox a.1.sends)
    | inr d ↦ as_this s.out w.server v.server d.2.same refl refl (ap (λ (x : ServerCore SO SI). safe_limit s.out x.connection.outbox.half) d.2.same)
  ]
  stepped w (Respond id response) Done v p = as_this s.out w.server v.server p.does.same refl refl (limit_sent s.out fixed p.does.sent w.server.connection.outbox v.server.connection.outbox p.does.sends)
  stepped w (EndStream id result) Done v p = as_this s.out w.server v.server p.0.same refl refl (ended w.server id result v.server p.0)
  stepped w (Send (ServerEnd id) item) (Ticket ticket) v p = as_this s.out w.server v.server p.0.same refl refl (ap (λ n. MESSAGE_LENGTH_MAX - n) (fixed _ _ _ _ _ p.0.sends.sends.seal))
  stepped w (Tick now) Done v p = passes_so s.out (Constant s.out) (λ a x. stays_same s.out refl refl) expired w.server.state.rules w.server.connection.failure w.server now v.server p.serves
  stepped w (Deliver ServerSide n) (Count k) v (inl p) =
      both (acted w.moment p.does.does.frames (scene w.server.state w.server.connection) (scene v.server.state p.does.mid) p.does.does.acts) (stays_same s.out refl (heard_same (is_over (taken_from w.up k)) p.does.mid v.server.connection p.does.hears))
  stepped w (Deliver ServerSide n) (Count k) v (inr p) = stays_same s.out (ap (λ (x : Net _ _ _ _). x.server.state) p.only) (heard_same (is_over w.up) w.server.connection v.server.connection p.hears)
  stepped w (Deliver ServerSide n) (Refused told) v (inl p) = both (acted w.moment p.0.frames (scene w.server.state w.server.connection) p.0.mid p.0.acts) (stays_same s.out p.0.state p.0.outbox)
  stepped w (Deliver to n) (Refused told) v (inr p) = stays_same s.out (ap (λ (x : Net _ _ _ _). x.server.state) p.1) (ap (λ (x : Net _ _ _ _). x.server.connection.outbox) p.1)
  stepped w (Cut ServerSide keep) Done v p =
      stays_same s.out (ap (λ (x : Net _ _ _ _). x.server.state) p.only)
      (ap (λ (x : Net _ _ _ _). x.server.connection.outbox) p.only ∙ heard_same (is_over (cut_to w.up keep)) w.server.connection p.connection p.hears)
  stepped w event reply v p = record { rules = first_of (cc, search rules); services = first_of (cc, search rules); limit = first_of (cc, search rules) }

  -- in any run
  pub constant : (w : Net CO CI SO SI) (trace : List Entry) (v : Net CO CI SO SI) → Runs c s seals w trace v → Stays w.server v.server
  constant w [] v same = stays_same s.out (ap (λ (x : Net _ _ _ _). x.server.state) same) (ap (λ (x : Net _ _ _ _). x.server.connection.outbox) same)
  constant w (e ∷ trace) v r = both (stepped w e.event e.reply r.0 r.1) (constant r.0 trace v r.2)
