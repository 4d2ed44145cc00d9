-- Requests are thrown away: what stays in flight to the server.
use Rattle.ttrpc_world.proofs.Words.{[], all_behind, all_thrown, AllByRecursion, ap, AreLinked, begun_count, Bool, cases_Bool, Connection, Failure, false, first_failure, Flying, flying_without, has_begun, id_of, if◌then◌else◌, InboundTransform, inl, inr, IsOwned, length, List, None, Option, OutboundTransform, Outbox, parcels, parcels_thrown, parcels_thrown_elsewhere, Pipe, refl, Some, subst, sym, taken_back, thrown_in_flight, thrown_linked, true, under_both, without, ℕ, ◌++◌, ◌∙◌, ◌≡◌, ◌≤◌, ◌⊎◌}
use Rattle.ttrpc_world.proofs.Numbers.{Between, thrown_between}
use Rattle.ttrpc_world.proofs.OneWay.{dead, InFlight, not_both, OneWay}

-- of an id the flights are the same, or none where it is one of the owners
abbrev pub PartsOf : (ℕ → Bool) → ℕ → List Flying → List Flying → Type 0
PartsOf owners k flights left = (parcels k left ≡ parcels k flights) ⊎ ((owners k ≡ true) × (parcels k left ≡ []))

-- What is left of the flights still is in flight over the outbox that is left, and their ids rise as they did.
pub record Thrown {XO YO YI : Type 0} (out : OutboundTransform XO) (in_ : InboundTransform YI) (owners : ℕ → Bool) (x : Outbox XO) (y : Connection YO YI) (p : Pipe) (flights : List Flying) : Type 0 where
  pub left : List Flying
  pub parts : (k : ℕ) → PartsOf owners k flights left
  pub own : AllByRecursion IsOwned left
  pub rising : (low high : ℕ) → Between low flights high → Between low left high
  pub way : OneWay out in_ x y p left

-- at most one flight has the id of an owner
abbrev pub AreSingle : (ℕ → Bool) → List Flying → Type 0
AreSingle owners flights = (k : ℕ) → owners k ≡ true → length (parcels k flights) ≤ 1

parts_of : (owners : ℕ → Bool) (k n : ℕ) (transit queued : List Flying) → AreSingle owners (transit ++ queued) → AllByRecursion IsOwned (transit ++ queued) → PartsOf owners k (transit ++ queued) (transit ++ flying_without owners n queued)
parts_of owners k n transit queued single own = elim (cases_Bool (owners k)) [
  | inl e ↦ elim (parcels_thrown k owners n transit queued (single k e)) [ inl h ↦ inl h | inr h ↦ inr (e, h) ]
  | inr e ↦ inl (under_both id_of k transit (flying_without owners n queued)
      ∙ ap (λ xs. parcels k transit ++ xs) (parcels_thrown_elsewhere k owners n queued e (all_behind IsOwned transit queued own))
      ∙ sym (under_both id_of k transit queued))
]

module _ {XO YO YI : Type 0} (out : OutboundTransform XO) (in_ : InboundTransform YI) (x : Outbox XO) (y : Connection YO YI) (p : Pipe) (flights : List Flying) where
  -- nothing is thrown away
  unfoldable pub nothing_thrown : (owners : ℕ → Bool) → AllByRecursion IsOwned flights → OneWay out in_ x y p flights → Thrown out in_ owners x y p flights
  nothing_thrown owners own way = record { left = flights; parts = λ k. inl refl; own = own; rising = λ low high b. b; way = way }

module _ {XO YO YI : Type 0} (out : OutboundTransform XO) (in_ : InboundTransform YI) (x : Outbox XO) (y : Connection YO YI) (p : Pipe) (flights : List Flying) where
  lives_thrown : (still : (s t : XO) (plain aad sealed : List ℕ) → out.seals s plain aad sealed t → t ≡ s) (owners : ℕ → Bool) → AreSingle owners flights → AllByRecursion IsOwned flights → InFlight y.decoder p x.queue flights
      → AreLinked out.seals in_.opens in_.refuses flights x.half y.inbound → Thrown out in_ owners (record x { queue = without x.queue owners }) y p flights
  lives_thrown still owners single own b l =
      let n : ℕ = begun_count x.queue in
      let rest : List Flying = flying_without owners n b.queued in
      record {
        left = b.transit ++ rest;
        parts = λ k. subst (λ (xs : List Flying). PartsOf owners k xs (b.transit ++ rest)) b.all (parts_of owners k n b.transit b.queued (rw b.all single) (rw b.all own));
        own = all_thrown IsOwned owners n b.transit b.queued (rw b.all own);
        rising = λ low high between. thrown_between owners n b.transit b.queued low high (rw b.all between);
        way = record {
          bytes = λ alive. record { transit = b.transit; queued = rest; all = refl; bytes = thrown_in_flight y.decoder p.bytes p.cut x.queue b.transit b.queued owners b.bytes };
          linked = λ alive. thrown_linked out.seals still in_.opens in_.refuses b.transit b.queued x.half y.inbound owners n (rw b.all l);
        };
      }

  -- to a side that failed nothing need be in flight
  pub some_thrown : (failure : Option Failure) → y.failure ≡ failure → (still : (s t : XO) (plain aad sealed : List ℕ) → out.seals s plain aad sealed t → t ≡ s) (owners : ℕ → Bool) → AreSingle owners flights → AllByRecursion IsOwned flights
      → OneWay out in_ x y p flights → Thrown out in_ owners (record x { queue = without x.queue owners }) y p flights
  some_thrown None alive still owners single own way = lives_thrown still owners single own (way.bytes alive) (way.linked alive)
  some_thrown (Some why) failed still owners single own way = nothing_thrown out in_ _ y p flights owners own (dead out in_ _ y p flights (λ alive. not_both y.failure why failed alive))

-- ---- what taking requests back leaves of the connection

-- its decoder and its inbound half, and it hasn't failed before where it hasn't now
pub record Stays {O I : Type 0} (old new : Connection O I) : Type 0 where
  pub decoder : new.decoder ≡ old.decoder
  pub inbound : new.inbound ≡ old.inbound
  pub lives : new.failure ≡ None → old.failure ≡ None

kept_lives : (begun : Bool) (failure : Option Failure) (why : Failure) → (if begun then first_failure failure why else failure) ≡ None → failure ≡ None
kept_lives false failure why e = e
kept_lives true None why e = refl
kept_lives true (Some first) why e = e

pub back_stays : {O I : Type 0} (b : Bool) (c : Connection O I) (ids : ℕ → Bool) (why : Failure) → Stays c (if b then taken_back c ids why else c)
back_stays true c ids why = record { decoder = refl; inbound = refl; lives = kept_lives (has_begun c.outbox.queue ids) c.failure why }
back_stays false c ids why = record { decoder = refl; inbound = refl; lives = λ e. e }
