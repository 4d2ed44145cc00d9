-- What callers were told, entry by entry: each status is put in, and none is lost.
use Rattle.std.proofs.Common.{◌≡◌, ◌<◌, ◌+◌, ◌∷◌, ◌∙◌, ℕ, List, [], All, Contains, Ok, Some, ap, get_or, inl, inr, length, map, refl, subst, sym, take}
use Rattle.std.proofs.lemmas.List.Elements.{All-cons, All-head, All-more, All-tail, All-weaker, Contains-get_or}
use Rattle.std.proofs.lemmas.Map.Lookups.{exact_unsigned}
use Rattle.std.specs.BTreeMap.{insert_entry}
use Rattle.std.specs.Ordering.{match_ordering, nat_cmp}
use Rattle.std.specs.declared.cmp.Ordering.{Ordering}
use Rattle.std.specs.declared.cmp.Ordering.TheVariants.{Equal, Greater, Less}
use Rattle.ttrpc_proto.specs.declared.messages.Request.{Request}
use Rattle.ttrpc_proto.specs.declared.messages.Response.{Response}
use Rattle.ttrpc_world_trace.specs.declared.events.Entry.{Entry}
use Rattle.ttrpc_world_trace.specs.declared.events.Event.{Event}
use Rattle.ttrpc_world_trace.specs.declared.events.Event.TheVariants.{Outcome}
use Rattle.ttrpc_world_trace.specs.declared.events.Reply.TheVariants.{Outcome as Given}
use Rattle.health_stub.specs.declared.messages.HealthCheckResponse.{HealthCheckResponse}
use Rattle.health_stub.specs.Health.{response_in}
use Rattle.health_stub.specs.Report.{IsCheckCall}
use Rattle.health_stub.specs.Scan.{HasStatus, IsToldTo, Told}
use Rattle.health_stub.proofs.Members.{first, first_or_later, later}

abbrev ids : Told → List ℕ
ids told = map (λ (x : ℕ × HealthCheckResponse). x.0) told

-- ---- one more is put in

module _ (id : ℕ) (value : HealthCheckResponse) where
  abbrev put_in : Told → Told
  put_in told = insert_entry nat_cmp told id value

  has_new : (told : Told) → Contains (ids (put_in told)) id
  has_new [] = first id []
  has_new (x ∷ told) = by (nat_cmp id x.0) refl (has_new told)
    where
      by : (r : Ordering) → nat_cmp id x.0 ≡ r → Contains (ids (put_in told)) id → Contains (ids (match_ordering r ((id, value) ∷ x ∷ told) ((x.0, value) ∷ told) (x ∷ put_in told))) id
      by Less is rest = first id (ids (x ∷ told))
      by Equal is rest = subst (λ (k : ℕ). Contains (k ∷ ids told) id) (exact_unsigned id x.0 is) (first id (ids told))
      by Greater is rest = later x.0 id (ids (put_in told)) rest

  has_old : (told : Told) (k : ℕ) → Contains (ids told) k → Contains (ids (put_in told)) k
  has_old [] k h = later id k [] h
  has_old (x ∷ told) k h = by (nat_cmp id x.0) (has_old told k)
    where
      by : (r : Ordering) → (Contains (ids told) k → Contains (ids (put_in told)) k) → Contains (ids (match_ordering r ((id, value) ∷ x ∷ told) ((x.0, value) ∷ told) (x ∷ put_in told))) k
      by Less rest = later id k (ids (x ∷ told)) h
      by Equal rest = h
      by Greater rest = elim (first_or_later x.0 k (ids told) h) [
        | inl is ↦ subst (λ (j : ℕ). Contains (x.0 ∷ ids (put_in told)) j) is (first x.0 (ids (put_in told)))
        | inr more ↦ later x.0 k (ids (put_in told)) (rest more)
      ]

  all_put : (P : ℕ × HealthCheckResponse → Type 0) (told : Told) → All P told → P (id, value) → All P (put_in told)
  all_put P [] h new = All-cons P (id, value) [] new h
  all_put P (x ∷ told) h new = by (nat_cmp id x.0) refl (all_put P told (All-tail P x told h) new)
    where
      by : (r : Ordering) → nat_cmp id x.0 ≡ r → All P (put_in told) → All P (match_ordering r ((id, value) ∷ x ∷ told) ((x.0, value) ∷ told) (x ∷ put_in told))
      by Less is rest = All-cons P (id, value) (x ∷ told) new h
      by Equal is rest = All-cons P (x.0, value) told (subst (λ (k : ℕ). P (k, value)) (exact_unsigned id x.0 is) new) (All-tail P x told h)
      by Greater is rest = All-cons P x (put_in told) (All-head P x told h) rest

-- ---- one more entry is gone over

-- what there is once the first entries were gone over
pub record AreToldBy (trace : List Entry) (i : ℕ) (told : Told) : Type 0 where
  pub every : All (HasStatus trace told) (take i trace)
  pub no_other : All (λ (x : ℕ × HealthCheckResponse). IsToldTo trace x.0 x.1) told

abbrev pub id_of : Event → ℕ → ℕ
id_of (Outcome id) other = id
id_of event other = other

module _ (trace : List Entry) (i : ℕ) (e : Entry) (inside : i < length trace) (is : e ≡ get_or trace i e) where
  here : Contains trace e
  here = subst (Contains trace) (sym is) (Contains-get_or trace i e inside)

  more : (old new : Told) → All (HasStatus trace old) (take i trace) → ((k : ℕ) → Contains (ids old) k → Contains (ids new) k) → HasStatus trace new e → All (HasStatus trace new) (take (i + 1) trace)
  more old new every kept last =
      All-more (HasStatus trace new) trace i e inside (All-weaker (HasStatus trace old) (HasStatus trace new) (λ x h id request response given call. kept id (h id request response given call)) (take i trace) every)
      (subst (HasStatus trace new) is last)

  -- the outcome of a call of `Check` is put in
  pub one_more : (old : Told) (id : ℕ) (request : Request) (response : Response) (value : HealthCheckResponse) → e ≡ record { event = Outcome id; reply = Given (Some (Ok response)) } → IsCheckCall trace id request
      → response_in response.payload ≡ Some value → AreToldBy trace i old → AreToldBy trace (i + 1) (insert_entry nat_cmp old id value)
  one_more old id request response value gives call decoded t = record {
    every = more old (insert_entry nat_cmp old id value) t.every (λ k h. has_old id value old k h)
        (λ other asked given_response given made.
        let same : id ≡ other = ap (λ (x : Entry). id_of x.event id) (sym gives ∙ given) in
        subst (Contains (ids (insert_entry nat_cmp old id value))) same (has_new id value old));
    no_other = all_put id value (λ (x : ℕ × HealthCheckResponse). IsToldTo trace x.0 x.1) old t.no_other
        (record { request = request; response = response; call = call; told = subst (Contains trace) gives here; decoded = decoded });
  }

  -- no outcome of a call of `Check` is given here
  pub none_more : (told : Told) → ((id : ℕ) (request : Request) (response : Response) → e ≡ record { event = Outcome id; reply = Given (Some (Ok response)) } → ¬ (IsCheckCall trace id request))
      → AreToldBy trace i told → AreToldBy trace (i + 1) told
  none_more told none t = record {
    every = more told told t.every (λ k h. h) (λ id request response given call. absurd (none id request response given call));
    no_other = t.no_other;
  }
