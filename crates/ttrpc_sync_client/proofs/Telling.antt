-- A core tells of its ended calls one by one, and the places of their callers are collected.
use Rattle.std.proofs.Common.{◌≡◌, ◌∙◌, ◌<◌, ◌^◌, ◌*◌, ◌%◌, ◌||◌, ℕ, List, [], ◌∷◌, Bool, true, false, ap, arith, inl, inr, nat_eq, refl, subst, sym, if◌then◌else◌}
use Rattle.std.proofs.lemmas.Bool.{cases_eq, eq-eqb, ne_eqb}
use Rattle.std.proofs.lemmas.Nat.Bits.{bit_at-zero, bit_at_set_other, bit_at_set_same}
use Rattle.std.specs.Int.{bit_at, w32}
use Rattle.std.specs.Int.RustNames.{bit_or}
use Rattle.ttrpc_client.specs.declared.client.ClientCore.{ClientCore}
use Rattle.ttrpc_sync_client.specs.Held.{TellsEnded, all_ended, place_of, waits_at}
use Rattle.ttrpc_sync_client.specs.ReadTurns.{ended}
use Rattle.ttrpc_sync_client.specs.declared.ports.read_turn.ReadTurn.{ReadTurn}

-- So far the core has told of the first of its ended calls: the turn knows of them, and their places are collected.
pub record ToldSoFar {O I : Type 0} (old : ClientCore O I) (turn : ReadTurn) (core : ClientCore O I) (told : ReadTurn) (places : ℕ) : Type 0 where
  pub rest : core ≡ record old { state = record old.state { ended = core.state.ended } }
  pub turn_is : all_ended told core.state.ended ≡ all_ended turn old.state.ended
  pub callers : (place : ℕ) → (if waits_at core.state.ended place then 1 else bit_at places place) ≡ (if waits_at old.state.ended place then 1 else 0)

-- the places with that of one more call
abbrev pub with_place : ℕ → ℕ → ℕ
with_place places id = bit_or places (1 * 2 ^ place_of id % 2 ^ 32)

-- either way it is the same number
same_either_way : (b : Bool) (n : ℕ) → (if b then n else n) ≡ n
same_either_way true n = refl
same_either_way false n = refl

-- one of two tests is true
either_is_true : (a b : Bool) (n : ℕ) → a ≡ true → (if b then 1 else 1) ≡ (if (a || b) then 1 else n)
either_is_true a b n is = rw is (same_either_way b 1)

-- where one more call is told of, its place is set, and no other changes
place_moves : (places id : ℕ) (ids : List ℕ) (place : ℕ)
    → (if waits_at ids place then 1 else bit_at (with_place places id) place) ≡ (if waits_at (id ∷ ids) place then 1 else bit_at places place)
place_moves places id ids place =
    let within : place_of id < 32 = omega arith in
    elim (cases_eq (place_of id) place) [
      | inl same ↦ subst (λ (p : ℕ). (if waits_at ids p then 1 else bit_at (with_place places id) p) ≡ (if waits_at (id ∷ ids) p then 1 else bit_at places p)) same
          (ap (λ (n : ℕ). if waits_at ids (place_of id) then 1 else n) (bit_at_set_same w32 places (place_of id) within)
          ∙ either_is_true (nat_eq (place_of id) (place_of id)) (waits_at ids (place_of id)) (bit_at places (place_of id)) (eq-eqb (place_of id) (place_of id) refl))
      | inr apart ↦ rw (ne_eqb (place_of id) place apart)
          (ap (λ (n : ℕ). if waits_at ids place then 1 else n) (bit_at_set_other w32 places (place_of id) within place (λ is. apart (sym is))))
    ]

-- nothing was told of yet
pub none_told : {O I : Type 0} (core : ClientCore O I) (turn : ReadTurn) → ToldSoFar core turn core turn 0
none_told core turn = record {
  rest = refl;
  turn_is = refl;
  callers = λ place. ap (λ n. if waits_at core.state.ended place then 1 else n) (bit_at-zero place);
}

-- one more call is told of
pub one_told : {O I : Type 0} (old : ClientCore O I) (turn : ReadTurn) (core next : ClientCore O I) (told : ReadTurn) (places id : ℕ) → ToldSoFar old turn core told places
    → core.state.ended ≡ id ∷ next.state.ended → next ≡ record core { state = record core.state { ended = next.state.ended } }
    → ToldSoFar old turn next (ended told id) (with_place places id)
one_told old turn core next told places id far first same = record {
  rest = same ∙ ap (λ (c : ClientCore _ _). record c { state = record c.state { ended = next.state.ended } }) far.rest;
  turn_is = sym (ap (all_ended told) first) ∙ far.turn_is;
  callers = λ place. place_moves places id next.state.ended place ∙ sym (ap (λ ids. if waits_at ids place then 1 else bit_at places place) first) ∙ far.callers place;
}

-- all calls are told of
pub all_are_told : {O I : Type 0} (old : ClientCore O I) (turn : ReadTurn) (core next : ClientCore O I) (told : ReadTurn) (places : ℕ) → ToldSoFar old turn core told places
    → core.state.ended ≡ [] → core.state.ended ≡ next.state.ended → next ≡ record core { state = record core.state { ended = next.state.ended } }
    → TellsEnded old turn places next told
all_are_told old turn core next told places far none first same = record {
  core = same ∙ ap (λ (c : ClientCore _ _). record c { state = record c.state { ended = next.state.ended } }) far.rest
      ∙ ap (λ (ids : List ℕ). record old { state = record old.state { ended = ids } }) (sym first ∙ none);
  turn = sym (ap (all_ended told) none) ∙ far.turn_is;
  callers = λ place. sym (ap (λ (ids : List ℕ). if waits_at ids place then 1 else bit_at places place) none) ∙ far.callers place;
}
