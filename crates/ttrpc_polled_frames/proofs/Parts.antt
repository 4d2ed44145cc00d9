-- What is left of parts that a writer takes a front of.
use Rattle.std.proofs.Common.{◌≡◌, ℕ, ◌+◌, ◌-◌, ◌<◌, ◌≤◌, List, [], ◌++◌, length, take, drop, Result, Ok, Err, refl, sym, ap, subst, ◌∙◌, arith, append_assoc, length-drop}
use Rattle.std.proofs.lemmas.List.{append-nil, drop-drop, take-append-drop}
use Rattle.std.specs.declared.io.Error.{Error}
use Rattle.futures.specs.declared.task.Poll.{Poll}
use Rattle.futures.specs.declared.task.Poll.TheVariants.{Ready, Pending}
use Rattle.futures.specs.Poll.{OnPending}
use Rattle.tokio.specs.Io.Moved.{bytes_moved, count_moved, Passes, PassesInOrder, PassesNothing, TakesWritten}
use Rattle.ttrpc_polled_frames.specs.Writing.{WillEnd}

pub writes_none : {W : Type 0} (writes : Passes W) → PassesNothing writes → (w : W) (left : List ℕ) → TakesWritten writes w w left left
writes_none writes none w left = ([], none w, refl)

pub writes_more : {W : Type 0} (writes : Passes W) → PassesInOrder writes → (a b c : W) (x y z : List ℕ) → TakesWritten writes a b x y → TakesWritten writes b c y z → TakesWritten writes a c x z
writes_more writes order a b c x y z f s = (f.0 ++ s.0, order a f.0 b s.0 c f.1 s.1, f.2 ∙ ap (λ r. f.0 ++ r) s.2 ∙ sym (append_assoc f.0 s.0 z))

-- a call took none
pub writes_none_of : {W : Type 0} (writes : Passes W) → PassesInOrder writes → (a b c : W) (x y : List ℕ) → TakesWritten writes a b x y → writes b [] c → TakesWritten writes a c x y
writes_none_of writes order a b c x y f s = (f.0 ++ [], order a f.0 b [] c f.1 s, f.2 ∙ ap (λ r. r ++ y) (sym (append-nil f.0)))

-- a call took a front of what stands behind so many bytes
pub writes_part : {W : Type 0} (writes : Passes W) → PassesInOrder writes → (a b c : W) (x bytes part : List ℕ) (at n then_at : ℕ) (polled : Poll (Result ℕ Error))
    → polled ≡ Ready (Ok n) → TakesWritten writes a b x (drop at bytes) → writes b (bytes_moved polled part) c → count_moved polled ≤ length part → part ≡ drop at bytes → 0 < length part → then_at ≡ length bytes - (length part - n)
    → TakesWritten writes a c x (drop then_at bytes)
writes_part writes order a b c x bytes part at n then_at polled is f wrote bound same some moved =
    let took : writes b (take n part) c = subst (λ q. writes b (bytes_moved q part) c) is wrote in
    let le : n ≤ length part = subst (λ (q : Poll (Result ℕ Error)). count_moved q ≤ length part) is bound in
    let size : length part ≡ length bytes - at = ap length same ∙ length-drop at bytes in
    let sum : then_at ≡ at + n = omega (arith, size, some, le, moved) in
    let split : drop at bytes ≡ take n part ++ drop n part = sym same ∙ sym (take-append-drop n part) in
    let rest : drop n part ≡ drop then_at bytes = ap (drop n) same ∙ drop-drop n at bytes ∙ ap (λ k. drop k bytes) (sym sum) in
    writes_more writes order a b c x (drop at bytes) (drop then_at bytes) f (take n part, took, split ∙ ap (λ r. take n part ++ r) rest)

-- what stands behind another part isn't reached
pub writes_before : {W : Type 0} (writes : Passes W) (a b : W) (x y behind : List ℕ) → TakesWritten writes a b x y → TakesWritten writes a b (x ++ behind) (y ++ behind)
writes_before writes a b x y behind f = (f.0, f.1, ap (λ r. r ++ behind) f.2 ∙ append_assoc f.0 y behind)

pub ends_later : {W E : Type 0} (writes : Passes W) → PassesInOrder writes → (done : W → Type 0) (tells : List ℕ → W → E → Type 0) (a b : W) (x y : List ℕ) (r : Result (Unit {0}) E) → TakesWritten writes a b x y → WillEnd writes done tells b y r → WillEnd writes done tells a x r
ends_later writes order done tells a b x y r f e = (e.0, e.1, writes_more writes order a b e.0 x y e.1 f e.2, e.3)

-- the one part is taken whole, and then some of the other
pub writes_both : {W : Type 0} (writes : Passes W) → PassesInOrder writes → (a b c : W) (x y u v : List ℕ) → TakesWritten writes a b x y → y ≡ [] → TakesWritten writes b c u v → TakesWritten writes a c (x ++ u) (y ++ v)
writes_both writes order a b c x y u v f none s =
    writes_more writes order a b c (x ++ u) (y ++ u) (y ++ v) (writes_before writes a b x y u f) (subst (λ k. TakesWritten writes b c (k ++ u) (k ++ v)) (sym none) s)

-- it failed
pub ends_failed : {W E : Type 0} (writes : Passes W) (done : W → Type 0) (tells : List ℕ → W → E → Type 0) (a b : W) (x y : List ℕ) (e : E) → TakesWritten writes a b x y → tells y b e → WillEnd writes done tells a x (Err e)
ends_failed writes done tells a b x y e f told = (b, y, f, told)

-- what is offered of a frame is all of it
pub parts_are_all : (n : ℕ) (header payload first : List ℕ) → first ≡ header ++ take n payload → drop 0 first ++ drop n payload ≡ header ++ payload
parts_are_all n header payload first is = ap (λ f. f ++ drop n payload) is ∙ append_assoc header (take n payload) (drop n payload) ∙ ap (λ p. header ++ p) (take-append-drop n payload)

-- what holds anyway holds where a poll is pending
pub if_pending : {A : Type 0} (polled : Poll A) (P : Type 0) → P → OnPending polled P
if_pending (Ready x) P p = tt
if_pending Pending P p = p
