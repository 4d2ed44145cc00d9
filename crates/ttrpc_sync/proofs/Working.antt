-- What a worker took, reported and passed, one call after the other.
use Rattle.std.proofs.Common.{◌≡◌, ℕ, zero, suc, List, [], ◌∷◌, ◌++◌, length, Option, Some, None, refl, sym, ◌∙◌, ap, subst, append_assoc, append-nil, length-append, arith}
use Rattle.ttrpc_sync.specs.Work.{Grows, Stays, Passage, Entered, Left, Refused, IsInside, rounds, Reports, Worked}

grows_none : {A : Type 0} (a : Option (List A)) → Stays a a
grows_none None = tt
grows_none (Some xs) = sym (append-nil xs)

grows_more : {A : Type 0} (a b c : Option (List A)) (xs ys : List A) → Grows a b xs → Grows b c ys → Grows a c (xs ++ ys)
grows_more a b None xs ys p q = tt
grows_more a None (Some z) xs ys p q = absurd q
grows_more None (Some y) (Some z) xs ys p q = absurd p
grows_more (Some x) (Some y) (Some z) xs ys p q = q ∙ ap (λ l. l ++ ys) p ∙ append_assoc x xs ys

grows_still : {A : Type 0} (a b c : Option (List A)) (xs : List A) → Grows a b xs → Stays b c → Grows a c xs
grows_still a b c xs p q = subst (λ l. Grows a c l) (append-nil xs) (grows_more a b c xs [] p q)

stays_then : {A : Type 0} (a b c : Option (List A)) (xs : List A) → Stays a b → Grows b c xs → Grows a c xs
stays_then a b c xs p q = grows_more a b c [] xs p q

pub is_inside : (a b : Option (List Passage)) → Grows a b (Entered ∷ []) → IsInside b
is_inside a None p = tt
is_inside None (Some y) p = absurd p
is_inside (Some x) (Some y) p = (x, p)

rounds_more : (n : ℕ) → rounds n ++ Entered ∷ Left ∷ [] ≡ rounds (suc n)
rounds_more zero = refl
rounds_more (suc n) = ap (λ l. Entered ∷ Left ∷ l) (rounds_more n)

module _ {Key Request Outcome : Type 0} (gives : Request → Outcome → Type 0) where
  reports_more : (jobs : List (Key × Request)) (reports : List (Key × Outcome)) (key : Key) (request : Request) (outcome : Outcome)
      → Reports gives jobs reports → gives request outcome → Reports gives (jobs ++ (key, request) ∷ []) (reports ++ (key, outcome) ∷ [])
  reports_more [] [] key request outcome all this = (refl, this, tt)
  reports_more [] (r ∷ rs) key request outcome all this = absurd all
  reports_more (j ∷ js) [] key request outcome all this = absurd all
  reports_more (j ∷ js) (r ∷ rs) key request outcome all this = (all.0, all.1, reports_more js rs key request outcome all.2 this)

  pub worked_nothing : (t u : Option (List (Key × Request))) (r s : Option (List (Key × Outcome))) (p : Option (List Passage))
      → Stays t u → Stays r s → Worked gives [] t u r s p p
  worked_nothing t u r s p taken reported = record {
    jobs = [];
    reports = [];
    taken = taken;
    reported = reported;
    handled = tt;
    passed = grows_none p;
  }

  -- the gate sends the worker away, or it is let in, gets no job, and goes out
  worked_last : (t u v : Option (List (Key × Request))) (r s w : Option (List (Key × Outcome))) (p q o : Option (List Passage)) (last : List Passage)
      → Worked gives [] t u r s p q → Stays u v → Stays s w → Grows q o last → Worked gives last t v r w p o
  worked_last t u v r s w p q o last so taken reported passed = record {
    jobs = so.jobs;
    reports = so.reports;
    taken = grows_still t u v so.jobs so.taken taken;
    reported = grows_still r s w so.reports so.reported reported;
    handled = so.handled;
    passed = grows_more p q o (rounds (length so.jobs)) last (subst (λ l. Grows p q l) (append-nil (rounds (length so.jobs))) so.passed) passed;
  }

  pub worked_refused : (t u : Option (List (Key × Request))) (r s : Option (List (Key × Outcome))) (p q o : Option (List Passage))
      → Worked gives [] t u r s p q → Grows q o (Refused ∷ []) → Worked gives (Refused ∷ []) t u r s p o
  worked_refused t u r s p q o so passed = worked_last t u u r s s p q o (Refused ∷ []) so (grows_none u) (grows_none s) passed

  pub worked_over : (t u v : Option (List (Key × Request))) (r s w : Option (List (Key × Outcome))) (p q o m : Option (List Passage))
      → Worked gives [] t u r s p q → Grows q o (Entered ∷ []) → Stays u v → Stays s w → Grows o m (Left ∷ []) → Worked gives (Entered ∷ Left ∷ []) t v r w p m
  worked_over t u v r s w p q o m so entered taken reported left =
      worked_last t u v r s w p q m (Entered ∷ Left ∷ []) so taken reported (grows_more q o m (Entered ∷ []) (Left ∷ []) entered left)

  -- one more job: the worker is let in, gets it, goes out, and reports what came of it
  pub worked_more : (t u v x : Option (List (Key × Request))) (r s w y : Option (List (Key × Outcome))) (p q o m : Option (List Passage)) (key : Key) (request : Request) (outcome : Outcome)
      → Worked gives [] t u r s p q → Grows q o (Entered ∷ []) → Grows u v ((key, request) ∷ []) → Stays s w → Grows o m (Left ∷ []) → gives request outcome
      → Stays v x → Grows w y ((key, outcome) ∷ []) → Worked gives [] t x r y p m
  worked_more t u v x r s w y p q o m key request outcome so entered taken kept left this still reported = record {
    jobs = so.jobs ++ (key, request) ∷ [];
    reports = so.reports ++ (key, outcome) ∷ [];
    taken = grows_still t v x _ (grows_more t u v so.jobs ((key, request) ∷ []) so.taken taken) still;
    reported = grows_more r w y so.reports ((key, outcome) ∷ []) (grows_still r s w so.reports so.reported kept) reported;
    handled = reports_more so.jobs so.reports key request outcome so.handled this;
    passed =
        let before : Grows p q (rounds (length so.jobs)) = subst (λ l. Grows p q l) (append-nil (rounds (length so.jobs))) so.passed in
        let round = grows_more q o m (Entered ∷ []) (Left ∷ []) entered left in
        let all = grows_more p q m (rounds (length so.jobs)) (Entered ∷ Left ∷ []) before round in
        let count : suc (length so.jobs) ≡ length (so.jobs ++ (key, request) ∷ []) = omega (arith, length-append so.jobs ((key, request) ∷ [])) in
        let whole = rounds_more (length so.jobs) ∙ ap rounds count ∙ sym (append-nil (rounds (length (so.jobs ++ (key, request) ∷ [])))) in
        subst (λ l. Grows p m l) whole all;
  }
