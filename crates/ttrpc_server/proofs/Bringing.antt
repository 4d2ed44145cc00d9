-- The job of a stream's id is the one that is found under it, so that its mailbox gets what comes under the id.
use Rattle.ttrpc_server.proofs.Words.{arith, ◌≡◌, ◌∙◌, ◌≤◌, ◌<◌, ℕ, List, [], ◌∷◌, length, Bool, true, false, cond, nat_eq, nat_cmp, Some, refl, sym, ap, subst, ActiveJob, JobList, Server, Rising, first_id, jobs_at, MessageHeader, Async, Rules, Indexed, IsKept}
use Rattle.std.proofs.lemmas.List.{length-map}
use Rattle.ttrpc_server.proofs.Mapped.{at_stays, kept_mapped}
use Rattle.std.proofs.Common.{OnErr, OnOk, Result, Ok, Err}
use Rattle.std.proofs.lemmas.Bool.{ne_eqb}
use Rattle.std.specs.BTreeSet.{insert_key}
use Rattle.ttrpc_proto.specs.declared.framing.header.TheConstants.{FLAG_REMOTE_CLOSED}
use Rattle.ttrpc_connection.specs.declared.thing.MailboxEntry.{MailboxEntry}
use Rattle.ttrpc_connection.specs.Mail.{with_thing}
use Rattle.ttrpc_connection.specs.Things.{data_thing, has_flag}
use Rattle.ttrpc_server.specs.Types.{Mail}
use Rattle.ttrpc_server.specs.State.{brought_by, changed_at, heard_with, on_mail, on_stream, put_in}
use Rattle.ttrpc_server.proofs.Boxes.{eq_test, none_above, unchanged}
use Rattle.ttrpc_server.proofs.Kept.{first_above}

none_left : (j : ActiveJob) (l : List ActiveJob) → length (j ∷ l) ≤ 1 → l ≡ []
none_left j [] le = refl
none_left j (x ∷ l) le = absurd (omega (arith, le))

-- no job has the stream's id
quiet : (k : ℕ) (change : Mail → Mail) (js : List ActiveJob) → jobs_at js k ≡ [] → on_stream k change js ≡ js
quiet k change [] none = refl
quiet k change (j ∷ js) none = by (nat_eq j.header.stream_id k) refl none (quiet k change js)
  where
    by : (t : Bool) → nat_eq j.header.stream_id k ≡ t → cond t (j ∷ jobs_at js k) (jobs_at js k) ≡ [] → (jobs_at js k ≡ [] → on_stream k change js ≡ js) → on_stream k change (j ∷ js) ≡ j ∷ js
    by true e none more = cc
    by false e none more = rw e (ap (λ l. j ∷ l) (more none))

pub by_its_stream : (low high k id : ℕ) (change : Mail → Mail) (js : List ActiveJob) → Rising low js high → length (jobs_at js k) ≤ 1 → first_id (jobs_at js k) ≡ Some id → on_mail id change js ≡ on_stream k change js
by_its_stream low high k id change [] rising single first = refl
by_its_stream low high k id change (j ∷ js) rising single first = by (nat_eq j.header.stream_id k) refl single first (by_its_stream j.id high k id change js rising.1)
  where
    by : (t : Bool) → nat_eq j.header.stream_id k ≡ t → length (cond t (j ∷ jobs_at js k) (jobs_at js k)) ≤ 1 → first_id (cond t (j ∷ jobs_at js k) (jobs_at js k)) ≡ Some id
        → (length (jobs_at js k) ≤ 1 → first_id (jobs_at js k) ≡ Some id → on_mail id change js ≡ on_stream k change js) → on_mail id change (j ∷ js) ≡ on_stream k change (j ∷ js)
    by true e single first more =
        let same : j.id ≡ id = cc in
        let here : nat_eq j.id id ≡ true = subst (λ i. nat_eq j.id i ≡ true) same (eq_test j.id) in
        let rest : jobs_at js k ≡ [] = none_left j (jobs_at js k) single in
        let above = none_above j.id high id js (omega (arith, same)) rising.1 in
        rw (e, here, quiet k change js rest, unchanged id change js above) refl
    by false e single first more =
        let less = own_above (jobs_at js k) refl first in
        let other : nat_eq j.id id ≡ false = ne_eqb j.id id (λ same. omega (arith, same, less)) in
        rw (e, other) (ap (λ l. j ∷ l) (more single first))
      where
        own_above : (own : List ActiveJob) → jobs_at js k ≡ own → first_id own ≡ Some id → j.id < id
        own_above [] is first = cc
        own_above (x ∷ rest) is first = let same : x.id ≡ id = cc in subst (λ (n : ℕ). j.id < n) same (first_above j.id high k js x rest rising.1 is)

pub heard_of : (js : List ActiveJob) (id : ℕ) (heard : List ℕ) → first_id js ≡ Some id → insert_key nat_cmp heard id ≡ heard_with js heard
heard_of [] id heard first = cc
heard_of (j ∷ js) id heard first = let same : j.id ≡ id = cc in ap (λ i. insert_key nat_cmp heard i) (sym same)

-- ---- what is kept through it

pub kept_put : {T E : Type 0} (r : Result T E) (r2 : Rules) (index : Indexed) (room id : ℕ) (change : Mail → Mail) (old new : JobList) → OnOk r (new ≡ record old { list = on_mail id change old.list }) → OnErr r (new ≡ old)
    → IsKept r2 old.list index → (r2 ≡ Async → length old.list ≤ room) → IsKept r2 new.list index × (r2 ≡ Async → length new.list ≤ room)
kept_put (Ok x) r2 index room id change old new ok err kept fits =
    let list : new.list ≡ on_mail id change old.list = ap (λ (l : JobList). l.list) ok in
    rw list (kept_mapped (changed_at id change) (at_stays id change) kept, λ async. subst (λ (n : ℕ). n ≤ room) (sym (length-map old.list (changed_at id change))) (fits async))
kept_put (Err x) r2 index room id change old new ok err kept fits = rw err (kept, fits)

-- what came is put in, by the job that is found under its stream's id
pub put_in_is : (old now : Server) (id : ℕ) (header : MessageHeader) (payload : List ℕ) (x : MailboxEntry) (ends : Bool) → Rising 0 old.jobs.list old.jobs.last → length (jobs_at old.jobs.list header.stream_id) ≤ 1
    → first_id (jobs_at old.jobs.list header.stream_id) ≡ Some id → x ≡ data_thing header.stream_id header.flags payload → ends ≡ has_flag FLAG_REMOTE_CLOSED header.flags
    → now ≡ record old { jobs = record old.jobs { list = on_mail id (λ m. with_thing m x ends) old.jobs.list }; heard = insert_key nat_cmp old.heard id } → now ≡ put_in old header payload
put_in_is old now id header payload x ends rising single first is closes same =
    same ∙ rw (is, closes, by_its_stream 0 old.jobs.last header.stream_id id (brought_by header payload) old.jobs.list rising single first, heard_of (jobs_at old.jobs.list header.stream_id) id old.heard first) refl
