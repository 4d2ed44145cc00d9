use Rattle.ttrpc_server.proofs.Words.{◌≡◌, ◌∙◌, ap, Async, inl, jobs_at, refl, row_of, subst}
use Rattle.ttrpc_server.specs.Table.{case_of, id_state_of, newest_after}
use Rattle.ttrpc_server.specs.Types.{Asks}
use Rattle.ttrpc_server.specs.Protocol.{case_in, seen_by}
use Rattle.ttrpc_server.proofs.Newest.{asks_above, newest_lasts, newest_stays}
use Rattle.ttrpc_server.proofs.RowLeaves.{row_leaves}
use Rattle.ttrpc_server.proofs.Running.{run_lasts}
use Rattle.ttrpc_server.proofs.laws.request_ids_rise.Goals as goal

pub returns-clause-read : goal.returns-clause-read
returns-clause-read g c = λ old new o a sent plain does async asks.
    let leaves = row_leaves g.O.OutboundTransform (row_of old a) (seen_by old a) o a.header a.now sent new does in
    let id_state = id_state_of (jobs_at old.jobs.list a.header.stream_id) in (
      asks_above a.header a.opening old.jobs.newest id_state plain (subst (λ r. case_of r a.header a.opening old.jobs.newest id_state ≡ Asks plain) async asks),
      leaves.newest ∙ ap (λ r. newest_after r a.header.stream_id (case_in old a) old.jobs.newest) async ∙ ap (λ case. newest_after Async a.header.stream_id case old.jobs.newest) asks,
    )

pub returns-clause-others : goal.returns-clause-others
returns-clause-others g c = λ old new o a sent does other.
    let leaves = row_leaves g.O.OutboundTransform (row_of old a) (seen_by old a) o a.header a.now sent new does in
    leaves.newest ∙ newest_stays old.rules a.header.stream_id (case_in old a) old.jobs.newest other

pub returns-clause-over_runs : goal.returns-clause-over_runs
returns-clause-over_runs g c = λ s t old new calls happenings run.
    run_lasts g.O.OutboundTransform g.I.InboundTransform _ (newest_lasts g.O.OutboundTransform s.jobs.newest) calls s old happenings t new run (inl refl)
