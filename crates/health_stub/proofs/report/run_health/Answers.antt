use Rattle.std.proofs.Common.{List, subst}
use Rattle.std.proofs.lemmas.Result.{IfOk-weaker}
use Rattle.std.specs.Option.{option_map}
use Rattle.ttrpc_world_trace.specs.declared.events.Entry.{Entry}
use Rattle.health_stub.specs.Scan.{IsFound}
use Rattle.health_stub.proofs.Reported.{reported}
use Rattle.health_stub.proofs.Story.{all_at}
use Rattle.health_stub.proofs.report.run_health.Goals as goal

pub returns-clause-report : goal.returns-clause-report
returns-clause-report g c =
    let run = c.in_ok-trace.ensures in
    let items : List Entry = c.in_ok-trace.trace.items in
    let told = run.told in
    IfOk-weaker c.report.result _ _ (λ report found. (
      items,
      run.steps.0,
      run.events,
      run.steps.1,
      reported c.args.world.server.state.services told.0 c.args.table.now items told.1.agrees told.1.one_to_one told.1.exactly_once (λ job handed. all_at _ items _ run.named handed) c.requires.is_method _
          (subst (λ (es : List Entry). IsFound c.args.table.now es (option_map (λ list. list.items) report)) c.as_slice.ensures.value found),
    )) c.report.ensures.found
