use Rattle.std.proofs.lemmas.Result.{IfOk-weaker}
use Rattle.ttrpc_world.proofs.Named.{named}
use Rattle.ttrpc_world.proofs.world.World.run.Goals as goal

pub returns-clause-steps : goal.returns-clause-steps
returns-clause-steps g c = IfOk-weaker c.run_all.result _ _ (λ trace ran. (c.run_all.new.self, ran)) c.run_all.ensures.steps

pub returns-clause-told : goal.returns-clause-told
returns-clause-told g c = IfOk-weaker c.run_all.result _ _ (λ trace ran. c.runs_are_told.ensures _ _ trace.items c.requires ran) c.run_all.ensures.steps

pub returns-clause-named : goal.returns-clause-named
returns-clause-named g c = IfOk-weaker c.run_all.result _ _ (λ trace ran. named _ _ _ g.met.SO.OutboundTransform.lawful.fixed _ trace.items _ c.requires ran) c.run_all.ensures.steps
