use Rattle.std.proofs.Common.{rules}
use Rattle.ttrpc_echo.proofs.engine.echo_core.Goals as goal

pub returns : goal.returns
returns c = record {
  ready = record { rules = search rules; takes = search rules; services = search rules; jobs = search rules; alive = search rules; queue = search rules };
  held = search rules;
  last_job = search rules;
  queue = search rules;
}
