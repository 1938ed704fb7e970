use Rattle.law.proofs.SameRuns.{every_run_safe}
use Rattle.law.proofs.laws.safety_stands.Goals as goal

pub returns : goal.returns
returns c = every_run_safe
