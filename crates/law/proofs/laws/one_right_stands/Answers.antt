use Rattle.law.proofs.SameRuns.{every_run_one_right}
use Rattle.law.proofs.laws.one_right_stands.Goals as goal

pub returns : goal.returns
returns c = every_run_one_right
