use Rattle.rules.proofs.Invariant.{every_run_one_right}
use Rattle.rules.proofs.laws.one_right_stands.Goals as goal

pub returns : goal.returns
returns c = every_run_one_right
