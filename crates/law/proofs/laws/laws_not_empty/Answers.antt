use Rattle.law.proofs.Trials.{not_empty}
use Rattle.law.proofs.laws.laws_not_empty.Goals as goal

pub returns : goal.returns
returns c = not_empty
