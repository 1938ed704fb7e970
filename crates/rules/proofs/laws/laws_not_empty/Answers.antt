use Rattle.rules.proofs.Trials.{not_empty}
use Rattle.rules.proofs.laws.laws_not_empty.Goals as goal

pub returns : goal.returns
returns c = not_empty
