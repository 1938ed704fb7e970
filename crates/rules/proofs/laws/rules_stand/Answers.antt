use Rattle.rules.proofs.Refused.{rules_hold}
use Rattle.rules.proofs.laws.rules_stand.Goals as goal

pub returns : goal.returns
returns c = rules_hold
