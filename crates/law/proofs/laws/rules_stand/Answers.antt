use Rattle.law.proofs.Refused.{rules_hold}
use Rattle.law.proofs.laws.rules_stand.Goals as goal

pub returns : goal.returns
returns c = rules_hold
