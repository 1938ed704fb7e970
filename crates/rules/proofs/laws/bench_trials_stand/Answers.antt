use Rattle.rules.proofs.Trials.{bench_trials}
use Rattle.rules.proofs.laws.bench_trials_stand.Goals as goal

pub returns : goal.returns
returns c = bench_trials
