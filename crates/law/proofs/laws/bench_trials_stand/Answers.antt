use Rattle.law.proofs.Trials.{bench_trials}
use Rattle.law.proofs.laws.bench_trials_stand.Goals as goal

pub returns : goal.returns
returns c = bench_trials
