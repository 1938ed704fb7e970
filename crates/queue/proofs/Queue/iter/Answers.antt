use Rattle.queue.proofs.Runs.{in_order}
use Rattle.queue.proofs.Queue.iter.Goals as goal

pub returns-clause-runs : goal.returns-clause-runs
returns-clause-runs g c = in_order
