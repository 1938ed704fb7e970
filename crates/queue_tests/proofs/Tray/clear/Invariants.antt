use Rattle.std.proofs.Common.{length}
use Rattle.queue.specs.Model.{items}
use Rattle.queue_tests.proofs.Tray.clear.Given as goal

abbrev pub decreases-loop : goal.decreases-loop
decreases-loop l = length (items l.self.papers.now)
