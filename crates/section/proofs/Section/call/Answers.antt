-- A call makes every run longer.
use Rattle.std.proofs.Common.{subst}
use Rattle.section.specs.Called.{Comes}
use Rattle.section.proofs.Histories.{goes_on}
use Rattle.section.proofs.Section.call.Goals as goal

pub returns-clause-safe : goal.returns-clause-safe
returns-clause-safe g c = goes_on g.L.Line c.args.fields.now c.answer.result c.args.self.now c.answer.new.self c.args.tray.now c.answer.new.tray (subst (λ y. Comes g.L.Line y c.answer.result c.args.self.now c.answer.new.self c.args.tray.now c.answer.new.tray) c.read-call.ensures c.answer.ensures)
