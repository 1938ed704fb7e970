-- The last item of the tray is the youngest paper.
use Rattle.std.proofs.Common.{ap, ◌∙◌}
use Rattle.queue.specs.Model.{items}
use Rattle.slips.specs.Slips.{is_of}
use Rattle.slips.proofs.Done.{last_is_youngest}
use Rattle.slips.proofs.Slip.is_of_paper_in_hand.Goals as goal

pub returns : goal.returns
returns c = c.is_of.ensures ∙ ap (is_of c.args.self.now) (c.back.ensures ∙ last_is_youngest (items c.args.tray.now))
