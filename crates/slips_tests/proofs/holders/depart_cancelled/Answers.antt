-- A ripe slip stays ripe when its paper is cancelled by the plain call.
use Rattle.std.proofs.Common.{subst}
use Rattle.cabinets.specs.Calls.{checked_call}
use Rattle.cabinets.specs.declared.call.Act.TheVariants as act
use Rattle.section.specs.Called.{Comes}
use Rattle.slips.proofs.Laws.{cancels, departs, ripe_after, ripe_ends}
use Rattle.slips_tests.proofs.holders.depart_cancelled.Goals as goal

pub done-requires : goal.done-requires
done-requires g c =
    let line = g.L.Line in
    let slip = c.in_ok-slip.slip in
    let ripe = c.issue.ensures.ripe slip c.in_ok-slip.was in
    let plain = subst (λ y. Comes line (checked_call y 5 act.Cancel) c.cancel.result c.issue.new.section c.cancel.new.self c.issue.new.tray c.cancel.new.tray) c.station.ensures c.cancel.ensures in
    let still = ripe_after line c.issue.new.section c.cancel.new.self c.issue.new.tray c.cancel.new.tray slip 5 cancels c.cancel.result plain ripe in
    ripe_ends line c.cancel.new.self c.depart-answer.new.section c.cancel.new.tray c.depart-answer.new.tray slip 5 departs c.depart-answer.result c.depart-answer.ensures still
