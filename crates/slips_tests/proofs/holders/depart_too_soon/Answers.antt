-- A slip that came back is the same, and so is the section.
use Rattle.std.proofs.Common.{sym, subst}
use Rattle.slips.proofs.Laws.{back_unaltered, departs, ripe_ends, ripe_still}
use Rattle.slips.specs.Slips.{Ripe}
use Rattle.slips_tests.proofs.holders.depart_too_soon.Goals as goal

pub done-requires : goal.done-requires
done-requires g c =
    let line = g.L.Line in
    let slip = c.in_ok-slip.slip in
    let ripe = c.issue.ensures.ripe slip c.in_ok-slip.was in
    let back = c.in-Back.back in
    let same = back_unaltered line c.issue.new.section c.depart.new.section c.issue.new.tray c.depart.new.tray slip 4 departs c.depart.result c.depart.ensures c.in-Err.unspent c.in-Err.is back c.in-Back.fault c.in-Back.is in
    let still = ripe_still line c.issue.new.section c.depart.new.section c.issue.new.tray c.depart.new.tray slip 5 departs same.1 ripe in
    ripe_ends line c.depart.new.section c.depart-answer.new.section c.depart.new.tray c.depart-answer.new.tray back 5 departs c.depart-answer.result c.depart-answer.ensures (subst (λ y. Ripe line y 5 c.depart.new.section c.depart.new.tray) (sym same.0) still)
