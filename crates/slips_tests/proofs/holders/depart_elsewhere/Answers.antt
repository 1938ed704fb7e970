-- A slip that came back is the same, and its own section was not touched.
use Rattle.std.proofs.Common.{sym, subst}
use Rattle.slips.proofs.Laws.{back_unaltered, departs, ripe_ends}
use Rattle.slips.specs.Slips.{Ripe}
use Rattle.slips_tests.proofs.holders.depart_elsewhere.Goals as goal

pub done-requires : goal.done-requires
done-requires g c =
    let line = g.L.Line in
    let slip = c.in_ok-slip.slip in
    let ripe = c.issue.ensures.ripe slip c.in_ok-slip.was in
    let back = c.in-Back.back in
    let same = back_unaltered line c.args.other.now c.depart.new.section c.args.other_tray.now c.depart.new.tray slip 5 departs c.depart.result c.depart.ensures c.in-Err.unspent c.in-Err.is back c.in-Back.fault c.in-Back.is in
    ripe_ends line c.issue.new.section c.depart-answer.new.section c.issue.new.tray c.depart-answer.new.tray back 5 departs c.depart-answer.result c.depart-answer.ensures (subst (λ y. Ripe line y 5 c.issue.new.section c.issue.new.tray) (sym same.0) ripe)
