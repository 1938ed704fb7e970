-- A slip just made is ripe.
use Rattle.slips.proofs.Laws.{cancels, ripe_ends}
use Rattle.slips_tests.proofs.holders.cancel.Goals as goal

pub done-requires : goal.done-requires
done-requires g c =
    let line = g.L.Line in
    let slip = c.in_ok-slip.slip in
    let ripe = c.issue.ensures.ripe slip c.in_ok-slip.was in
    ripe_ends line c.issue.new.section c.cancel-answer.new.section c.issue.new.tray c.cancel-answer.new.tray slip 5 cancels c.cancel-answer.result c.cancel-answer.ensures ripe
