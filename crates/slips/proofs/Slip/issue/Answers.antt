-- The slip made is that of the paper just issued.
use Rattle.std.proofs.Common.{Ok, refl}
use Rattle.slips.proofs.Done.{issued}
use Rattle.slips.proofs.Slip.issue.Goals as goal

pub returns : goal.returns
returns g c =
    let n = c.in_ok-number.number in
    let r = Ok (record { station = c.args.at; serial = record { 0 = n } }) in
    let i = issued g.L.Line c.args.section.now c.issue.new.self c.args.tray.now c.issue.new.tray c.args.at c.args.minute c.args.train c.args.nature c.args.pass (Ok n) c.in_ok-number.ensures r refl in
    record { plain = Ok n; comes = c.in_ok-number.ensures; shown = refl; of_paper_in_hand = λ slip e. (i slip e).0; ripe = λ slip e. (i slip e).1 }
