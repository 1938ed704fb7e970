-- An act, by what the cabinet, the line and the tray did.
use Rattle.std.proofs.Common.{false, sym, refl, ◌∙◌}
use Rattle.std.proofs.lemmas.Bool.{and_parts, false≢true}
use Rattle.std.proofs.lemmas.Result.{err_from_is_err_and}
use Rattle.section.specs.Called.{is_hear}
use Rattle.section.proofs.Lines.{done_act, heard_once, not_taken, refused_act, unposted_act}
use Rattle.section.proofs.Section.act.Goals as goal

pub returns-in_err-done : goal.returns-in_err-done
returns-in_err-done g c =
    let line = g.L.Line in
    let q = c.args.tray.now in
    let p = err_from_is_err_and c.from_residual.result c.from_residual.ensures.1 in
    rw (p.1, p.2) record {
      came = c.listen-desk.result;
      ruled = refused_act line c.args.self.now c.listen-desk.new.self q c.args.at c.args.minute c.args.act c.listen-desk.result c.listen-desk.ensures.rest c.cabinet-cabinet.result (c.cabinet-cabinet.ensures q) c.desk-desk.result (c.desk-desk.ensures q) c.hears_now.result c.hears_now.ensures c.listen-desk.ensures.heard c.in_err-done.field-0.0 c.work.new.cabinet c.work.new.tray c.in_err-done.ensures.done (c.in_err-done.ensures.refused refl);
      by_line = λ y. absurd (false≢true (and_parts (is_hear c.args.act) false y).1);
      tray_kept = c.work.ensures.kept;
      refused = c.in_err-done.ensures.refused;
      same_line = c.listen-desk.ensures.rest.same_line;
    }

pub returns-in_err-settle : goal.returns-in_err-settle
returns-in_err-settle g c =
    let line = g.L.Line in
    let q = c.args.tray.now in
    let n = c.in_err-settle.ensures in
    let p = err_from_is_err_and c.from_residual-in_err-settle.result c.from_residual-in_err-settle.ensures.1 in
    let e = c.in_ok-done.ensures.said (not_taken _ c.in_ok-done.done.message _ n.taken.1) in
    rw (p.1, p.2, n.taken.0) record {
      came = c.listen-desk.result;
      ruled = unposted_act line c.args.self.now c.listen-desk.new.self q c.args.at c.args.minute c.args.act c.listen-desk.result c.listen-desk.ensures.rest c.cabinet-cabinet.result (c.cabinet-cabinet.ensures q) c.desk-desk.result (c.desk-desk.ensures q) c.hears_now.result c.hears_now.ensures c.listen-desk.ensures.heard c.in_ok-done.done c.work.new.cabinet c.work.new.tray c.in_ok-done.ensures.done c.settle.new.self n.taken.1 (n.after c.work.new.tray) e;
      by_line = λ y. absurd (false≢true (and_parts (is_hear c.args.act) false y).1);
      tray_kept = c.work.ensures.kept;
      refused = λ _. e;
      same_line = n.same_line ∙ c.listen-desk.ensures.rest.same_line;
    }

pub returns : goal.returns
returns g c =
    let line = g.L.Line in
    let q = c.args.tray.now in
    let n = c.in_ok-settle.ensures in
    let room = c.work.ensures.kept.same_room in
    record {
      came = c.listen-desk.result;
      ruled = done_act line c.args.self.now c.listen-desk.new.self q c.args.at c.args.minute c.args.act c.listen-desk.result c.listen-desk.ensures.rest c.cabinet-cabinet.result (c.cabinet-cabinet.ensures q) c.desk-desk.result (c.desk-desk.ensures q) c.hears_now.result c.hears_now.ensures c.listen-desk.ensures.heard c.in_ok-done.done c.work.new.cabinet c.work.new.tray c.in_ok-done.ensures.done c.settle.new.self room n.taken (n.after c.work.new.tray);
      by_line = heard_once line c.args.self.now c.listen-desk.new.self q c.args.at c.args.minute c.args.act c.listen-desk.result c.listen-desk.ensures.rest c.cabinet-cabinet.result (c.cabinet-cabinet.ensures q) c.desk-desk.result (c.desk-desk.ensures q) c.hears_now.result c.hears_now.ensures c.listen-desk.ensures.heard c.in_ok-done.done c.work.new.cabinet c.work.new.tray c.in_ok-done.ensures.done c.settle.new.self room n.taken (n.after c.work.new.tray) n.quiet;
      tray_kept = c.work.ensures.kept;
      refused = λ y. absurd (false≢true (sym y));
      same_line = n.same_line ∙ c.listen-desk.ensures.rest.same_line;
    }
