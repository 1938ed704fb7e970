-- The youngest paper is taken and put back departed.
use Rattle.std.proofs.Common.{◌∙◌, arith}
use Rattle.queue.specs.Model.{items, room_of}
use Rattle.section.proofs.Trays.{departs}
use Rattle.section.proofs.tray.mark_departed.Goals as goal

pub returns-in-Some : goal.returns-in-Some
returns-in-Some c =
    let k = c.pop_back.ensures.kept in
    let l = c.push_back.ensures.kept in
    let h = c.in-Some.ensures in
    record {
      papers = departs c.args.minute (room_of c.pop_back.new.self) (items c.args.tray.now) (items c.pop_back.new.self) (items c.push_back.new.self) c.in-Some.paper c.push_back.result h.held (omega (arith, h.len, k.fit_before, k.same_room)) c.push_back.ensures.held;
      kept = record { same_room = l.same_room ∙ k.same_room; same_space = l.same_space ∙ k.same_space; same_extent = l.same_extent ∙ k.same_extent; same_spare = l.same_spare ∙ k.same_spare };
    }
