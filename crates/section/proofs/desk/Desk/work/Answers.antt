-- An act that leaves the tray alone.
use Rattle.std.proofs.Common.{min}
use Rattle.queue.specs.Model.{items, room_of}
use Rattle.section.proofs.desk.Desk.work.Goals as goal

pub returns-in-Report-clause-done : goal.returns-in-Report-clause-done
returns-in-Report-clause-done c = rw c.in-Report.is (c.report.ensures (min c.args.self.now.size (room_of c.args.tray.now)) (items c.args.tray.now))

pub returns-in-Hear-clause-done : goal.returns-in-Hear-clause-done
returns-in-Hear-clause-done c = rw c.in-Hear.is (c.hear.ensures (min c.args.self.now.size (room_of c.args.tray.now)) (items c.args.tray.now))

pub returns-in-DeclareDead-clause-done : goal.returns-in-DeclareDead-clause-done
returns-in-DeclareDead-clause-done c = rw c.in-DeclareDead.is (c.declare_dead.ensures (min c.args.self.now.size (room_of c.args.tray.now)) (items c.args.tray.now))

pub returns-in-Resume-clause-done : goal.returns-in-Resume-clause-done
returns-in-Resume-clause-done c = rw c.in-Resume.is (c.resume.ensures (min c.args.self.now.size (room_of c.args.tray.now)) (items c.args.tray.now))
