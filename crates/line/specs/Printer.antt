-- The printer: eight messages may wait for each station.
use Rattle.std.specs.Prelude.{◌≡◌, Bool, true, false, cond, not, ◌||◌, [], length, drop, Ok, Err, Option, Result, ◌==◌, nat_lt, slice_get}
use Rattle.vocabulary.specs.declared.fault.Fault.{Fault}
use Rattle.vocabulary.specs.declared.fault.Fault.TheVariants.{Making}
use Rattle.vocabulary.specs.declared.fault.MakingFault.TheVariants.{Space}
use Rattle.vocabulary.specs.declared.station.Station.{Station}
use Rattle.queue.specs.Model.{items, places, room_of, spare}
use Rattle.queue.specs.declared.Queue.{Queue}
use Rattle.line.specs.declared.message.Message.{Message}
use Rattle.line.specs.declared.printer.Printer.{Printer}
use Rattle.line.specs.Meaning.{Meaning, fresh, waits, with_up, with_waits}

-- a queue is ready for a printer: it is empty and has room for eight messages
pub record Ready (q : Queue Message) : Type 0 where
  pub empty : items q ≡ []
  pub eight : room_of q ≡ 8

-- a queue is unfit for a printer if it has room for fewer than eight messages, or holds any
abbrev pub unfit : Queue Message → Bool
unfit q = nat_lt (room_of q) 8 || not (length (items q) == 0)

-- making queues ready is refused where either is unfit
abbrev pub preparing : Queue Message → Queue Message → Result (Unit {0}) Fault
preparing a b = cond (unfit a || unfit b) (Err (Making Space 0)) (Ok tt)

-- a queue was made ready, in the same space, no place of which was altered
pub record Prepared (before after : Queue Message) : Type 0 where
  pub ready : Ready after
  pub same_space : after.space.ghost_name ≡ before.space.ghost_name
  pub same_places : places after ≡ places before

-- what a printer means
abbrev pub printer_meaning : Printer → Meaning
printer_meaning p = record { up = p.up; for_a = items p.for_a.now; for_b = items p.for_b.now; most = 8 }

-- making a printer is refused where either queue is unfit; a new printer is up and empty
abbrev pub making_printer : Queue Message → Queue Message → Result Meaning Fault
making_printer a b = cond (unfit a || unfit b) (Err (Making Space 0)) (Ok (fresh 8))

-- a printer that was made, by what it means
abbrev pub new_meaning : Result Printer Fault → Result Meaning Fault
new_meaning (Ok p) = Ok (printer_meaning p)
new_meaning (Err f) = Err f

-- hearing answers the oldest message and removes it
abbrev pub printer_hears : Printer → Station → Option Message → Printer → Type 0
printer_hears p at r p' =
    (r ≡ slice_get (waits at (printer_meaning p)) 0)
    × (printer_meaning p' ≡ with_waits at (drop 1 (waits at (printer_meaning p))) (printer_meaning p))

-- a drop loses none
abbrev pub printer_drops : Printer → Printer → Type 0
printer_drops p p' = printer_meaning p' ≡ with_up false (printer_meaning p)

-- a mend alters only the mark
abbrev pub printer_mends : Printer → Printer → Type 0
printer_mends p p' = printer_meaning p' ≡ with_up true (printer_meaning p)

-- what the work of a printer never alters of the space that it was lent: its length, and every place beyond the eight of each queue. Where the messages stand within the eight is left open
pub record SpaceKept (p p' : Printer) : Type 0 where
  pub extent_a : length (places p'.for_a.now) ≡ length (places p.for_a.now)
  pub extent_b : length (places p'.for_b.now) ≡ length (places p.for_b.now)
  pub spare_a : spare p'.for_a.now ≡ spare p.for_a.now
  pub spare_b : spare p'.for_b.now ≡ spare p.for_b.now
