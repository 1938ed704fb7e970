-- How a section is made over a line.
use Rattle.std.specs.Prelude.{ℕ, true, Ok, Err, Result}
use Rattle.line.specs.Meaning.{Meaning}
use Rattle.line.specs.declared.line.Line.{Ghosts as Line}
use Rattle.queue.specs.declared.Queue.{Queue}
use Rattle.vocabulary.specs.declared.fault.Fault.{Fault}
use Rattle.vocabulary.specs.declared.fault.Fault.TheVariants as fault
use Rattle.vocabulary.specs.declared.fault.MakingFault.{MakingFault}
use Rattle.cabinets.specs.Making.{Making}
use Rattle.cabinets.specs.Section.{Section as Situation}
use Rattle.cabinets.specs.declared.paper.Paper.{Paper}
use Rattle.section.specs.State.{state}
use Rattle.section.specs.declared.Section.{Section}
use Rattle.section.specs.declared.plan.Plan.{Plan}

-- what a section is made of, in a space for so many papers and over a line. A line that stands already has the space that it wants
abbrev pub planned : Plan → ℕ → Meaning → Making
planned p space line = record { track = p.track; running_time = p.running_time; size = p.tray; space = space; line_fits = true; line = line }

-- a refused making as a fault, whose place outside a log is 0
abbrev pub outward_making : Result Situation MakingFault → Result Situation Fault
outward_making (Ok s) = Ok s
outward_making (Err f) = Err (fault.Making f 0)

-- a section that was made, with its tray, as the rules see it
abbrev pub opened : {L : Type 0} → Line L → Result (Section L) Fault → Queue Paper → Result Situation Fault
opened line (Ok s) q = Ok (state line s q)
opened line (Err f) q = Err f
