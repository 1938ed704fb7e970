-- What comes of a call over any line.
use Rattle.std.specs.Prelude.{◌≡◌, ℕ, Bool, true, false, cond, ◌&&◌, [], ◌∷◌, ◌++◌, is_ok, Some, None, Ok, Err, Option, Result}
use Rattle.line.specs.Meaning.{Meaning, can_post, waits, with_waits}
use Rattle.line.specs.declared.line.Line.{Ghosts as Line}
use Rattle.line.specs.declared.message.Message.{Message}
use Rattle.queue.specs.declared.Queue.{Queue}
use Rattle.vocabulary.specs.declared.fault.CallFault.{CallFault}
use Rattle.vocabulary.specs.declared.fault.Fault.{Fault}
use Rattle.vocabulary.specs.declared.fault.Fault.TheVariants as fault
use Rattle.vocabulary.specs.declared.station.Station.{Station}
use Rattle.cabinets.specs.Outcome.{Choice, outcome_of}
use Rattle.cabinets.specs.declared.call.Act.{Act}
use Rattle.cabinets.specs.declared.call.Act.TheVariants as act
use Rattle.cabinets.specs.declared.call.Call.{Call}
use Rattle.cabinets.specs.declared.call.Call.TheVariants as call
use Rattle.cabinets.specs.declared.paper.Paper.{Paper}
use Rattle.section.specs.State.{TrayKept, state}
use Rattle.section.specs.declared.Section.{Section}

-- what the line chose in a call, told by what came and what waits afterwards
abbrev pub chosen : Option Message → Meaning → Choice
chosen came m = record { came = came; left_a = m.for_a; left_b = m.for_b }

-- a refusal as a fault, with the place of its call
abbrev pub outward_at : ℕ → Result ℕ CallFault → Result ℕ Fault
outward_at place (Ok n) = Ok n
outward_at place (Err f) = Err (fault.Call f place)

-- the place outside a log is 0
abbrev pub outward : Result ℕ CallFault → Result ℕ Fault
outward r = outward_at 0 r

abbrev pub is_hear : Act → Bool
is_hear (act.Ask train) = false
is_hear act.Accept = false
is_hear (act.Issue train nature pass) = false
is_hear act.Depart = false
is_hear act.Cancel = false
is_hear (act.Arrive serial) = false
is_hear (act.SetBack serial) = false
is_hear act.Report = false
is_hear act.Release = false
is_hear act.Hear = true
is_hear act.DeclareDead = false
is_hear act.Resume = false

-- a line was tried once, and something came or not; or it was not tried
abbrev pub Listened : {L : Type 0} → Line L → Bool → Station → Option Message → L → L → Type 0
Listened line tried x came l l' = cond tried (line.hears l x came l') ((came ≡ None) × (l' ≡ l))

-- whether a line takes what is said to a station, if anything is
abbrev pub takes : Station → Option Message → Meaning → Bool
takes to None l = true
takes to (Some m) l = can_post to l

-- the line once it took it
abbrev pub with_message : Station → Option Message → Meaning → Meaning
with_message to None l = l
with_message to (Some m) l = with_waits to (waits to l ++ m ∷ []) l

-- what a line did in a call: a hearing that is carried out tries it just once, a drop and a mend are its own
abbrev pub LineDid : {L : Type 0} → Line L → Option Call → Bool → Option Message → L → L → Type 0
LineDid line None done came l l' = l' ≡ l
LineDid line (Some (call.Act x minute a)) done came l l' = (is_hear a && done) ≡ true → line.hears l x came l'
LineDid line (Some call.DropLine) done came l l' = line.drops l l'
LineDid line (Some call.MendLine) done came l l' = line.mends l l'

-- a call is performed: the answer, both stations, the papers and the line are as the rules say, with what the line let come
pub record Performed {L : Type 0} (line : Line L) (c : Option Call) (answer : Result ℕ CallFault) (s s' : Section L) (q q' : Queue Paper) : Type 0 where
  pub came : Option Message
  pub ruled : record { answer = answer; after = state line s' q' } ≡ outcome_of c (chosen came (line.meaning s'.line.now)) (state line s q)
  pub by_line : LineDid line c (is_ok answer) came s.line.now s'.line.now
  -- the space of the tray, and all of the tray where the call is refused
  pub tray_kept : TrayKept q q'
  pub refused : is_ok answer ≡ false → q' ≡ q
  pub same_line : s'.line.ghost_name ≡ s.line.ghost_name

-- what comes of a call: it is performed, and its answer is shown outward
pub record Comes {L : Type 0} (line : Line L) (c : Option Call) (r : Result ℕ Fault) (s s' : Section L) (q q' : Queue Paper) : Type 0 where
  pub answer : Result ℕ CallFault
  pub shown : r ≡ outward answer
  pub done : Performed line c answer s s' q q'
