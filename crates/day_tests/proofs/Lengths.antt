-- A day has a turn for each call of its log.
use Rattle.std.proofs.Common.{◌≡◌, ℕ, ◌+◌, ◌-◌, Bool, List, [], ◌∷◌, length, None, Some, Ok, Err, Option, Result, refl, ◌∙◌, arith}
use Rattle.vocabulary.specs.declared.fault.Fault.{Fault}
use Rattle.vocabulary.specs.declared.fault.MakingFault.{MakingFault}
use Rattle.vocabulary.specs.declared.fields.CallFields.{CallFields}
use Rattle.vocabulary.specs.declared.fields.MakingFields.{MakingFields}
use Rattle.daylog.specs.Bytes.{calls_in, making_from}
use Rattle.daylog.specs.Laws.{call_place}
use Rattle.daylog.specs.Reading.{body_of, calls_of, log_fault}
use Rattle.cabinets.specs.Making.{log_making_tests, new_section}
use Rattle.cabinets.specs.Outcome.{Outcome}
use Rattle.cabinets.specs.Refusals.{refusal}
use Rattle.cabinets.specs.Section.{Section}
use Rattle.section.specs.declared.turn.Turn.{Turn}
use Rattle.day.specs.declared.DayReport.{DayReport}
use Rattle.day.specs.Day.{Day, answers, day, day_made, day_read, is_printer, outcome_at, plan_of, told, turns_at}

length-turns_at : (place : ℕ) (fs : List CallFields) → length (turns_at place fs) ≡ length fs
length-turns_at place [] = refl
length-turns_at place (f ∷ fs) = omega (arith, length-turns_at (place + 12) fs)

length-answers : (printer : Bool) (ts : List Turn) (s : Section) → length (answers printer ts s) ≡ length ts
length-answers printer [] s = refl
length-answers printer (t ∷ ts) s = omega (arith, length-answers printer ts (outcome_at printer t s).after)

when_made : (o : Option MakingFault) (place : ℕ) (m : MakingFields) (ts : List Turn) (d : Day) → Ok d ≡ day_made o place m ts → length d.turns ≡ length ts
when_made None place m ts d e = let r = length-answers (is_printer m) ts (new_section (plan_of (is_printer m) m)) in cc
when_made (Some f) place m ts d e = let z : ◌≡◌ {A = ℕ} 0 1 = cc in absurd (omega arith)

when_read : (o : Option Fault) (first : ℕ) (m : MakingFields) (fs : List CallFields) (d : Day) → Ok d ≡ day_read o first m fs → length d.turns ≡ length fs
when_read None first m fs d e = when_made (refusal (log_making_tests m.line (plan_of (is_printer m) m))) (first - 4) m (turns_at first fs) d e ∙ length-turns_at first fs
when_read (Some f) first m fs d e = let z : ◌≡◌ {A = ℕ} 0 1 = cc in absurd (omega arith)

-- a report of a log has as many turns as the log has calls
pub turns_of_day : (d : DayReport) (log : List ℕ) → Ok (told d) ≡ day log → length d.turns.items ≡ length (calls_in (calls_of log))
turns_of_day d log e = when_read (log_fault log) (call_place log 0) (making_from (body_of log 0)) (calls_in (calls_of log)) (told d) e
