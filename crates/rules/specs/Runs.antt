-- Every run of a section: a making, and then any calls, over any line that keeps the meaning.
use Rattle.std.specs.Prelude.{◌≡◌, true, false, [], ◌∷◌, Some, None, Ok, Option}
use Rattle.line.specs.Meaning.{Heard, Marked, with_waits}
use Rattle.vocabulary.specs.declared.fields.CallFields.{CallFields}
use Rattle.vocabulary.specs.declared.station.Station.{Station}
use Rattle.cabinets.specs.Calls.{call_from}
use Rattle.cabinets.specs.declared.call.Act.{Act}
use Rattle.cabinets.specs.declared.call.Call.{Call}
use Rattle.cabinets.specs.declared.call.Act.TheVariants.{Hear as hear}
use Rattle.cabinets.specs.declared.call.Call.TheVariants.{Act as act, DropLine as drop_line, MendLine as mend_line}
use Rattle.rules.specs.History.{History}
use Rattle.cabinets.specs.Making.{Making, making}
use Rattle.rules.specs.Outcome.{Choice, call_refusal, left, marked, outcome}
use Rattle.cabinets.specs.Section.{Section}

-- what a line may choose when a station acts: only a hearing asks it for anything
abbrev pub MayChoose : Station → Act → Choice → Section → Type 0
MayChoose x hear ch s = Heard x s.line ch.came (with_waits x (left x ch) s.line)
MayChoose x a ch s = Unit

-- what a line may choose at a call that is carried out
abbrev pub KeepsMeaning : Option Call → Choice → Section → Type 0
KeepsMeaning None ch s = Unit
KeepsMeaning (Some (act x minute a)) ch s = call_refusal (act x minute a) s ≡ None → MayChoose x a ch s
KeepsMeaning (Some drop_line) ch s = Marked false s.line (marked false ch s).line
KeepsMeaning (Some mend_line) ch s = Marked true s.line (marked true ch s).line

-- a history, and the section after it
pub data Run : History → Section → Type 0 where
  just_made : {s : Section} → (m : Making) → making m ≡ Ok s → Run [] s
  then_called : {h : History} {s : Section} → Run h s → (f : CallFields) (ch : Choice) → KeepsMeaning (call_from f) ch s → Run (record { fields = f; answer = (outcome f ch s).answer } ∷ h) (outcome f ch s).after
