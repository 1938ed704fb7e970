-- Every run of a section as the cabinets carry it out: a making, and then any calls, over any line that keeps the meaning.
use Rattle.std.specs.Prelude.{◌≡◌, [], ◌∷◌, Ok}
use Rattle.vocabulary.specs.declared.fields.CallFields.{CallFields}
use Rattle.cabinets.specs.Calls.{call_from}
use Rattle.cabinets.specs.Making.{Making, making}
use Rattle.cabinets.specs.Outcome.{Choice, outcome}
use Rattle.cabinets.specs.Section.{Section}
use Rattle.rules.specs.History.{History}
use Rattle.rules.specs.Runs.{KeepsMeaning}

-- a history, and the section after it
pub data Run : History → Section → Type 0 where
  just_made : {s : Section} → (m : Making) → making m ≡ Ok s → Run [] s
  then_called : {h : History} {s : Section} → Run h s → (f : CallFields) (ch : Choice) → KeepsMeaning (call_from f) ch s → Run (record { fields = f; answer = (outcome f ch s).answer } ∷ h) (outcome f ch s).after
