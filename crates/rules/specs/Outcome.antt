-- What any call does to any section, whatever the line lets come and leaves waiting, where the counts have no end.
use Rattle.std.specs.Prelude.{ℕ, true, false, Some, None, Err, Option}
use Rattle.vocabulary.specs.declared.fault.CallFault.{CallFault}
use Rattle.vocabulary.specs.declared.fault.CallFault.TheVariants.{Field}
use Rattle.vocabulary.specs.declared.fields.CallFields.{CallFields}
use Rattle.cabinets.specs.Calls.{call_from}
use Rattle.cabinets.specs.declared.call.Call.{Call}
use Rattle.cabinets.specs.declared.call.Call.TheVariants.{Act as act, DropLine as drop_line, MendLine as mend_line}
pub use Rattle.cabinets.specs.Outcome.{Choice, Outcome, judged, left, marked}
use Rattle.cabinets.specs.Refusals.{refusal}
use Rattle.cabinets.specs.Section.{Section, seen, unseen}
use Rattle.rules.specs.Effects.{answer_of, view_after}
use Rattle.rules.specs.Tests.{tests}

-- why a call is refused, if it is; a call on the line is not
abbrev pub call_refusal : Call → Section → Option CallFault
call_refusal (act x minute a) s = refusal (tests x minute a (seen x s))
call_refusal drop_line s = None
call_refusal mend_line s = None

-- the section after a call that is carried out
abbrev pub section_after : Call → Choice → Section → Section
section_after (act x minute a) ch s = unseen x (view_after x minute a ch.came (left x ch) (seen x s))
section_after drop_line ch s = marked false ch s
section_after mend_line ch s = marked true ch s

-- the answer to a call that is carried out
abbrev pub call_answer : Call → Choice → Section → ℕ
call_answer (act x minute a) ch s = answer_of minute a ch.came (seen x s)
call_answer drop_line ch s = 0
call_answer mend_line ch s = 0

-- fields that give no call are refused before all else
abbrev pub outcome_of : Option Call → Choice → Section → Outcome
outcome_of None ch s = record { answer = Err Field; after = s }
outcome_of (Some c) ch s = judged (call_refusal c s) (call_answer c ch s) (section_after c ch s) s

-- what comes of a call, given by its fields
abbrev pub outcome : CallFields → Choice → Section → Outcome
outcome f ch s = outcome_of (call_from f) ch s
