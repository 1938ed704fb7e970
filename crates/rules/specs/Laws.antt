-- Laws of the rules themselves.
use Rattle.std.specs.Prelude.{◌≡◌, ℕ, ◌≤◌, Some, None, Ok, Err}
use Rattle.vocabulary.specs.declared.fault.CallFault.{CallFault}
use Rattle.vocabulary.specs.declared.fault.CallFault.TheVariants.{Field}
use Rattle.vocabulary.specs.declared.fields.CallFields.{CallFields}
use Rattle.vocabulary.specs.declared.station.Station.{Station}
use Rattle.cabinets.specs.Calls.{call_from}
use Rattle.cabinets.specs.declared.call.Act.{Act}
use Rattle.cabinets.specs.declared.call.Call.TheVariants.{Act as act}
use Rattle.rules.specs.Outcome.{Choice, call_answer, call_refusal, outcome, section_after}
use Rattle.cabinets.specs.Refusals.{IsFirst, NoneHolds}
use Rattle.cabinets.specs.Section.{Section, cabinet, seen}
use Rattle.rules.specs.Tests.{tests}

pub record RulesHold : Type 0 where
  -- the refusal given is that of the first test that holds
  pub first : (x : Station) (minute : ℕ) (a : Act) (s : Section) (r : CallFault) → call_refusal (act x minute a) s ≡ Some r → IsFirst (tests x minute a (seen x s)) r
  -- a call that no test bars is carried out
  pub carried_out : (f : CallFields) (x : Station) (minute : ℕ) (a : Act) (ch : Choice) (s : Section) → call_from f ≡ Some (act x minute a) → NoneHolds (tests x minute a (seen x s)) → outcome f ch s ≡ record { answer = Ok (call_answer (act x minute a) ch s); after = section_after (act x minute a) ch s }
  -- fields that give no call are refused for that
  pub no_call : (f : CallFields) (ch : Choice) (s : Section) → call_from f ≡ None → (outcome f ch s).answer ≡ Err Field
  -- a refusal changes nothing
  pub unchanged : (f : CallFields) (ch : Choice) (s : Section) (r : CallFault) → (outcome f ch s).answer ≡ Err r → (outcome f ch s).after ≡ s
  -- a clock never falls
  pub clocks : (f : CallFields) (ch : Choice) (s : Section) (x : Station) → (cabinet x s).clock ≤ (cabinet x (outcome f ch s).after).clock
