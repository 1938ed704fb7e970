-- Trials of the rules as the cabinets carry them out: short runs over the telephone, with what comes of them.
use Rattle.std.specs.Prelude.{◌≡◌, ℕ, true, false, List, [], ◌∷◌, Some, Ok, Result}
use Rattle.vocabulary.specs.declared.fault.CallFault.{CallFault}
use Rattle.vocabulary.specs.declared.fields.CallFields.{CallFields}
use Rattle.vocabulary.specs.declared.kind.TrackKind.TheVariants.{Single}
use Rattle.vocabulary.specs.declared.station.Station.TheVariants.{A, B}
use Rattle.cabinets.specs.Cabinets.{new_cabinet, with_last_record}
use Rattle.cabinets.specs.Calls.{call_from}
use Rattle.cabinets.specs.Making.{new_section}
use Rattle.cabinets.specs.Outcome.{Choice, outcome}
use Rattle.cabinets.specs.Records.{next_record}
use Rattle.cabinets.specs.Rights.{has_right}
use Rattle.cabinets.specs.Section.{Section}
use Rattle.cabinets.specs.Track.{interval}
use Rattle.rules.specs.History.{deeds, departure, live, name}
use Rattle.rules.specs.Trials.{Played, acceptance_lost, back_again, crossing, dead_at, issuing, refusal_number, telephone_chooses, trial_making, two_out}
use Rattle.law.specs.Runs.{Run}

abbrev pub played_on : CallFields → Choice → Played → Played
played_on f ch p = record { history = record { fields = f; answer = (outcome f ch p.section).answer } ∷ p.history; section = (outcome f ch p.section).after }

-- calls made one after another over the telephone, the first of the list first
abbrev pub play : List CallFields → Played → Played
play [] p = p
play (f ∷ fs) p = play fs (played_on f (telephone_chooses (call_from f) p.section) p)

abbrev pub trial : List CallFields → Played
trial fs = play fs (record { history = []; section = new_section trial_making })

abbrev pub answer_to : CallFields → Section → Result ℕ CallFault
answer_to f s = (outcome f (telephone_chooses (call_from f) s) s).answer

-- a call is refused after some calls, with a fault's number
abbrev pub RefusedAfter : List CallFields → CallFields → ℕ → Type 0
RefusedAfter fs f n = refusal_number (answer_to f (trial fs).section) ≡ Some n

pub record BenchTrials : Type 0 where
  pub ten : interval (record { kind = Single; running_time = 10 }) ≡ 13
  pub eleven : interval (record { kind = Single; running_time = 11 }) ≡ 14
  pub fresh_a : RefusedAfter [] (issuing 0 0 41 0) 23
  pub fresh_b : RefusedAfter [] (issuing 1 0 42 0) 21
  pub dead_working : RefusedAfter (dead_at 0) (issuing 0 0 41 1) 24
  pub dead_rescue : answer_to (issuing 0 0 41 2) (trial (dead_at 0)).section ≡ Ok 1
  pub new_day : (next_record 1_440 (with_last_record (Some (record { «record» = record { 0 = 5 }; day = 0 })) new_cabinet) ≡ 1) × (next_record 1_439 (with_last_record (Some (record { «record» = record { 0 = 5 }; day = 0 })) new_cabinet) ≡ 6)
  pub lost_a : RefusedAfter acceptance_lost (issuing 0 0 41 0) 21
  pub lost_b : RefusedAfter acceptance_lost (issuing 1 0 42 0) 21

-- whatever is played over the telephone is a run
abbrev pub TrialsAreRuns : Type 0
TrialsAreRuns = (fs : List CallFields) → Run (trial fs).history (trial fs).section

-- runs in which each law has something to say
pub record NotEmpty : Type 0 where
  pub runs : TrialsAreRuns
  pub two_live : live (deeds (trial two_out).history) ≡ name A 1 ∷ name A 2 ∷ []
  pub departures : (departure (name A 1) (deeds (trial two_out).history) ≡ Some 0) × (departure (name A 2) (deeds (trial two_out).history) ≡ Some 15) × (interval (trial two_out).section.track ≡ 15)
  pub crossed : (has_right A (trial crossing).section.at_a ≡ false) × (has_right B (trial crossing).section.at_b ≡ true)
  pub came_back : (has_right A (trial back_again).section.at_a ≡ true) × (has_right B (trial back_again).section.at_b ≡ false) × (live (deeds (trial back_again).history) ≡ [])
  pub lost : (has_right A (trial acceptance_lost).section.at_a ≡ false) × (has_right B (trial acceptance_lost).section.at_b ≡ false)
