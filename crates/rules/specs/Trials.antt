-- Trials of the rules: short runs over the telephone, with what comes of them.
use Rattle.std.specs.Prelude.{◌≡◌, ℕ, true, false, List, [], ◌∷◌, Some, None, Ok, Err, Option, Result}
use Rattle.line.specs.Meaning.{waits}
use Rattle.line.specs.declared.message.Message.{Message}
use Rattle.vocabulary.specs.Faults.{fault_number}
use Rattle.vocabulary.specs.declared.fault.CallFault.{CallFault}
use Rattle.vocabulary.specs.declared.fault.Fault.TheVariants as of
use Rattle.vocabulary.specs.declared.fields.CallFields.{CallFields}
use Rattle.vocabulary.specs.declared.station.Station.TheVariants.{A, B}
use Rattle.cabinets.specs.Cabinets.{new_cabinet, with_last_record}
use Rattle.cabinets.specs.Calls.{call_from}
use Rattle.cabinets.specs.declared.call.Call.{Call}
use Rattle.cabinets.specs.declared.call.Call.TheVariants.{Act as act, DropLine as drop_line, MendLine as mend_line}
use Rattle.rules.specs.History.{History, deeds, departure, live, name}
use Rattle.cabinets.specs.Making.{Making, new_section}
use Rattle.cabinets.specs.Outcome.{Choice}
use Rattle.rules.specs.Outcome.{outcome}
use Rattle.cabinets.specs.Records.{next_record}
use Rattle.cabinets.specs.Rights.{has_right}
use Rattle.rules.specs.Runs.{Run}
use Rattle.cabinets.specs.Section.{Section}
use Rattle.cabinets.specs.Track.{interval}
use Rattle.vocabulary.specs.declared.kind.TrackKind.TheVariants.{Single}

-- a making for trials: a single track of 12 minutes, a tray of 4, and the telephone, which is up and empty
abbrev pub trial_making : Making
trial_making = record { track = 0; running_time = 12; size = 4; space = 4; line_fits = true; line = record { up = true; for_a = []; for_b = []; most = 1 } }

-- a call by its number, station, minute and number of train or serial
abbrev pub call : ℕ → ℕ → ℕ → ℕ → CallFields
call k x minute n = record { call = k; station = x; minute = minute; number = n; nature = 0; pass = 0 }

-- an issue of a train of some nature
abbrev pub issuing : ℕ → ℕ → ℕ → ℕ → CallFields
issuing x minute train nature = record { call = 3; station = x; minute = minute; number = train; nature = nature; pass = 0 }

abbrev pub drop_it : CallFields
drop_it = call 13 0 0 0

abbrev pub first_of : List Message → Option Message
first_of [] = None
first_of (m ∷ ms) = Some m

-- what the telephone chooses: hearing takes its one message away, a drop loses both, a mend neither
abbrev pub telephone_chooses : Option Call → Section → Choice
telephone_chooses None s = record { came = None; left_a = []; left_b = [] }
telephone_chooses (Some (act x minute a)) s = record { came = first_of (waits x s.line); left_a = []; left_b = [] }
telephone_chooses (Some drop_line) s = record { came = None; left_a = []; left_b = [] }
telephone_chooses (Some mend_line) s = record { came = None; left_a = s.line.for_a; left_b = s.line.for_b }

-- a history, and the section after it
pub record Played : Type 0 where
  pub history : History
  pub section : Section

abbrev pub played_on : CallFields → Choice → Played → Played
played_on f ch p = record { history = record { fields = f; answer = (outcome f ch p.section).answer } ∷ p.history; section = (outcome f ch p.section).after }

-- calls made one after another over the telephone, the first of the list first
abbrev pub play : List CallFields → Played → Played
play [] p = p
play (f ∷ fs) p = play fs (played_on f (telephone_chooses (call_from f) p.section) p)

abbrev pub trial : List CallFields → Played
trial fs = play fs (record { history = []; section = new_section trial_making })

abbrev pub refusal_number : Result ℕ CallFault → Option ℕ
refusal_number (Ok n) = None
refusal_number (Err f) = Some (fault_number (of.Call f 0))

abbrev pub answer_to : CallFields → Section → Result ℕ CallFault
answer_to f s = (outcome f (telephone_chooses (call_from f) s) s).answer

-- a call is refused after some calls, with a fault's number
abbrev pub RefusedAfter : List CallFields → CallFields → ℕ → Type 0
RefusedAfter fs f n = refusal_number (answer_to f (trial fs).section) ≡ Some n

-- the line drops, and a station goes dead
abbrev pub dead_at : ℕ → List CallFields
dead_at x = drop_it ∷ call 11 x 0 0 ∷ []

-- B asks, A hears and accepts, the telephone drops, and both go dead
abbrev pub acceptance_lost : List CallFields
acceptance_lost = call 1 1 0 2 ∷ call 10 0 0 0 ∷ call 2 0 0 0 ∷ drop_it ∷ call 11 0 0 0 ∷ call 11 1 0 0 ∷ []

pub record BenchTrials : Type 0 where
  pub ten : interval (record { kind = Single; running_time = 10 }) ≡ 13
  pub eleven : interval (record { kind = Single; running_time = 11 }) ≡ 14
  pub fresh_a : RefusedAfter [] (issuing 0 0 41 0) 23
  pub fresh_b : RefusedAfter [] (issuing 1 0 42 0) 21
  pub dead_working : RefusedAfter (dead_at 0) (issuing 0 0 41 1) 24
  pub dead_rescue : answer_to (issuing 0 0 41 2) (trial (dead_at 0)).section ≡ Ok 1
  pub new_day : (next_record 1_440 (with_last_record (Some (record { «record» = record { 0 = 5 }; day = 0 })) new_cabinet) ≡ 1) × (next_record 1_439 (with_last_record (Some (record { «record» = record { 0 = 5 }; day = 0 })) new_cabinet) ≡ 6)
  pub lost_a : RefusedAfter acceptance_lost (issuing 0 0 41 0) 21
  pub lost_b : RefusedAfter acceptance_lost (issuing 1 0 42 0) 21

-- whatever is played over the telephone is a run
abbrev pub TrialsAreRuns : Type 0
TrialsAreRuns = (fs : List CallFields) → Run (trial fs).history (trial fs).section

-- in dead working, two trains of A on their way, an interval apart
abbrev pub two_out : List CallFields
two_out = drop_it ∷ call 11 0 0 0 ∷ issuing 0 0 41 0 ∷ call 4 0 0 0 ∷ issuing 0 14 43 0 ∷ issuing 0 15 43 0 ∷ call 4 0 15 0 ∷ []

-- B asks, A hears and accepts, B hears: the right is with B
abbrev pub crossing : List CallFields
crossing = call 1 1 0 2 ∷ call 10 0 0 0 ∷ call 2 0 0 0 ∷ call 10 1 0 0 ∷ []

-- B's train goes with the right, and arrives at A
abbrev pub back_again : List CallFields
back_again = call 1 1 0 2 ∷ call 10 0 0 0 ∷ call 2 0 0 0 ∷ call 10 1 0 0 ∷ issuing 1 0 2 0 ∷ call 4 1 5 0 ∷ call 6 0 15 1 ∷ []

-- runs in which each law has something to say
pub record NotEmpty : Type 0 where
  pub runs : TrialsAreRuns
  pub two_live : live (deeds (trial two_out).history) ≡ name A 1 ∷ name A 2 ∷ []
  pub departures : (departure (name A 1) (deeds (trial two_out).history) ≡ Some 0) × (departure (name A 2) (deeds (trial two_out).history) ≡ Some 15) × (interval (trial two_out).section.track ≡ 15)
  pub crossed : (has_right A (trial crossing).section.at_a ≡ false) × (has_right B (trial crossing).section.at_b ≡ true)
  pub came_back : (has_right A (trial back_again).section.at_a ≡ true) × (has_right B (trial back_again).section.at_b ≡ false) × (live (deeds (trial back_again).history) ≡ [])
  pub lost : (has_right A (trial acceptance_lost).section.at_a ≡ false) × (has_right B (trial acceptance_lost).section.at_b ≡ false)
