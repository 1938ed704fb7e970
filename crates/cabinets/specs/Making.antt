-- How a section is made, and when a making is refused.
use Rattle.std.specs.Prelude.{ℕ, Bool, cond, not, ◌&&◌, ◌||◌, List, [], ◌∷◌, length, Some, None, Ok, Err, Option, Result, ◌==◌, nat_lt}
use Rattle.line.specs.Meaning.{Meaning}
use Rattle.vocabulary.specs.declared.fault.MakingFault.{MakingFault}
use Rattle.vocabulary.specs.declared.fault.MakingFault.TheVariants as fault
use Rattle.cabinets.specs.Cabinets.{new_cabinet}
use Rattle.cabinets.specs.Calls.{within}
use Rattle.cabinets.specs.Refusals.{Test, refusal, refuse}
use Rattle.cabinets.specs.Section.{Section}
use Rattle.vocabulary.specs.declared.kind.TrackKind.{TrackKind}
use Rattle.vocabulary.specs.declared.kind.TrackKind.TheVariants.{Single, OneWay}

-- what a section is made of: the number of its track's kind, the running time, the tray's size and the space lent for it, whether the line has the space that its kind wants, and the line
pub record Making : Type 0 where
  pub track : ℕ
  pub running_time : ℕ
  pub size : ℕ
  pub space : ℕ
  pub line_fits : Bool
  pub line : Meaning

-- kind 0 is single, kind 1 one-way
abbrev pub track_kind : ℕ → TrackKind
track_kind n = cond (n == 1) OneWay Single

-- some message waits on a line
abbrev pub some_wait : Meaning → Bool
some_wait m = not (length m.for_a == 0 && length m.for_b == 0)

-- the tests of a making behind that of its track and its line
abbrev pub later_tests : Making → List (Test MakingFault)
later_tests m =
    refuse fault.RunningTime (not (within 1 240 m.running_time))
    ∷ refuse fault.Space (not (within 1 64 m.size) || (nat_lt m.space m.size || not m.line_fits))
    ∷ refuse fault.MessageWaiting (some_wait m.line)
    ∷ []

-- the tests of a making, in their order
abbrev pub making_tests : Making → List (Test MakingFault)
making_tests m = refuse fault.TrackKind (nat_lt 1 m.track) ∷ later_tests m

-- the same of a making from a log, which also gives the line by its number: 0 the telephone, 1 the printer
abbrev pub log_making_tests : ℕ → Making → List (Test MakingFault)
log_making_tests line m = refuse fault.TrackKind (nat_lt 1 m.track) ∷ refuse fault.LineKind (nat_lt 1 line) ∷ later_tests m

-- the section just made
abbrev pub new_section : Making → Section
new_section m = record {
  track = record { kind = track_kind m.track; running_time = m.running_time };
  at_a = new_cabinet;
  at_b = new_cabinet;
  tray = [];
  size = m.size;
  line = m.line;
}

abbrev pub made_unless : Option MakingFault → Making → Result Section MakingFault
made_unless None m = Ok (new_section m)
made_unless (Some f) m = Err f

-- what a making answers
abbrev pub making : Making → Result Section MakingFault
making m = made_unless (refusal (making_tests m)) m
