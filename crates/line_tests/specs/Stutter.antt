-- A line that loses and repeats, by what it means. What it does is said only as far as the laws of a line go.
use Rattle.std.specs.Prelude.{true, false, Option}
use Rattle.std.proofs.Common.{arith}
use Rattle.std.specs.Option.{option_to_list}
use Rattle.vocabulary.specs.declared.station.Station.{Station}
use Rattle.line.specs.Laws.{Laws}
use Rattle.line.specs.Meaning.{Heard, Marked, Meaning}
use Rattle.line.specs.declared.message.Message.{Message}
use Rattle.line_tests.specs.declared.stutter.Stutter.{Stutter}

-- what it means: one message may wait for each station
abbrev pub stutter_meaning : Stutter → Meaning
stutter_meaning s = record { up = s.up; for_a = option_to_list s.messages.a; for_b = option_to_list s.messages.b; most = 1 }

-- a hearing, a drop and a mend do what a line may do
abbrev pub stutter_hears : Stutter → Station → Option Message → Stutter → Type 0
stutter_hears s at r s' = Heard at (stutter_meaning s) r (stutter_meaning s')

abbrev pub stutter_drops : Stutter → Stutter → Type 0
stutter_drops s s' = Marked false (stutter_meaning s) (stutter_meaning s')

abbrev pub stutter_mends : Stutter → Stutter → Type 0
stutter_mends s s' = Marked true (stutter_meaning s) (stutter_meaning s')

pub stutter_laws : Laws stutter_meaning stutter_hears stutter_drops stutter_mends
stutter_laws = record { some = λ s. omega arith; heard = λ s at r s' h. h; dropped = λ s s' h. h; mended = λ s s' h. h }
