-- The words that the lines of a report are made of.
use Rattle.std.specs.Prelude.{ℕ, cond, ◌||◌, List, ◌++◌, Some, None, Ok, Err, codes, decimal, Option, Result, ◌==◌}
use Rattle.vocabulary.specs.Faults.{fault_number}
use Rattle.vocabulary.specs.Stations.{station_of}
use Rattle.vocabulary.specs.Words.{station_word}
use Rattle.vocabulary.specs.declared.fault.Fault.{Fault}
use Rattle.vocabulary.specs.declared.fields.CallFields.{CallFields}
use Rattle.vocabulary.specs.declared.station.Station.{Station}
use Rattle.report.specs.declared.values.Counts.{Counts}

-- a station, or a dash where there is none
abbrev pub station_letter : Option Station → List ℕ
station_letter (Some x) = station_word x
station_letter None = codes "-"

-- the station of a call, if it has one: a drop (13) or a mend (14) of the line is at no station
abbrev pub station_at : CallFields → Option Station
station_at c = cond (c.call == 13 || c.call == 14) None (station_of c.station)

-- what came of a call: the answer, or the number of the refusal
abbrev pub answer_words : Result ℕ Fault → List ℕ
answer_words (Ok n) = codes "ok " ++ decimal n
answer_words (Err f) = codes "no " ++ decimal (fault_number f)

-- what a cabinet counted: papers issued, cancelled, set back and taken
abbrev pub counts_words : Counts → List ℕ
counts_words c =
    decimal c.issued ++ (codes " " ++ (decimal c.cancelled
    ++ (codes " " ++ (decimal c.set_back
    ++ (codes " " ++ decimal c.taken)))))
