-- How many turns a day has.
use Rattle.std.specs.Prelude.{◌≡◌, ℕ, List, Ok, Err, Result, length}
use Rattle.daylog.specs.Bytes.{calls_in}
use Rattle.daylog.specs.Reading.{calls_of}
use Rattle.day.specs.Day.{day}
use Rattle.day.specs.declared.DayError.{DayError}
use Rattle.day.specs.declared.DayError.TheVariants.{Memory, Refused}

-- as many as the log has calls: none is lost, the first no more than another; or the day is refused, or there was no memory
abbrev pub Counted : Result ℕ DayError → List ℕ → Type 0
Counted (Ok n) log = n ≡ length (calls_in (calls_of log))
Counted (Err (Refused f)) log = Err f ≡ day log
Counted (Err Memory) log = Unit
