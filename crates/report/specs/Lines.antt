-- The lines of a day's report, as text.
use Rattle.std.specs.Prelude.{ℕ, List, ◌++◌, codes, decimal}
use Rattle.section.specs.declared.turn.Turn.{Turn}
use Rattle.vocabulary.specs.Words.{track_word}
use Rattle.report.specs.Words.{answer_words, counts_words, station_at, station_letter}
use Rattle.report.specs.declared.values.End.{End}
use Rattle.report.specs.declared.values.Made.{Made}

-- how the section was made: the track, the running time and the size of the tray
abbrev pub made_line : Made → List ℕ
made_line m =
    codes "made " ++ (track_word m.track
    ++ (codes " " ++ (decimal m.running_time
    ++ (codes " " ++ decimal m.tray))))

-- a call: its byte place in the log, the byte of the call, its station, and what came of it
abbrev pub call_line : Turn → List ℕ
call_line c =
    decimal c.place ++ (codes " " ++ (decimal c.fields.call
    ++ (codes " " ++ (station_letter (station_at c.fields)
    ++ (codes " " ++ answer_words c.answer)))))

-- the end: the papers live, then what the cabinets of A and of B counted
abbrev pub end_line : End → List ℕ
end_line e =
    codes "end " ++ (decimal e.live
    ++ (codes " " ++ (counts_words e.a
    ++ (codes " " ++ counts_words e.b))))
