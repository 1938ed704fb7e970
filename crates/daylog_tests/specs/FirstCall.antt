-- The first call of a log.
use Rattle.std.specs.Prelude.{ℕ, List, Some, None, Option, slice_get}
use Rattle.vocabulary.specs.declared.fault.Fault.{Fault}
use Rattle.vocabulary.specs.declared.fields.CallFields.{CallFields}
use Rattle.daylog.specs.Laws.{bodies_calls}
use Rattle.daylog.specs.Reading.{log_fault}

-- the first of some calls, if there is one and nothing is wrong
abbrev pub first_unless : Option Fault → List CallFields → Option CallFields
first_unless None calls = slice_get calls 0
first_unless (Some f) calls = None

-- the first of the calls of a log's bodies, one body after another; none where the log is refused
abbrev pub first_call_of : List ℕ → Option CallFields
first_call_of log = first_unless (log_fault log) (bodies_calls log)
