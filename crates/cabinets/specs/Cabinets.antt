-- A cabinet as it is made, and the same cabinet with another value in one field.
use Rattle.std.specs.Prelude.{ℕ, None, Option}
use Rattle.vocabulary.specs.declared.number.RecordNumber.{RecordNumber}
use Rattle.vocabulary.specs.declared.number.RightNumber.{RightNumber}
use Rattle.cabinets.specs.declared.cabinet.Acceptance.{Acceptance}
use Rattle.cabinets.specs.declared.cabinet.Ask.{Ask}
use Rattle.cabinets.specs.declared.cabinet.Cabinet.{Cabinet}
use Rattle.cabinets.specs.declared.cabinet.RecordEntry.{RecordEntry}
use Rattle.cabinets.specs.declared.paper.Working.{Working}
use Rattle.cabinets.specs.declared.paper.Working.TheVariants.{Telephone}

-- a cabinet just made: telephone working, every count 0, and nothing else yet
abbrev pub new_cabinet : Cabinet
new_cabinet = record { clock = 0; working = Telephone; right = record { 0 = 0 }; gone = 0; known = 0; taken = 0; issued = 0; cancelled = 0; set_back = 0; asks = 0; open_ask = None; acceptance = None; ask_heard = None; last_departure = None; last_arrival = None; last_record = None }

abbrev pub with_clock : ℕ → Cabinet → Cabinet
with_clock x c = record { clock = x; working = c.working; right = c.right; gone = c.gone; known = c.known; taken = c.taken; issued = c.issued; cancelled = c.cancelled; set_back = c.set_back; asks = c.asks; open_ask = c.open_ask; acceptance = c.acceptance; ask_heard = c.ask_heard; last_departure = c.last_departure; last_arrival = c.last_arrival; last_record = c.last_record }

abbrev pub with_working : Working → Cabinet → Cabinet
with_working x c = record { clock = c.clock; working = x; right = c.right; gone = c.gone; known = c.known; taken = c.taken; issued = c.issued; cancelled = c.cancelled; set_back = c.set_back; asks = c.asks; open_ask = c.open_ask; acceptance = c.acceptance; ask_heard = c.ask_heard; last_departure = c.last_departure; last_arrival = c.last_arrival; last_record = c.last_record }

abbrev pub with_right : RightNumber → Cabinet → Cabinet
with_right x c = record { clock = c.clock; working = c.working; right = x; gone = c.gone; known = c.known; taken = c.taken; issued = c.issued; cancelled = c.cancelled; set_back = c.set_back; asks = c.asks; open_ask = c.open_ask; acceptance = c.acceptance; ask_heard = c.ask_heard; last_departure = c.last_departure; last_arrival = c.last_arrival; last_record = c.last_record }

abbrev pub with_gone : ℕ → Cabinet → Cabinet
with_gone x c = record { clock = c.clock; working = c.working; right = c.right; gone = x; known = c.known; taken = c.taken; issued = c.issued; cancelled = c.cancelled; set_back = c.set_back; asks = c.asks; open_ask = c.open_ask; acceptance = c.acceptance; ask_heard = c.ask_heard; last_departure = c.last_departure; last_arrival = c.last_arrival; last_record = c.last_record }

abbrev pub with_known : ℕ → Cabinet → Cabinet
with_known x c = record { clock = c.clock; working = c.working; right = c.right; gone = c.gone; known = x; taken = c.taken; issued = c.issued; cancelled = c.cancelled; set_back = c.set_back; asks = c.asks; open_ask = c.open_ask; acceptance = c.acceptance; ask_heard = c.ask_heard; last_departure = c.last_departure; last_arrival = c.last_arrival; last_record = c.last_record }

abbrev pub with_taken : ℕ → Cabinet → Cabinet
with_taken x c = record { clock = c.clock; working = c.working; right = c.right; gone = c.gone; known = c.known; taken = x; issued = c.issued; cancelled = c.cancelled; set_back = c.set_back; asks = c.asks; open_ask = c.open_ask; acceptance = c.acceptance; ask_heard = c.ask_heard; last_departure = c.last_departure; last_arrival = c.last_arrival; last_record = c.last_record }

abbrev pub with_issued : ℕ → Cabinet → Cabinet
with_issued x c = record { clock = c.clock; working = c.working; right = c.right; gone = c.gone; known = c.known; taken = c.taken; issued = x; cancelled = c.cancelled; set_back = c.set_back; asks = c.asks; open_ask = c.open_ask; acceptance = c.acceptance; ask_heard = c.ask_heard; last_departure = c.last_departure; last_arrival = c.last_arrival; last_record = c.last_record }

abbrev pub with_cancelled : ℕ → Cabinet → Cabinet
with_cancelled x c = record { clock = c.clock; working = c.working; right = c.right; gone = c.gone; known = c.known; taken = c.taken; issued = c.issued; cancelled = x; set_back = c.set_back; asks = c.asks; open_ask = c.open_ask; acceptance = c.acceptance; ask_heard = c.ask_heard; last_departure = c.last_departure; last_arrival = c.last_arrival; last_record = c.last_record }

abbrev pub with_set_back : ℕ → Cabinet → Cabinet
with_set_back x c = record { clock = c.clock; working = c.working; right = c.right; gone = c.gone; known = c.known; taken = c.taken; issued = c.issued; cancelled = c.cancelled; set_back = x; asks = c.asks; open_ask = c.open_ask; acceptance = c.acceptance; ask_heard = c.ask_heard; last_departure = c.last_departure; last_arrival = c.last_arrival; last_record = c.last_record }

abbrev pub with_asks : ℕ → Cabinet → Cabinet
with_asks x c = record { clock = c.clock; working = c.working; right = c.right; gone = c.gone; known = c.known; taken = c.taken; issued = c.issued; cancelled = c.cancelled; set_back = c.set_back; asks = x; open_ask = c.open_ask; acceptance = c.acceptance; ask_heard = c.ask_heard; last_departure = c.last_departure; last_arrival = c.last_arrival; last_record = c.last_record }

abbrev pub with_open_ask : Option Ask → Cabinet → Cabinet
with_open_ask x c = record { clock = c.clock; working = c.working; right = c.right; gone = c.gone; known = c.known; taken = c.taken; issued = c.issued; cancelled = c.cancelled; set_back = c.set_back; asks = c.asks; open_ask = x; acceptance = c.acceptance; ask_heard = c.ask_heard; last_departure = c.last_departure; last_arrival = c.last_arrival; last_record = c.last_record }

abbrev pub with_acceptance : Option Acceptance → Cabinet → Cabinet
with_acceptance x c = record { clock = c.clock; working = c.working; right = c.right; gone = c.gone; known = c.known; taken = c.taken; issued = c.issued; cancelled = c.cancelled; set_back = c.set_back; asks = c.asks; open_ask = c.open_ask; acceptance = x; ask_heard = c.ask_heard; last_departure = c.last_departure; last_arrival = c.last_arrival; last_record = c.last_record }

abbrev pub with_ask_heard : Option Ask → Cabinet → Cabinet
with_ask_heard x c = record { clock = c.clock; working = c.working; right = c.right; gone = c.gone; known = c.known; taken = c.taken; issued = c.issued; cancelled = c.cancelled; set_back = c.set_back; asks = c.asks; open_ask = c.open_ask; acceptance = c.acceptance; ask_heard = x; last_departure = c.last_departure; last_arrival = c.last_arrival; last_record = c.last_record }

abbrev pub with_last_departure : Option ℕ → Cabinet → Cabinet
with_last_departure x c = record { clock = c.clock; working = c.working; right = c.right; gone = c.gone; known = c.known; taken = c.taken; issued = c.issued; cancelled = c.cancelled; set_back = c.set_back; asks = c.asks; open_ask = c.open_ask; acceptance = c.acceptance; ask_heard = c.ask_heard; last_departure = x; last_arrival = c.last_arrival; last_record = c.last_record }

abbrev pub with_last_arrival : Option RecordNumber → Cabinet → Cabinet
with_last_arrival x c = record { clock = c.clock; working = c.working; right = c.right; gone = c.gone; known = c.known; taken = c.taken; issued = c.issued; cancelled = c.cancelled; set_back = c.set_back; asks = c.asks; open_ask = c.open_ask; acceptance = c.acceptance; ask_heard = c.ask_heard; last_departure = c.last_departure; last_arrival = x; last_record = c.last_record }

abbrev pub with_last_record : Option RecordEntry → Cabinet → Cabinet
with_last_record x c = record { clock = c.clock; working = c.working; right = c.right; gone = c.gone; known = c.known; taken = c.taken; issued = c.issued; cancelled = c.cancelled; set_back = c.set_back; asks = c.asks; open_ask = c.open_ask; acceptance = c.acceptance; ask_heard = c.ask_heard; last_departure = c.last_departure; last_arrival = c.last_arrival; last_record = x }
