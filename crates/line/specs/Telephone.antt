-- The telephone: one message may wait for each station.
use Rattle.std.specs.Prelude.{◌≡◌, true, false, [], Option}
use Rattle.std.specs.Option.{option_to_list}
use Rattle.vocabulary.specs.declared.station.Station.{Station}
use Rattle.line.specs.declared.message.Message.{Message}
use Rattle.line.specs.declared.telephone.Telephone.{Telephone}
use Rattle.line.specs.Meaning.{Meaning, fresh, with_up, with_waits}
use Rattle.line.specs.PerStation.{value_at}

-- what a telephone means
abbrev pub telephone_meaning : Telephone → Meaning
telephone_meaning t = record { up = t.up; for_a = option_to_list t.messages.a; for_b = option_to_list t.messages.b; most = 1 }

-- the message that waits for a station
abbrev pub message_for : Station → Telephone → Option Message
message_for at t = value_at at t.messages

-- hearing answers the message that waits and removes it
abbrev pub telephone_hears : Telephone → Station → Option Message → Telephone → Type 0
telephone_hears t at r t' = (r ≡ message_for at t) × (telephone_meaning t' ≡ with_waits at [] (telephone_meaning t))

-- a drop loses both messages
abbrev pub telephone_drops : Telephone → Telephone → Type 0
telephone_drops t t' = telephone_meaning t' ≡ with_up false (fresh 1)

-- a mend alters only the mark
abbrev pub telephone_mends : Telephone → Telephone → Type 0
telephone_mends t t' = telephone_meaning t' ≡ with_up true (telephone_meaning t)
