-- What each act answers at its cabinet, and the cabinet afterwards. Whether a message can be posted is not a cabinet's to know: the four acts that post answer the message.
use Rattle.std.specs.Prelude.{ℕ, Bool, Some, None, Ok, Err, Option, Result}
use Rattle.line.specs.declared.message.Message.{Message}
use Rattle.line.specs.declared.message.MessageKind.{MessageKind}
use Rattle.vocabulary.specs.declared.fault.CallFault.{CallFault}
use Rattle.vocabulary.specs.declared.number.Serial.{Serial}
use Rattle.vocabulary.specs.declared.station.Station.{Station}
use Rattle.cabinets.specs.Cabinets.{with_clock, with_working}
use Rattle.cabinets.specs.Effects.{acceptance_message, accepted, ask_message, asked, came_kind, cancelled_one, gone_dead, heard, issued_one, paper_for, release_message, released, report_message, risen, sent, took, took_back}
use Rattle.cabinets.specs.Records.{with_next_record}
use Rattle.cabinets.specs.Refusals.{refusal}
use Rattle.cabinets.specs.Tests.{accept_tests, arrive_tests, ask_tests, declare_dead_tests, hear_tests, in_hand_tests, issue_tests, release_tests, report_tests, resume_tests, set_back_tests}
use Rattle.cabinets.specs.Tray.{carried_by, serial_of}
use Rattle.cabinets.specs.declared.cabinet.Cabinet.{Cabinet}
use Rattle.cabinets.specs.declared.paper.Paper.{Paper}
use Rattle.cabinets.specs.declared.paper.Working.TheVariants.{Telephone}
use Rattle.cabinets.specs.declared.sight.Sight.{Sight}
use Rattle.vocabulary.specs.declared.kind.Nature.{Nature}

-- an act carried out; or refused, and then the cabinet is as it was
abbrev pub done : {R : Type 0} → Option CallFault → R → Cabinet → Cabinet → Result R CallFault × Cabinet
done None r after before = (Ok r, after)
done (Some f) r after before = (Err f, before)

abbrev pub asking : ℕ → ℕ → Sight → Cabinet → Result Message CallFault × Cabinet
asking minute train g c =
    done (refusal (ask_tests minute c g)) (ask_message train (asked train (with_clock minute c))) (asked train (with_clock minute c)) c

abbrev pub accepting : Station → ℕ → Sight → Cabinet → Result Message CallFault × Cabinet
accepting x minute g c =
    done (refusal (accept_tests x minute c g)) (acceptance_message minute c (accepted x minute (with_clock minute c))) (accepted x minute (with_clock minute c)) c

abbrev pub issuing : Station → ℕ → ℕ → Nature → Bool → Sight → Cabinet → Result Paper CallFault × Cabinet
issuing x minute train nature pass g c =
    done (refusal (issue_tests x minute train nature pass c g)) (paper_for x train pass g.track c) (issued_one (with_clock minute c)) c

abbrev pub departing : Station → ℕ → Option Paper → Cabinet → Result Serial CallFault × Cabinet
departing x minute last c =
    done (refusal (in_hand_tests x minute c last)) (record { 0 = serial_of last }) (sent minute (carried_by last) (with_clock minute c)) c

abbrev pub cancelling : Station → ℕ → Option Paper → Cabinet → Result Serial CallFault × Cabinet
cancelling x minute last c =
    done (refusal (in_hand_tests x minute c last)) (record { 0 = serial_of last }) (cancelled_one (with_clock minute c)) c

abbrev pub arriving : Station → ℕ → ℕ → Option Paper → Bool → Cabinet → Result ℕ CallFault × Cabinet
arriving x minute serial first own c =
    done (refusal (arrive_tests x minute serial c first own)) (risen c.taken) (took (carried_by first) (with_clock minute c)) c

abbrev pub setting_back : Station → ℕ → ℕ → Option Paper → Cabinet → Result Serial CallFault × Cabinet
setting_back x minute serial last c =
    done (refusal (set_back_tests x minute serial c last)) (record { 0 = serial_of last }) (took_back (carried_by last) (with_clock minute c)) c

abbrev pub reporting : ℕ → Cabinet → Result Message CallFault × Cabinet
reporting minute c =
    done (refusal (report_tests minute c)) (report_message minute c (with_next_record minute (with_clock minute c))) (with_next_record minute (with_clock minute c)) c

abbrev pub releasing : Station → ℕ → Sight → Cabinet → Result Message CallFault × Cabinet
releasing x minute g c =
    done (refusal (release_tests x minute c g)) (release_message minute c (released x minute (with_clock minute c))) (released x minute (with_clock minute c)) c

abbrev pub hearing : ℕ → Option Message → Cabinet → Result (Option MessageKind) CallFault × Cabinet
hearing minute came c = done (refusal (hear_tests minute c)) (came_kind came) (heard came (with_clock minute c)) c

abbrev pub declaring_dead : ℕ → Bool → Cabinet → Result (Unit {0}) CallFault × Cabinet
declaring_dead minute up c = done (refusal (declare_dead_tests minute c up)) tt (gone_dead (with_clock minute c)) c

abbrev pub resuming : ℕ → Bool → Cabinet → Result (Unit {0}) CallFault × Cabinet
resuming minute up c = done (refusal (resume_tests minute c up)) tt (with_working Telephone (with_clock minute c)) c
