-- What a station does at its desk: at its cabinet and in the tray, with what came over the line. What it has to say is left to be posted.
use Rattle.std.specs.Prelude.{ℕ, List, [], ◌∷◌, ◌++◌, length, Some, None, Ok, Err, Option, Result, nat_le}
use Rattle.line.specs.declared.message.Message.{Message}
use Rattle.line.specs.declared.message.MessageKind.{MessageKind}
use Rattle.vocabulary.specs.declared.fault.CallFault.{CallFault}
use Rattle.vocabulary.specs.declared.number.Serial.{Serial}
use Rattle.cabinets.specs.Acts.{accepting, arriving, asking, cancelling, declaring_dead, departing, hearing, issuing, releasing, reporting, resuming, setting_back}
use Rattle.cabinets.specs.Effects.{kind_number}
use Rattle.vocabulary.specs.declared.station.Station.{Station}
use Rattle.cabinets.specs.Section.{View}
use Rattle.cabinets.specs.Tray.{but_oldest, but_youngest, has_live, in_hand, oldest, youngest, youngest_departed}
use Rattle.cabinets.specs.declared.cabinet.Cabinet.{Cabinet}
use Rattle.cabinets.specs.declared.call.Act.{Act}
use Rattle.cabinets.specs.declared.call.Act.TheVariants as act
use Rattle.cabinets.specs.declared.paper.Paper.{Paper}
use Rattle.cabinets.specs.declared.sight.Sight.{Sight}
use Rattle.section.specs.declared.desk.Desk.{Desk}
use Rattle.section.specs.declared.desk.Done.{Done}

-- a station's desk at a minute, by what the station sees, the tray's size, and what came
abbrev pub desk : Station → ℕ → View → ℕ → Option Message → Desk
desk x minute v size came = record { at = x; minute = minute; track = v.track; size = size; up = v.up; came = came }

-- the same desk with what came
abbrev pub with_came : Option Message → Desk → Desk
with_came came d = record { at = d.at; minute = d.minute; track = d.track; size = d.size; up = d.up; came = came }

-- what is done, the cabinet and the papers afterwards
abbrev pub Worked : Type 0
Worked = Result Done CallFault × (Cabinet × List Paper)

-- what the station sees beside its cabinet, of a tray for so many papers
abbrev pub sight : Desk → ℕ → List Paper → Sight
sight d size papers = record { track = d.track; in_hand = in_hand d.at papers; tray_full = nat_le size (length papers) }

-- an act that has a message to post, from which its answer is told
abbrev pub saying : (Message → ℕ) → Result Message CallFault → Cabinet → List Paper → Worked
saying answer (Ok m) c papers = (Ok (record { answer = answer m; message = Some m }), (c, papers))
saying answer (Err f) c papers = (Err f, (c, papers))

-- an issue puts its paper behind the others
abbrev pub putting : Result Paper CallFault → Cabinet → List Paper → Worked
putting (Ok p) c papers = (Ok (record { answer = p.serial.0; message = None }), (c, papers ++ p ∷ []))
putting (Err f) c papers = (Err f, (c, papers))

-- an act on a paper, by which the tray becomes another
abbrev pub handling : Result Serial CallFault → Cabinet → List Paper → List Paper → Worked
handling (Ok n) c papers after = (Ok (record { answer = n.0; message = None }), (c, after))
handling (Err f) c papers after = (Err f, (c, papers))

-- an arrival takes the oldest paper out
abbrev pub taking : Result ℕ CallFault → Cabinet → List Paper → List Paper → Worked
taking (Ok n) c papers after = (Ok (record { answer = n; message = None }), (c, after))
taking (Err f) c papers after = (Err f, (c, papers))

-- a hearing tells the kind of what came, or 0
abbrev pub telling : Result (Option MessageKind) CallFault → Cabinet → List Paper → Worked
telling (Ok None) c papers = (Ok (record { answer = 0; message = None }), (c, papers))
telling (Ok (Some k)) c papers = (Ok (record { answer = kind_number k; message = None }), (c, papers))
telling (Err f) c papers = (Err f, (c, papers))

-- a change of working has no answer but 0
abbrev pub changing : Result (Unit {0}) CallFault → Cabinet → List Paper → Worked
changing (Ok u) c papers = (Ok (record { answer = 0; message = None }), (c, papers))
changing (Err f) c papers = (Err f, (c, papers))

-- an act at a desk, with the tray's size
abbrev pub working : Desk → Act → ℕ → Cabinet → List Paper → Worked
working d (act.Ask train) size c papers =
    saying (λ m. m.count) (asking d.minute train (sight d size papers) c).0 (asking d.minute train (sight d size papers) c).1 papers
working d act.Accept size c papers =
    saying (λ m. m.«record».0) (accepting d.at d.minute (sight d size papers) c).0 (accepting d.at d.minute (sight d size papers) c).1 papers
working d (act.Issue train nature pass) size c papers =
    putting (issuing d.at d.minute train nature pass (sight d size papers) c).0 (issuing d.at d.minute train nature pass (sight d size papers) c).1 papers
working d act.Depart size c papers =
    handling (departing d.at d.minute (youngest papers) c).0 (departing d.at d.minute (youngest papers) c).1 papers (youngest_departed d.minute papers)
working d act.Cancel size c papers =
    handling (cancelling d.at d.minute (youngest papers) c).0 (cancelling d.at d.minute (youngest papers) c).1 papers (but_youngest papers)
working d (act.Arrive serial) size c papers =
    taking (arriving d.at d.minute serial.0 (oldest papers) (has_live d.at papers) c).0 (arriving d.at d.minute serial.0 (oldest papers) (has_live d.at papers) c).1 papers (but_oldest papers)
working d (act.SetBack serial) size c papers =
    handling (setting_back d.at d.minute serial.0 (youngest papers) c).0 (setting_back d.at d.minute serial.0 (youngest papers) c).1 papers (but_youngest papers)
working d act.Report size c papers =
    saying (λ m. m.«record».0) (reporting d.minute c).0 (reporting d.minute c).1 papers
working d act.Release size c papers =
    saying (λ m. m.«record».0) (releasing d.at d.minute (sight d size papers) c).0 (releasing d.at d.minute (sight d size papers) c).1 papers
working d act.Hear size c papers = telling (hearing d.minute d.came c).0 (hearing d.minute d.came c).1 papers
working d act.DeclareDead size c papers = changing (declaring_dead d.minute d.up c).0 (declaring_dead d.minute d.up c).1 papers
working d act.Resume size c papers = changing (resuming d.minute d.up c).0 (resuming d.minute d.up c).1 papers
