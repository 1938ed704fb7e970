-- What each call does: to the cabinet that makes it, to the tray, and what it posts and answers. The cabinet's clock comes first.
use Rattle.std.specs.Prelude.{ℕ, ◌+◌, ◌-◌, min, max, Bool, false, cond, not, ◌&&◌, ◌||◌, List, [], ◌∷◌, ◌++◌, Some, None, Option, ◌==◌}
use Rattle.line.specs.declared.message.Message.{Message}
use Rattle.line.specs.declared.message.MessageKind.{MessageKind}
use Rattle.line.specs.declared.message.MessageKind.TheVariants as kind
use Rattle.vocabulary.specs.declared.number.RecordNumber.{RecordNumber}
use Rattle.vocabulary.specs.declared.number.RightNumber.{RightNumber}
use Rattle.vocabulary.specs.declared.station.Station.{Station}
use Rattle.cabinets.specs.Cabinets.{with_acceptance, with_ask_heard, with_asks, with_cancelled, with_clock, with_gone, with_issued, with_known, with_last_arrival, with_last_departure, with_open_ask, with_set_back, with_taken, with_working}
use Rattle.cabinets.specs.Calls.{Act, ask, accept, issue, depart, cancel, arrive, set_back, report, release, hear, declare_dead, resume}
use Rattle.cabinets.specs.Records.{next_record, with_next_record}
use Rattle.cabinets.specs.Rights.{b_has_right, has_right, learnt, learnt_from, lifted, parted, regained}
use Rattle.cabinets.specs.Section.{View}
use Rattle.cabinets.specs.Tests.{accepted_for, carries, dead}
use Rattle.cabinets.specs.Track.{is_one_way}
use Rattle.cabinets.specs.Tray.{but_oldest, but_youngest, carried_by, oldest, serial_of, youngest, youngest_departed}
use Rattle.cabinets.specs.declared.cabinet.Acceptance.{Acceptance}
use Rattle.cabinets.specs.declared.cabinet.Ask.{Ask}
use Rattle.cabinets.specs.declared.cabinet.Cabinet.{Cabinet}
use Rattle.cabinets.specs.declared.paper.Paper.{Paper}
use Rattle.cabinets.specs.declared.paper.PaperKind.TheVariants.{Ticket, RedPermit}
use Rattle.cabinets.specs.declared.paper.Working.TheVariants.{Telephone, Dead}
use Rattle.cabinets.specs.declared.track.Track.{Track}

-- a count that rises by one. At the greatest number of 32 bits it stays: no run comes near it, only a tray lent from elsewhere could bring it there
abbrev pub risen : ℕ → ℕ
risen n = min (n + 1) 4_294_967_295

-- an ask: one more is made, and it is the open one
abbrev pub asked : ℕ → Cabinet → Cabinet
asked train c = with_open_ask (Some (record { train = train; count = c.asks + 1 })) (with_asks (c.asks + 1) c)

-- an acceptance given: the right, if it is here, goes to the other station; a record number is taken
abbrev pub accepted : Station → ℕ → Cabinet → Cabinet
accepted x minute c = with_ask_heard None (with_open_ask None (with_next_record minute (lifted (has_right x c) c)))

-- a paper issued
abbrev pub issued_one : Cabinet → Cabinet
issued_one c = with_acceptance None (with_open_ask None (with_issued (c.issued + 1) c))

-- a paper departed, which may carry a number
abbrev pub sent : ℕ → Option RightNumber → Cabinet → Cabinet
sent minute carried c = parted carried (with_gone (risen c.gone) (with_last_departure (Some minute) c))

-- a paper cancelled
abbrev pub cancelled_one : Cabinet → Cabinet
cancelled_one c = with_cancelled (risen c.cancelled) c

-- the other station's paper handed in here, which may carry a number
abbrev pub took : Option RightNumber → Cabinet → Cabinet
took carried c = learnt_from carried (with_taken (risen c.taken) c)

-- a paper set back, which may have carried a number
abbrev pub took_back : Option RightNumber → Cabinet → Cabinet
took_back carried c = regained carried (with_set_back (risen c.set_back) (with_gone (c.gone - 1) c))

-- a release: B gives up the right if it is there; a record number is taken
abbrev pub released : Station → ℕ → Cabinet → Cabinet
released x minute c = with_next_record minute (lifted (b_has_right x c) (with_acceptance None (with_open_ask None c)))

abbrev pub is_count : ℕ → Option Ask → Bool
is_count n None = false
is_count n (Some a) = a.count == n

-- an acceptance heard: it is held only if its count is the open ask's, which it then ends
abbrev pub acceptance_heard : Message → Cabinet → Cabinet
acceptance_heard m c =
    with_acceptance (cond (is_count m.count c.open_ask) (Some (record { train = m.train; «record» = m.«record» })) c.acceptance)
    (with_open_ask (cond (is_count m.count c.open_ask) None c.open_ask) c)

-- a report heard: the last arrival's record number, and the papers known to be handed in
abbrev pub report_heard : Message → Cabinet → Cabinet
report_heard m c = with_known (max c.known m.taken) (with_last_arrival (Some m.«record») c)

-- a message heard, by its kind
abbrev pub heard_as : MessageKind → Message → Cabinet → Cabinet
heard_as kind.Ask m c = with_ask_heard (Some (record { train = m.train; count = m.count })) (learnt m.right.0 c)
heard_as kind.Acceptance m c = acceptance_heard m (learnt m.right.0 c)
heard_as kind.Report m c = report_heard m c
heard_as kind.Release m c = with_ask_heard None (learnt m.right.0 c)

-- what hearing does, if anything came
abbrev pub heard : Option Message → Cabinet → Cabinet
heard None c = c
heard (Some m) c = heard_as m.kind m c

-- dead working declared
abbrev pub gone_dead : Cabinet → Cabinet
gone_dead c = with_ask_heard None (with_open_ask None (with_working Dead c))

-- the cabinet after an act at a minute
abbrev pub here_after : Station → ℕ → Act → Option Message → List Paper → Cabinet → Cabinet
here_after x minute (ask train) came tray c = asked train (with_clock minute c)
here_after x minute accept came tray c = accepted x minute (with_clock minute c)
here_after x minute (issue train nature pass) came tray c = issued_one (with_clock minute c)
here_after x minute depart came tray c = sent minute (carried_by (youngest tray)) (with_clock minute c)
here_after x minute cancel came tray c = cancelled_one (with_clock minute c)
here_after x minute (arrive serial) came tray c = took (carried_by (oldest tray)) (with_clock minute c)
here_after x minute (set_back serial) came tray c = took_back (carried_by (youngest tray)) (with_clock minute c)
here_after x minute report came tray c = with_next_record minute (with_clock minute c)
here_after x minute release came tray c = released x minute (with_clock minute c)
here_after x minute hear came tray c = heard came (with_clock minute c)
here_after x minute declare_dead came tray c = gone_dead (with_clock minute c)
here_after x minute resume came tray c = with_working Telephone (with_clock minute c)

abbrev pub record_if_any : Option RecordNumber → RecordNumber
record_if_any None = record { 0 = 0 }
record_if_any (Some r) = r

abbrev pub acceptance_record : Option Acceptance → RecordNumber
acceptance_record None = record { 0 = 0 }
acceptance_record (Some a) = a.«record»

-- a paper is a ticket in telephone working or if its train is accepted, and a red permit otherwise
abbrev pub is_ticket : ℕ → Cabinet → Bool
is_ticket train c = not (dead c) || accepted_for train c

-- a paper's record number: its acceptance's, else on a one-way ticket the last arrival's, else 0
abbrev pub paper_record : ℕ → Track → Cabinet → RecordNumber
paper_record train track c =
    cond (accepted_for train c) (acceptance_record c.acceptance)
    (cond (is_one_way track.kind && is_ticket train c) (record_if_any c.last_arrival) (record { 0 = 0 }))

-- the paper that an issue makes
abbrev pub paper_for : Station → ℕ → Bool → Track → Cabinet → Paper
paper_for x train pass track c = record {
  serial = record { 0 = c.issued + 1 };
  station = x;
  train = train;
  kind = cond (is_ticket train c) Ticket RedPermit;
  «record» = paper_record train track c;
  carried = cond (carries x pass c) (Some (record { 0 = c.right.0 + 1 })) None;
  working = c.working;
  departed = None;
}

-- the tray after an act: an issue puts a paper behind the others, a departure marks the youngest, a closing takes one out
abbrev pub tray_after : Station → ℕ → Act → View → List Paper
tray_after x minute (ask train) v = v.tray
tray_after x minute accept v = v.tray
tray_after x minute (issue train nature pass) v = v.tray ++ paper_for x train pass v.track v.here ∷ []
tray_after x minute depart v = youngest_departed minute v.tray
tray_after x minute cancel v = but_youngest v.tray
tray_after x minute (arrive serial) v = but_oldest v.tray
tray_after x minute (set_back serial) v = but_youngest v.tray
tray_after x minute report v = v.tray
tray_after x minute release v = v.tray
tray_after x minute hear v = v.tray
tray_after x minute declare_dead v = v.tray
tray_after x minute resume v = v.tray

abbrev pub heard_train : Option Ask → ℕ
heard_train None = 0
heard_train (Some a) = a.train

abbrev pub heard_count : Option Ask → ℕ
heard_count None = 0
heard_count (Some a) = a.count

-- an ask as a message, by the cabinet that made it
abbrev pub ask_message : ℕ → Cabinet → Message
ask_message train after = record { kind = kind.Ask; train = train; count = after.asks; «record» = record { 0 = 0 }; right = after.right; taken = 0 }

-- an acceptance as a message, by the cabinet before and after: it answers the ask heard
abbrev pub acceptance_message : ℕ → Cabinet → Cabinet → Message
acceptance_message minute before after = record { kind = kind.Acceptance; train = heard_train before.ask_heard; count = heard_count before.ask_heard; «record» = record { 0 = next_record minute before }; right = after.right; taken = 0 }

-- a report as a message
abbrev pub report_message : ℕ → Cabinet → Cabinet → Message
report_message minute before after = record { kind = kind.Report; train = 0; count = 0; «record» = record { 0 = next_record minute before }; right = record { 0 = 0 }; taken = after.taken }

-- a release as a message
abbrev pub release_message : ℕ → Cabinet → Cabinet → Message
release_message minute before after = record { kind = kind.Release; train = 0; count = 0; «record» = record { 0 = next_record minute before }; right = after.right; taken = 0 }

-- what an act posts to the other station, after it changed the cabinet here
abbrev pub posts : ℕ → Act → Cabinet → Cabinet → Option Message
posts minute (ask train) before after = Some (ask_message train after)
posts minute accept before after = Some (acceptance_message minute before after)
posts minute (issue train nature pass) before after = None
posts minute depart before after = None
posts minute cancel before after = None
posts minute (arrive serial) before after = None
posts minute (set_back serial) before after = None
posts minute report before after = Some (report_message minute before after)
posts minute release before after = Some (release_message minute before after)
posts minute hear before after = None
posts minute declare_dead before after = None
posts minute resume before after = None

abbrev pub kind_number : MessageKind → ℕ
kind_number kind.Ask = 1
kind_number kind.Acceptance = 2
kind_number kind.Report = 3
kind_number kind.Release = 4

-- the kind of what came, if anything did
abbrev pub came_kind : Option Message → Option MessageKind
came_kind None = None
came_kind (Some m) = Some m.kind

-- what hearing answers: the message's kind, or 0 for none
abbrev pub came_number : Option Message → ℕ
came_number None = 0
came_number (Some m) = kind_number m.kind

-- what an act answers
abbrev pub answer_of : ℕ → Act → Option Message → View → ℕ
answer_of minute (ask train) came v = v.here.asks + 1
answer_of minute accept came v = next_record minute v.here
answer_of minute (issue train nature pass) came v = v.here.issued + 1
answer_of minute depart came v = serial_of (youngest v.tray)
answer_of minute cancel came v = serial_of (youngest v.tray)
answer_of minute (arrive serial) came v = risen v.here.taken
answer_of minute (set_back serial) came v = serial_of (youngest v.tray)
answer_of minute report came v = next_record minute v.here
answer_of minute release came v = next_record minute v.here
answer_of minute hear came v = came_number came
answer_of minute declare_dead came v = 0
answer_of minute resume came v = 0

-- the messages that wait, with one more behind them if one is posted
abbrev pub with_posted : List Message → Option Message → List Message
with_posted ms None = ms
with_posted ms (Some m) = ms ++ m ∷ []

-- the messages that wait here after an act: hearing leaves what the line leaves
abbrev pub inbox_after : Act → List Message → List Message → List Message
inbox_after (ask train) left inbox = inbox
inbox_after accept left inbox = inbox
inbox_after (issue train nature pass) left inbox = inbox
inbox_after depart left inbox = inbox
inbox_after cancel left inbox = inbox
inbox_after (arrive serial) left inbox = inbox
inbox_after (set_back serial) left inbox = inbox
inbox_after report left inbox = inbox
inbox_after release left inbox = inbox
inbox_after hear left inbox = left
inbox_after declare_dead left inbox = inbox
inbox_after resume left inbox = inbox

-- the section after an act, seen from the station that acts, where the line lets a message come and leaves some waiting
abbrev pub view_after : Station → ℕ → Act → Option Message → List Message → View → View
view_after x minute a came left v = record {
  track = v.track;
  here = here_after x minute a came v.tray v.here;
  there = v.there;
  tray = tray_after x minute a v;
  size = v.size;
  up = v.up;
  inbox = inbox_after a left v.inbox;
  outbox = with_posted v.outbox (posts minute a v.here (here_after x minute a came v.tray v.here));
  most = v.most;
}
