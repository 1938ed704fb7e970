-- What each call does where the counts have no end: to the cabinet that makes it, to the tray, and what it posts and answers. The cabinet's clock comes first. All but the four rising counts is as the cabinets do it.
use Rattle.std.specs.Prelude.{ℕ, ◌+◌, ◌-◌, max, List, [], ◌∷◌, ◌++◌, Some, None, Option}
use Rattle.line.specs.declared.message.Message.{Message}
use Rattle.line.specs.declared.message.MessageKind.{MessageKind}
use Rattle.line.specs.declared.message.MessageKind.TheVariants as kind
use Rattle.vocabulary.specs.declared.number.RightNumber.{RightNumber}
use Rattle.vocabulary.specs.declared.station.Station.{Station}
use Rattle.cabinets.specs.Cabinets.{with_ask_heard, with_cancelled, with_clock, with_gone, with_known, with_last_arrival, with_last_departure, with_set_back, with_taken, with_working}
use Rattle.cabinets.specs.declared.call.Act.{Act}
use Rattle.cabinets.specs.declared.call.Act.TheVariants.{Ask as ask, Accept as accept, Issue as issue, Depart as depart, Cancel as cancel, Arrive as arrive, SetBack as set_back, Report as report, Release as release, Hear as hear, DeclareDead as declare_dead, Resume as resume}
use Rattle.cabinets.specs.Effects as cabinets
pub use Rattle.cabinets.specs.Effects.{acceptance_heard, acceptance_record, accepted, asked, came_number, gone_dead, heard_count, heard_train, inbox_after, is_count, is_ticket, issued_one, kind_number, paper_for, paper_record, posts, record_if_any, released, with_posted}
use Rattle.cabinets.specs.Records.{with_next_record}
use Rattle.cabinets.specs.Rights.{learnt, learnt_from, parted, regained}
use Rattle.cabinets.specs.Section.{View}
use Rattle.cabinets.specs.Tray.{but_oldest, but_youngest, carried_by, oldest, youngest, youngest_departed}
use Rattle.cabinets.specs.declared.cabinet.Cabinet.{Cabinet}
use Rattle.cabinets.specs.declared.paper.Paper.{Paper}
use Rattle.cabinets.specs.declared.paper.Working.TheVariants.{Telephone}

-- a paper departed, which may carry a number
abbrev pub sent : ℕ → Option RightNumber → Cabinet → Cabinet
sent minute carried c = parted carried (with_gone (c.gone + 1) (with_last_departure (Some minute) c))

-- a paper cancelled
abbrev pub cancelled_one : Cabinet → Cabinet
cancelled_one c = with_cancelled (c.cancelled + 1) c

-- the other station's paper handed in here, which may carry a number
abbrev pub took : Option RightNumber → Cabinet → Cabinet
took carried c = learnt_from carried (with_taken (c.taken + 1) c)

-- a paper set back, which may have carried a number
abbrev pub took_back : Option RightNumber → Cabinet → Cabinet
took_back carried c = regained carried (with_set_back (c.set_back + 1) (with_gone (c.gone - 1) c))

-- A report, a message by its kind, and what hearing does. These are the same in the cabinets, and stand here for the same reason as the tests of an issue.
abbrev pub report_heard : Message → Cabinet → Cabinet
report_heard m c = with_known (max c.known m.taken) (with_last_arrival (Some m.«record») c)

abbrev pub heard_as : MessageKind → Message → Cabinet → Cabinet
heard_as kind.Ask m c = with_ask_heard (Some (record { train = m.train; count = m.count })) (learnt m.right.0 c)
heard_as kind.Acceptance m c = acceptance_heard m (learnt m.right.0 c)
heard_as kind.Report m c = report_heard m c
heard_as kind.Release m c = with_ask_heard None (learnt m.right.0 c)

abbrev pub heard : Option Message → Cabinet → Cabinet
heard None c = c
heard (Some m) c = heard_as m.kind m c

-- the cabinet after an act at a minute
abbrev pub here_after : Station → ℕ → Act → Option Message → List Paper → Cabinet → Cabinet
here_after x minute (ask train) came tray c = asked train (with_clock minute c)
here_after x minute accept came tray c = accepted x minute (with_clock minute c)
here_after x minute (issue train nature pass) came tray c = issued_one (with_clock minute c)
here_after x minute depart came tray c = sent minute (carried_by (youngest tray)) (with_clock minute c)
here_after x minute cancel came tray c = cancelled_one (with_clock minute c)
here_after x minute (arrive serial) came tray c = took (carried_by (oldest tray)) (with_clock minute c)
here_after x minute (set_back serial) came tray c = took_back (carried_by (youngest tray)) (with_clock minute c)
here_after x minute report came tray c = with_next_record minute (with_clock minute c)
here_after x minute release came tray c = released x minute (with_clock minute c)
here_after x minute hear came tray c = heard came (with_clock minute c)
here_after x minute declare_dead came tray c = gone_dead (with_clock minute c)
here_after x minute resume came tray c = with_working Telephone (with_clock minute c)

-- the tray after an act: an issue puts a paper behind the others, a departure marks the youngest, a closing takes one out. It is the same in the cabinets; it stands here too since a wrong clause would leave the safety law without a proof, where there it would break no contract.
abbrev pub tray_after : Station → ℕ → Act → View → List Paper
tray_after x minute (ask train) v = v.tray
tray_after x minute accept v = v.tray
tray_after x minute (issue train nature pass) v = v.tray ++ paper_for x train pass v.track v.here ∷ []
tray_after x minute depart v = youngest_departed minute v.tray
tray_after x minute cancel v = but_youngest v.tray
tray_after x minute (arrive serial) v = but_oldest v.tray
tray_after x minute (set_back serial) v = but_youngest v.tray
tray_after x minute report v = v.tray
tray_after x minute release v = v.tray
tray_after x minute hear v = v.tray
tray_after x minute declare_dead v = v.tray
tray_after x minute resume v = v.tray

-- what an act answers: an arrival the papers taken so far, which have no end here; any other as in the cabinets
abbrev pub answer_of : ℕ → Act → Option Message → View → ℕ
answer_of minute (arrive serial) came v = v.here.taken + 1
answer_of minute a came v = cabinets.answer_of minute a came v

-- the section after an act, seen from the station that acts, where the line lets a message come and leaves some waiting
abbrev pub view_after : Station → ℕ → Act → Option Message → List Message → View → View
view_after x minute a came left v = record {
  track = v.track;
  here = here_after x minute a came v.tray v.here;
  there = v.there;
  tray = tray_after x minute a v;
  size = v.size;
  up = v.up;
  inbox = inbox_after a left v.inbox;
  outbox = with_posted v.outbox (posts minute a v.here (here_after x minute a came v.tray v.here));
  most = v.most;
}
