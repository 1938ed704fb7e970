-- The tests of each call, in their order. The first that holds gives the refusal.
use Rattle.std.specs.Prelude.{ℕ, ◌+◌, Bool, true, false, not, ◌&&◌, ◌||◌, List, [], ◌∷◌, ◌++◌, length, is_some, Some, None, Option, ◌==◌, nat_le, nat_lt}
use Rattle.vocabulary.specs.Stations.{opposite}
use Rattle.vocabulary.specs.declared.fault.CallFault.{CallFault}
use Rattle.vocabulary.specs.declared.fault.CallFault.TheVariants as fault
use Rattle.vocabulary.specs.declared.station.Station.{Station}
use Rattle.cabinets.specs.Calls.{Act, ask, accept, issue, depart, cancel, arrive, set_back, report, release, hear, declare_dead, resume}
use Rattle.cabinets.specs.Records.{records_used_up}
use Rattle.cabinets.specs.Refusals.{Test, refuse}
use Rattle.cabinets.specs.Rights.{b_has_right, has_right, is_b, right_at_end}
use Rattle.cabinets.specs.Section.{View}
use Rattle.cabinets.specs.Track.{interval, is_one_way}
use Rattle.cabinets.specs.Tray.{has_live, in_hand, is_dead, is_in_hand, is_out, is_plain_dead, oldest, youngest}
use Rattle.cabinets.specs.declared.cabinet.Acceptance.{Acceptance}
use Rattle.cabinets.specs.declared.cabinet.Cabinet.{Cabinet}
use Rattle.cabinets.specs.declared.paper.Paper.{Paper}
use Rattle.cabinets.specs.declared.sight.Sight.{Sight}
use Rattle.vocabulary.specs.declared.kind.Nature.{Nature}
use Rattle.vocabulary.specs.declared.kind.Nature.TheVariants.{Ordinary, WorkingInSection, Rescue, Returning, RadioFailed}
use Rattle.cabinets.specs.declared.track.Track.{Track}

-- dead working here
abbrev pub dead : Cabinet → Bool
dead c = is_dead c.working

-- trains of this station are out: some papers gone are not known to be handed in
abbrev pub trains_out : Cabinet → Bool
trains_out c = nat_lt c.known c.gone

abbrev pub is_for : ℕ → Option Acceptance → Bool
is_for train None = false
is_for train (Some a) = a.train == train

-- an acceptance is held for a train
abbrev pub accepted_for : ℕ → Cabinet → Bool
accepted_for train c = is_for train c.acceptance

-- in dead working only ordinary and rescue trains are sent
abbrev pub barred_when_dead : Nature → Bool
barred_when_dead Ordinary = false
barred_when_dead WorkingInSection = true
barred_when_dead Rescue = false
barred_when_dead Returning = true
barred_when_dead RadioFailed = true

abbrev pub earlier_than : ℕ → ℕ → Option ℕ → Bool
earlier_than minute gap None = false
earlier_than minute gap (Some d) = nat_lt minute (d + gap)

-- a minute is before the last departure's and the interval
abbrev pub too_soon : ℕ → Track → Cabinet → Bool
too_soon minute track c = earlier_than minute (interval track) c.last_departure

-- a paper carries the right: it is passed, or B issues in telephone working
abbrev pub carries : Station → Bool → Cabinet → Bool
carries x pass c = pass || (is_b x && not (dead c))

-- nothing to release: no open ask, no acceptance, and not B with the right
abbrev pub nothing_to_release : Station → Cabinet → Bool
nothing_to_release x c = not (is_some c.open_ask) && (not (is_some c.acceptance) && not (b_has_right x c))

-- a message cannot be posted to the other station: the line is down, or as many wait there as may
abbrev pub cannot_post : View → Bool
cannot_post v = not (v.up && nat_lt (length v.outbox) v.most)

-- what an ask, an acceptance and a release begin with: each is a word over the line, on a single track, in telephone working, with no paper in hand
abbrev pub line_work_tests : ℕ → Cabinet → Sight → List (Test CallFault)
line_work_tests minute c g =
    refuse fault.Clock (nat_lt minute c.clock)
    ∷ refuse fault.OneWay (is_one_way g.track.kind)
    ∷ refuse fault.Working (dead c)
    ∷ refuse fault.PaperInHand g.in_hand
    ∷ []

-- The tests of each act at a minute, by the cabinet that makes it and what its station sees. The four acts that post have one test more: the line is tried last of all.
abbrev pub ask_tests : ℕ → Cabinet → Sight → List (Test CallFault)
ask_tests minute c g =
    line_work_tests minute c g
    ++ refuse fault.TrainsOut (trains_out c)
    ∷ refuse fault.Acceptance (is_some c.acceptance)
    ∷ refuse fault.NumbersUsedUp (nat_le 999_999 c.asks)
    ∷ []

abbrev pub accept_tests : Station → ℕ → Cabinet → Sight → List (Test CallFault)
accept_tests x minute c g =
    line_work_tests minute c g
    ++ refuse fault.NothingThere (not (is_some c.ask_heard))
    ∷ refuse fault.TrainsOut (trains_out c)
    ∷ refuse fault.Acceptance (is_some c.acceptance)
    ∷ refuse fault.NumbersUsedUp (records_used_up minute c || (has_right x c && right_at_end c))
    ∷ []

abbrev pub issue_tests : Station → ℕ → ℕ → Nature → Bool → Cabinet → Sight → List (Test CallFault)
issue_tests x minute train nature pass c g =
    refuse fault.Clock (nat_lt minute c.clock)
    ∷ refuse fault.OneWay (is_one_way g.track.kind && pass)
    ∷ refuse fault.Working (not (dead c) && pass)
    ∷ refuse fault.PaperInHand g.in_hand
    ∷ refuse fault.NoRight (not (has_right x c))
    ∷ refuse fault.TrainsOut (not (dead c) && trains_out c)
    ∷ refuse fault.Acceptance (not (dead c) && (not (is_one_way g.track.kind) && not (accepted_for train c)))
    ∷ refuse fault.Nature (dead c && barred_when_dead nature)
    ∷ refuse fault.Interval (dead c && too_soon minute g.track c)
    ∷ refuse fault.NumbersUsedUp (nat_le 9_999 c.issued || (carries x pass c && right_at_end c))
    ∷ refuse fault.TrayFull g.tray_full
    ∷ []

-- depart and cancel, by the youngest paper
abbrev pub in_hand_tests : Station → ℕ → Cabinet → Option Paper → List (Test CallFault)
in_hand_tests x minute c last =
    refuse fault.Clock (nat_lt minute c.clock)
    ∷ refuse fault.NothingThere (not (is_in_hand x last))
    ∷ []

-- arrive, by the oldest paper and whether a paper of this station is live
abbrev pub arrive_tests : Station → ℕ → ℕ → Cabinet → Option Paper → Bool → List (Test CallFault)
arrive_tests x minute serial c first own =
    refuse fault.Clock (nat_lt minute c.clock)
    ∷ refuse fault.NotThatPaper (not (is_out (opposite x) serial first))
    ∷ refuse fault.OwnPaperLive own
    ∷ []

-- set back, by the youngest paper
abbrev pub set_back_tests : Station → ℕ → ℕ → Cabinet → Option Paper → List (Test CallFault)
set_back_tests x minute serial c last =
    refuse fault.Clock (nat_lt minute c.clock)
    ∷ refuse fault.PaperInHand (is_in_hand x last)
    ∷ refuse fault.NotThatPaper (not (is_out x serial last))
    ∷ refuse fault.NoNumberCarried (is_plain_dead last)
    ∷ []

abbrev pub report_tests : ℕ → Cabinet → List (Test CallFault)
report_tests minute c =
    refuse fault.Clock (nat_lt minute c.clock)
    ∷ refuse fault.NumbersUsedUp (records_used_up minute c)
    ∷ []

abbrev pub release_tests : Station → ℕ → Cabinet → Sight → List (Test CallFault)
release_tests x minute c g =
    line_work_tests minute c g
    ++ refuse fault.NothingThere (nothing_to_release x c)
    ∷ refuse fault.TrainsOut (trains_out c)
    ∷ refuse fault.NumbersUsedUp (records_used_up minute c || (b_has_right x c && right_at_end c))
    ∷ []

abbrev pub hear_tests : ℕ → Cabinet → List (Test CallFault)
hear_tests minute c = refuse fault.Clock (nat_lt minute c.clock) ∷ []

-- declare dead, by the line's mark
abbrev pub declare_dead_tests : ℕ → Cabinet → Bool → List (Test CallFault)
declare_dead_tests minute c up =
    refuse fault.Clock (nat_lt minute c.clock)
    ∷ refuse fault.Working (dead c)
    ∷ refuse fault.Line up
    ∷ []

abbrev pub resume_tests : ℕ → Cabinet → Bool → List (Test CallFault)
resume_tests minute c up =
    refuse fault.Clock (nat_lt minute c.clock)
    ∷ refuse fault.Working (not (dead c))
    ∷ refuse fault.Line (not up)
    ∷ []

-- the line tried last of all, by an act that posts
abbrev pub with_post : View → List (Test CallFault) → List (Test CallFault)
with_post v ts = ts ++ refuse fault.Line (cannot_post v) ∷ []

-- what a station sees of a section beside its own cabinet
abbrev pub sight_of : Station → View → Sight
sight_of x v = record { track = v.track; in_hand = in_hand x v.tray; tray_full = nat_le v.size (length v.tray) }

-- a station's tests for an act at a minute
unfoldable pub tests : Station → ℕ → Act → View → List (Test CallFault)
tests x minute (ask train) v = with_post v (ask_tests minute v.here (sight_of x v))
tests x minute accept v = with_post v (accept_tests x minute v.here (sight_of x v))
tests x minute (issue train nature pass) v = issue_tests x minute train nature pass v.here (sight_of x v)
tests x minute depart v = in_hand_tests x minute v.here (youngest v.tray)
tests x minute cancel v = in_hand_tests x minute v.here (youngest v.tray)
tests x minute (arrive serial) v = arrive_tests x minute serial.0 v.here (oldest v.tray) (has_live x v.tray)
tests x minute (set_back serial) v = set_back_tests x minute serial.0 v.here (youngest v.tray)
tests x minute report v = with_post v (report_tests minute v.here)
tests x minute release v = with_post v (release_tests x minute v.here (sight_of x v))
tests x minute hear v = hear_tests minute v.here
tests x minute declare_dead v = declare_dead_tests minute v.here v.up
tests x minute resume v = resume_tests minute v.here v.up
