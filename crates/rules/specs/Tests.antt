-- The tests of each act, in their order. They are those of the cabinets. Those of an issue are written out here again, since the safety law leans on them: a wrong one leaves the law without a proof here, where in the cabinets it would break a contract of the code first.
use Rattle.std.specs.Prelude.{ℕ, Bool, not, ◌&&◌, ◌||◌, List, [], ◌∷◌, length, nat_le, nat_lt}
use Rattle.vocabulary.specs.declared.fault.CallFault.{CallFault}
use Rattle.vocabulary.specs.declared.fault.CallFault.TheVariants as fault
use Rattle.vocabulary.specs.declared.kind.Nature.{Nature}
use Rattle.vocabulary.specs.declared.station.Station.{Station}
use Rattle.cabinets.specs.Refusals.{Test, refuse}
use Rattle.cabinets.specs.Rights.{has_right, right_at_end}
use Rattle.cabinets.specs.Section.{View}
pub use Rattle.cabinets.specs.Tests.{accept_tests, accepted_for, arrive_tests, ask_tests, barred_when_dead, cannot_post, carries, dead, declare_dead_tests, earlier_than, hear_tests, in_hand_tests, is_for, line_work_tests, nothing_to_release, release_tests, report_tests, resume_tests, set_back_tests, sight_of, too_soon, trains_out, with_post}
use Rattle.cabinets.specs.Tests.{tests as cabinets_tests}
use Rattle.cabinets.specs.Track.{is_one_way}
use Rattle.cabinets.specs.Tray.{in_hand}
use Rattle.cabinets.specs.declared.call.Act.{Act}
use Rattle.cabinets.specs.declared.call.Act.TheVariants.{Issue as issue}

abbrev pub issue_tests : Station → ℕ → ℕ → Nature → Bool → View → List (Test CallFault)
issue_tests x minute train nature pass v =
    refuse fault.Clock (nat_lt minute v.here.clock)
    ∷ refuse fault.OneWay (is_one_way v.track.kind && pass)
    ∷ refuse fault.Working (not (dead v.here) && pass)
    ∷ refuse fault.PaperInHand (in_hand x v.tray)
    ∷ refuse fault.NoRight (not (has_right x v.here))
    ∷ refuse fault.TrainsOut (not (dead v.here) && trains_out v.here)
    ∷ refuse fault.Acceptance (not (dead v.here) && (not (is_one_way v.track.kind) && not (accepted_for train v.here)))
    ∷ refuse fault.Nature (dead v.here && barred_when_dead nature)
    ∷ refuse fault.Interval (dead v.here && too_soon minute v.track v.here)
    ∷ refuse fault.NumbersUsedUp (nat_le 9_999 v.here.issued || (carries x pass v.here && right_at_end v.here))
    ∷ refuse fault.TrayFull (nat_le v.size (length v.tray))
    ∷ []

-- a station's tests for an act at a minute: those of an issue, and those of the cabinets for any other
unfoldable pub tests : Station → ℕ → Act → View → List (Test CallFault)
tests x minute (issue train nature pass) v = issue_tests x minute train nature pass v
tests x minute a v = cabinets_tests x minute a v
