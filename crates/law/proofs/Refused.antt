-- The laws of refusals and clocks, as the cabinets carry the calls out.
use Rattle.std.proofs.Common.{◌≡◌, ℕ, ◌≤◌, List, Some, None, Err, Option, refl, ap, ◌∙◌, subst, arith}
use Rattle.line.specs.declared.message.Message.{Message}
use Rattle.vocabulary.specs.declared.fault.CallFault.{CallFault}
use Rattle.vocabulary.specs.declared.station.Station.{Station}
use Rattle.vocabulary.specs.declared.station.Station.TheVariants.{A, B}
use Rattle.cabinets.specs.Cabinets.{with_clock}
use Rattle.cabinets.specs.Calls.{call_from}
use Rattle.cabinets.specs.declared.call.Act.{Act}
use Rattle.cabinets.specs.declared.call.Act.TheVariants.{Hear as hear}
use Rattle.cabinets.specs.declared.call.Call.{Call}
use Rattle.cabinets.specs.declared.call.Call.TheVariants.{Act as act, DropLine as drop_line, MendLine as mend_line}
use Rattle.cabinets.specs.Effects.{here_after, view_after}
use Rattle.cabinets.specs.Outcome.{Choice, call_answer, call_refusal, left, outcome_of, section_after}
use Rattle.cabinets.specs.Refusals.{NoneHolds}
use Rattle.cabinets.specs.Section.{Section, cabinet, seen}
use Rattle.cabinets.specs.Tests.{tests}
use Rattle.cabinets.specs.declared.cabinet.Cabinet.{Cabinet}
use Rattle.cabinets.specs.declared.paper.Paper.{Paper}
use Rattle.rules.proofs.Basics.{passed}
use Rattle.rules.proofs.Refused.{clocks_judged, first_is, judged_unchanged, none_refused, on_time}
use Rattle.rules.proofs.Times.{heard_kept}
use Rattle.law.specs.Laws.{RulesHold}
use Rattle.law.proofs.SameRuns.{same_heard, same_tests}

unchanged_of : (o : Option Call) (ch : Choice) (s : Section) (r : CallFault) → (outcome_of o ch s).answer ≡ Err r → (outcome_of o ch s).after ≡ s
unchanged_of None ch s r e = refl
unchanged_of (Some c) ch s r e = judged_unchanged (call_refusal c s) (call_answer c ch s) (section_after c ch s) s r e

-- an act sets the clock to its minute
clock_is : (x : Station) (minute : ℕ) (a : Act) (came : Option Message) (tray : List Paper) (c : Cabinet) → (here_after x minute a came tray c).clock ≡ minute
clock_is x minute hear came tray c = ap (λ y. y.clock) (same_heard came (with_clock minute c)) ∙ (heard_kept came (with_clock minute c)).clock
clock_is x minute a came tray c = refl

clocks_of : (o : Option Call) (ch : Choice) (s : Section) (y : Station) → (cabinet y s).clock ≤ (cabinet y (outcome_of o ch s).after).clock
clocks_of None ch s y = omega arith
clocks_of (Some (act x minute a)) ch s y =
    let v = seen x s in
    clocks_judged x s (call_answer (act x minute a) ch s) (view_after x minute a ch.came (left x ch) v) (call_refusal (act x minute a) s)
    (λ e. omega (arith, clock_is x minute a ch.came v.tray v.here, on_time x minute a v (subst NoneHolds (same_tests x minute a v) (passed (tests x minute a v) e)))) refl y
clocks_of (Some drop_line) ch s A = omega arith
clocks_of (Some drop_line) ch s B = omega arith
clocks_of (Some mend_line) ch s A = omega arith
clocks_of (Some mend_line) ch s B = omega arith

pub rules_hold : RulesHold
rules_hold = record {
  first = λ x minute a s r e. first_is (tests x minute a (seen x s)) r e;
  carried_out = λ f x minute a ch s e h. rw e (rw (none_refused (tests x minute a (seen x s)) h) refl);
  no_call = λ f ch s e. rw e refl;
  unchanged = λ f ch s r e. unchanged_of (call_from f) ch s r e;
  clocks = λ f ch s x. clocks_of (call_from f) ch s x;
}
