-- A run of the cabinets is a run of the rules: no count comes near its end there, so each call does the same by both. What the rules keep in every run, the cabinets keep.
use Rattle.std.proofs.Common.{◌≡◌, ℕ, ◌+◌, ◌≤◌, List, ◌∷◌, Some, None, Option, sym, refl, ap, ◌∙◌, subst, arith}
use Rattle.line.specs.declared.message.Message.{Message}
use Rattle.line.specs.declared.message.MessageKind.{MessageKind}
use Rattle.line.specs.declared.message.MessageKind.TheVariants as kind
use Rattle.vocabulary.specs.declared.station.Station.{Station}
use Rattle.cabinets.specs.Cabinets.{with_clock}
use Rattle.cabinets.specs.Calls.{call_from}
use Rattle.cabinets.specs.declared.call.Act.{Act}
use Rattle.cabinets.specs.declared.call.Act.TheVariants.{Issue as issue, Depart as depart, Cancel as cancel, Arrive as arrive, SetBack as set_back, Hear as hear}
use Rattle.cabinets.specs.declared.call.Call.{Call}
use Rattle.cabinets.specs.declared.call.Call.TheVariants.{Act as act, DropLine as drop_line, MendLine as mend_line}
use Rattle.cabinets.specs.Effects as cabinets
use Rattle.cabinets.specs.Outcome as cabinets_outcome
use Rattle.cabinets.specs.Outcome.{Choice, judged, left}
use Rattle.cabinets.specs.Refusals.{refusal}
use Rattle.cabinets.specs.Section.{Section, View, cabinet, seen, unseen}
use Rattle.cabinets.specs.Tests.{tests}
use Rattle.cabinets.specs.declared.cabinet.Cabinet.{Cabinet}
use Rattle.rules.specs.Effects as rules
use Rattle.rules.specs.History.{History}
use Rattle.rules.specs.Outcome as rules_outcome
use Rattle.rules.specs.Tests.{tests as rules_tests}
use Rattle.rules.specs.Runs.{Run as RulesRun, just_made as rules_made, then_called as rules_called}
use Rattle.rules.proofs.Invariant.{Few, few_counts}
use Rattle.rules.proofs.Invariant as rules_keep
use Rattle.law.specs.Runs.{Run, just_made, then_called}
use Rattle.law.specs.Safety.{EveryRunOneRight, EveryRunSafe}

risen_is : (n : ℕ) → n ≤ 9_999 → cabinets.risen n ≡ n + 1
risen_is n l = omega arith

-- the tests of an act are the same, and so is why a call is refused
pub same_tests : (x : Station) (minute : ℕ) (a : Act) (v : View) → tests x minute a v ≡ rules_tests x minute a v
unfolding tests rules_tests
same_tests x minute (issue train nature pass) v = refl
same_tests x minute a v = refl

pub same_refusal : (c : Call) (s : Section) → cabinets_outcome.call_refusal c s ≡ rules_outcome.call_refusal c s
same_refusal (act x minute a) s = ap refusal (same_tests x minute a (seen x s))
same_refusal drop_line s = refl
same_refusal mend_line s = refl

-- a message heard does the same
same_heard_as : (k : MessageKind) (m : Message) (c : Cabinet) → cabinets.heard_as k m c ≡ rules.heard_as k m c
same_heard_as kind.Report m c = refl
same_heard_as k m c = refl

pub same_heard : (came : Option Message) (c : Cabinet) → cabinets.heard came c ≡ rules.heard came c
same_heard None c = refl
same_heard (Some m) c = same_heard_as m.kind m c

-- what an act does and answers, while the counts are few
module _ (x : Station) (minute : ℕ) (came : Option Message) (rest : List Message) (v : View) (few : Few v.here) where
  same_view : (a : Act) → cabinets.view_after x minute a came rest v ≡ rules.view_after x minute a came rest v
  same_view depart = rw (risen_is v.here.gone few.gone) refl
  same_view cancel = rw (risen_is v.here.cancelled few.cancelled) refl
  same_view (arrive serial) = rw (risen_is v.here.taken few.taken) refl
  same_view (set_back serial) = rw (risen_is v.here.set_back few.set_back) refl
  same_view hear =
      let seeing : Cabinet → View = λ c. record { track = v.track; here = c; there = v.there; tray = v.tray; size = v.size; up = v.up; inbox = rest; outbox = v.outbox; most = v.most } in
      ap seeing (same_heard came (with_clock minute v.here))
  same_view a = refl

  same_answer : (a : Act) → cabinets.answer_of minute a came v ≡ rules.answer_of minute a came v
  same_answer (arrive serial) = risen_is v.here.taken few.taken
  same_answer a = refl

-- what comes of a call
same_outcome : (o : Option Call) (ch : Choice) (s : Section) → ((x : Station) → Few (cabinet x s)) → cabinets_outcome.outcome_of o ch s ≡ rules_outcome.outcome_of o ch s
same_outcome None ch s few = refl
same_outcome (Some (act x minute a)) ch s few =
    let r = cabinets_outcome.call_refusal (act x minute a) s in
    ap (λ w. judged r (cabinets.answer_of minute a ch.came (seen x s)) (unseen x w) s) (same_view x minute ch.came (left x ch) (seen x s) (few x) a)
    ∙ ap (λ n. judged r n (rules_outcome.section_after (act x minute a) ch s) s) (same_answer x minute ch.came (left x ch) (seen x s) (few x) a)
    ∙ ap (λ o. judged o (rules.answer_of minute a ch.came (seen x s)) (rules_outcome.section_after (act x minute a) ch s) s) (same_refusal (act x minute a) s)
same_outcome (Some drop_line) ch s few = refl
same_outcome (Some mend_line) ch s few = refl

-- a run of the cabinets is a run of the rules
pub same_run : (h : History) (s : Section) → Run h s → RulesRun h s
same_run h s (just_made m e) = rules_made m e
same_run h s (then_called {h = g} {s = r} run f ch k) =
    let before = same_run g r run in
    subst (λ o. RulesRun (record { fields = f; answer = o.answer } ∷ g) o.after) (sym (same_outcome (call_from f) ch r (few_counts g r before))) (rules_called before f ch k)

pub every_run_safe : EveryRunSafe
every_run_safe h s run = rules_keep.every_run_safe h s (same_run h s run)

pub every_run_one_right : EveryRunOneRight
every_run_one_right h s run = rules_keep.every_run_one_right h s (same_run h s run)
