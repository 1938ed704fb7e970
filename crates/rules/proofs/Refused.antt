-- The laws of refusals and clocks.
use Rattle.std.proofs.Common.{◌≡◌, ℕ, ◌≤◌, true, false, List, [], ◌∷◌, Some, None, Err, Option, sym, refl, ap, arith}
use Rattle.std.proofs.lemmas.Bool.{ltb-false}
use Rattle.line.specs.declared.message.Message.{Message}
use Rattle.vocabulary.specs.declared.fault.CallFault.{CallFault}
use Rattle.vocabulary.specs.declared.station.Station.{Station}
use Rattle.vocabulary.specs.declared.station.Station.TheVariants.{A, B}
use Rattle.cabinets.specs.Cabinets.{with_clock}
use Rattle.cabinets.specs.Calls.{call_from}
use Rattle.cabinets.specs.declared.call.Act.{Act}
use Rattle.cabinets.specs.declared.call.Call.{Call}
use Rattle.cabinets.specs.declared.call.Act.TheVariants.{Hear as hear}
use Rattle.cabinets.specs.declared.call.Call.TheVariants.{Act as act, DropLine as drop_line, MendLine as mend_line}
use Rattle.rules.specs.Effects.{here_after, view_after}
use Rattle.rules.specs.Laws.{RulesHold}
use Rattle.rules.specs.Outcome.{Choice, call_answer, call_refusal, judged, left, outcome_of, section_after}
use Rattle.cabinets.specs.Refusals.{IsFirst, NoneHolds, Test, refusal, refuse}
use Rattle.cabinets.specs.Section.{Section, View, cabinet, seen, unseen}
use Rattle.cabinets.specs.Tests.{tests as cabinets_tests}
use Rattle.rules.specs.Tests.{tests}
use Rattle.cabinets.specs.declared.cabinet.Cabinet.{Cabinet}
use Rattle.cabinets.specs.declared.paper.Paper.{Paper}
use Rattle.rules.proofs.Basics.{passed, some_not_none}
use Rattle.rules.proofs.Times.{heard_kept}

pub first_is : {F : Type 0} (ts : List (Test F)) (r : F) → refusal ts ≡ Some r → IsFirst ts r
first_is [] r e = absurd (some_not_none r (sym e))
first_is (refuse f true ∷ ts) r e = let same : f ≡ r = cc in record { before = []; behind = ts; order = rw same refl; none_before = tt }
first_is (refuse f false ∷ ts) r e =
    let n = first_is ts r e in
    record { before = refuse f false ∷ n.before; behind = n.behind; order = ap (λ l. refuse f false ∷ l) n.order; none_before = (refl, n.none_before) }

pub none_refused : {F : Type 0} (ts : List (Test F)) → NoneHolds ts → refusal ts ≡ None
none_refused [] h = refl
none_refused (refuse f b ∷ ts) h = rw h.0 (none_refused ts h.1)

pub judged_unchanged : (o : Option CallFault) (n : ℕ) (after before : Section) (r : CallFault) → (judged o n after before).answer ≡ Err r → (judged o n after before).after ≡ before
judged_unchanged None n after before r e = let z : ◌≡◌ {A = ℕ} 0 1 = cc in absurd (omega arith)
judged_unchanged (Some f) n after before r e = refl

unchanged_of : (o : Option Call) (ch : Choice) (s : Section) (r : CallFault) → (outcome_of o ch s).answer ≡ Err r → (outcome_of o ch s).after ≡ s
unchanged_of None ch s r e = refl
unchanged_of (Some c) ch s r e = judged_unchanged (call_refusal c s) (call_answer c ch s) (section_after c ch s) s r e

-- no test lets an act be earlier than the clock
pub on_time : (x : Station) (minute : ℕ) (a : Act) (v : View) → NoneHolds (tests x minute a v) → v.here.clock ≤ minute
unfolding tests cabinets_tests
on_time x minute hear v p = ltb-false minute v.here.clock p.0
on_time x minute a v p = ltb-false minute v.here.clock p.0

-- an act sets the clock to its minute
clock_is : (x : Station) (minute : ℕ) (a : Act) (came : Option Message) (tray : List Paper) (c : Cabinet) → (here_after x minute a came tray c).clock ≡ minute
clock_is x minute hear came tray c = (heard_kept came (with_clock minute c)).clock
clock_is x minute a came tray c = refl

-- the clocks after an act, if it is carried out, that changes the section to what its station then sees
pub clocks_judged : (x : Station) (s : Section) (n : ℕ) (w : View) (o : Option CallFault) → (o ≡ None → (seen x s).here.clock ≤ w.here.clock) → w.there ≡ (seen x s).there → (y : Station) → (cabinet y s).clock ≤ (cabinet y (judged o n (unseen x w) s).after).clock
clocks_judged x s n w (Some f) h e y = omega arith
clocks_judged A s n w None h e A = h refl
clocks_judged A s n w None h e B = omega (arith, ap (λ c. c.clock) e)
clocks_judged B s n w None h e A = omega (arith, ap (λ c. c.clock) e)
clocks_judged B s n w None h e B = h refl

clocks_of : (o : Option Call) (ch : Choice) (s : Section) (y : Station) → (cabinet y s).clock ≤ (cabinet y (outcome_of o ch s).after).clock
clocks_of None ch s y = omega arith
clocks_of (Some (act x minute a)) ch s y =
    let v = seen x s in
    clocks_judged x s (call_answer (act x minute a) ch s) (view_after x minute a ch.came (left x ch) v) (call_refusal (act x minute a) s)
    (λ e. omega (arith, clock_is x minute a ch.came v.tray v.here, on_time x minute a v (passed (tests x minute a v) e))) refl y
clocks_of (Some drop_line) ch s A = omega arith
clocks_of (Some drop_line) ch s B = omega arith
clocks_of (Some mend_line) ch s A = omega arith
clocks_of (Some mend_line) ch s B = omega arith

pub rules_hold : RulesHold
rules_hold = record {
  first = λ x minute a s r e. first_is (tests x minute a (seen x s)) r e;
  carried_out = λ f x minute a ch s e h. rw e (rw (none_refused (tests x minute a (seen x s)) h) refl);
  no_call = λ f ch s e. rw e refl;
  unchanged = λ f ch s r e. unchanged_of (call_from f) ch s r e;
  clocks = λ f ch s x. clocks_of (call_from f) ch s x;
}
