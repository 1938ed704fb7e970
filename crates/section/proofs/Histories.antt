-- That a call over any line makes a run longer.
use Rattle.std.proofs.Common.{◌≡◌, ℕ, true, ◌∷◌, is_ok, Some, None, Option, Result, sym, refl, ap, ◌∙◌, subst}
use Rattle.line.specs.declared.line.Line.{Ghosts as Line}
use Rattle.line.specs.Meaning.{Heard, with_waits}
use Rattle.line.specs.declared.message.Message.{Message}
use Rattle.queue.specs.declared.Queue.{Queue}
use Rattle.vocabulary.specs.declared.fault.CallFault.{CallFault}
use Rattle.vocabulary.specs.declared.fault.Fault.{Fault}
use Rattle.vocabulary.specs.declared.fields.CallFields.{CallFields}
use Rattle.vocabulary.specs.declared.station.Station.{Station}
use Rattle.vocabulary.specs.declared.station.Station.TheVariants.{A, B}
use Rattle.cabinets.specs.Calls.{call_from}
use Rattle.cabinets.specs.Outcome.{call_refusal, judged, left, outcome_of}
use Rattle.rules.specs.Runs.{KeepsMeaning, MayChoose}
use Rattle.law.specs.Runs.{Run, then_called}
use Rattle.cabinets.specs.Section.{Section as Situation}
use Rattle.cabinets.specs.declared.call.Act.{Act}
use Rattle.cabinets.specs.declared.call.Act.TheVariants as act
use Rattle.cabinets.specs.declared.call.Call.{Call}
use Rattle.cabinets.specs.declared.call.Call.TheVariants as call
use Rattle.cabinets.specs.declared.paper.Paper.{Paper}
use Rattle.law.proofs.SameRuns.{every_run_one_right, every_run_safe, same_refusal}
use Rattle.section.specs.Called.{Comes, LineDid, chosen, is_hear}
use Rattle.section.specs.Running.{GoesOn, event}
use Rattle.section.specs.State.{state}
use Rattle.section.specs.declared.Section.{Section}

module _ {L : Type 0} (line : Line L) where
  -- what a line chose at a hearing is within the laws
  heard_as_chosen : (x : Station) (came : Option Message) (l l' : L) → line.hears l x came l' → Heard x (line.meaning l) came (with_waits x (left x (chosen came (line.meaning l'))) (line.meaning l))
  heard_as_chosen A came l l' h = let k = line.laws.heard l A came l' h in subst (λ y. Heard A (line.meaning l) came y) k.rest k
  heard_as_chosen B came l l' h = let k = line.laws.heard l B came l' h in subst (λ y. Heard B (line.meaning l) came y) k.rest k

  -- a call with no refusal was answered
  answered : (o : Option CallFault) (n : ℕ) (after before : Situation) (a : Result ℕ CallFault) → o ≡ None → a ≡ (judged o n after before).answer → is_ok a ≡ true
  answered o n after before a e f = ap is_ok (f ∙ ap (λ y. (judged y n after before).answer) e)

  module _ (s : Situation) (l l' : L) (e : s.line ≡ line.meaning l) (came : Option Message) where
    chooses : (x : Station) (a : Act) → (is_hear a ≡ true → line.hears l x came l') → MayChoose x a (chosen came (line.meaning l')) s
    chooses x (act.Ask train) h = tt
    chooses x act.Accept h = tt
    chooses x (act.Issue train nature pass) h = tt
    chooses x act.Depart h = tt
    chooses x act.Cancel h = tt
    chooses x (act.Arrive serial) h = tt
    chooses x (act.SetBack serial) h = tt
    chooses x act.Report h = tt
    chooses x act.Release h = tt
    chooses x act.Hear h = subst (λ y. Heard x y came (with_waits x (left x (chosen came (line.meaning l'))) y)) (sym e) (heard_as_chosen x came l l' (h refl))
    chooses x act.DeclareDead h = tt
    chooses x act.Resume h = tt

    keeps : (c : Option Call) (a : Result ℕ CallFault) (s' : Situation) → record { answer = a; after = s' } ≡ outcome_of c (chosen came (line.meaning l')) s → LineDid line c (is_ok a) came l l' → KeepsMeaning c (chosen came (line.meaning l')) s
    keeps None a s' r d = tt
    keeps (Some (call.Act x minute k)) a s' r d =
        λ none. chooses x k (λ h. d (rw (h, answered (call_refusal (call.Act x minute k) s) _ _ s a (same_refusal (call.Act x minute k) s ∙ none) (ap (λ y. y.answer) r)) refl))
    keeps (Some call.DropLine) a s' r d =
        let k = line.laws.dropped l l' d in
        record { mark_is = refl; left_a = rw e k.left_a; left_b = rw e k.left_b; most_is = refl }
    keeps (Some call.MendLine) a s' r d =
        let k = line.laws.mended l l' d in
        record { mark_is = refl; left_a = rw e k.left_a; left_b = rw e k.left_b; most_is = refl }

  -- a run goes on
  pub goes_on : (f : CallFields) (r : Result ℕ Fault) (s s' : Section L) (q q' : Queue Paper) → Comes line (call_from f) r s s' q q' → GoesOn f r (state line s q) (state line s' q')
  goes_on f r s s' q q' c h run =
      let l = s.line.now in
      let l' = s'.line.now in
      let k = keeps (state line s q) l l' refl c.done.came (call_from f) c.answer (state line s' q') c.done.ruled c.done.by_line in
      let next = then_called {h = h} {s = state line s q} run f (chosen c.done.came (line.meaning l')) k in
      let longer : Run (event f c.answer ∷ h) (state line s' q') = subst (λ y. Run (event f y.answer ∷ h) y.after) (sym c.done.ruled) next in
      record { answer = c.answer; shown = c.shown; run = longer; safe = every_run_safe (event f c.answer ∷ h) (state line s' q') longer; one_right = every_run_one_right (event f c.answer ∷ h) (state line s' q') longer }
