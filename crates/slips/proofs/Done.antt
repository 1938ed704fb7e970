-- What a call that was carried out answered, and the papers after it.
use Rattle.std.proofs.Common.{◌≡◌, ℕ, suc, ◌-◌, Bool, true, false, cond, ◌&&◌, leb, List, [], ◌∷◌, length, is_ok, Some, None, Ok, Err, Option, Result, sym, refl, ap, ◌∙◌, subst, arith}
use Rattle.std.specs.Prelude.{slice_get}
use Rattle.std.proofs.lemmas.Bool.{and_parts, eq-eqb, false≢true, leb-true}
use Rattle.line.specs.declared.line.Line.{Ghosts as Line}
use Rattle.queue.specs.Model.{items}
use Rattle.queue.specs.Outcomes.{last_item}
use Rattle.queue.specs.declared.Queue.{Queue}
use Rattle.vocabulary.specs.declared.fault.CallFault.{CallFault}
use Rattle.vocabulary.specs.declared.fault.CallFault.TheVariants.{Field}
use Rattle.vocabulary.specs.declared.fault.Fault.{Fault}
use Rattle.vocabulary.specs.declared.station.Station.{Station}
use Rattle.vocabulary.specs.declared.station.Station.TheVariants.{A, B}
use Rattle.rules.proofs.Basics.{same_refl, some_not_none, youngest_push}
use Rattle.cabinets.specs.Calls.{checked_call, in_bounds}
use Rattle.cabinets.specs.Effects.{here_after, tray_after}
use Rattle.cabinets.specs.Outcome.{Choice, Outcome, call_answer, call_refusal, judged, outcome_of, section_after}
use Rattle.cabinets.specs.Section.{Section as Situation, cabinet, seen}
use Rattle.cabinets.specs.Tray.{youngest}
use Rattle.cabinets.specs.declared.call.Act.{Act}
use Rattle.cabinets.specs.declared.call.Act.TheVariants as act
use Rattle.cabinets.specs.declared.call.Call.{Call}
use Rattle.cabinets.specs.declared.call.Call.TheVariants as call
use Rattle.cabinets.specs.declared.paper.Paper.{Paper}
use Rattle.vocabulary.specs.declared.kind.Nature.{Nature}
use Rattle.section.specs.Called.{Comes, chosen, outward}
use Rattle.section.specs.State.{state}
use Rattle.section.specs.declared.Section.{Section}
use Rattle.slips.specs.Slips.{Ripe, is_of_paper_in_hand, slip_for}
use Rattle.slips.specs.declared.Slip.{Slip}

-- the last item of the tray is the youngest paper
pub last_is_youngest : (xs : List Paper) → last_item xs ≡ youngest xs
last_is_youngest [] = refl
last_is_youngest (p ∷ []) = refl
last_is_youngest (p ∷ q ∷ ps) =
    let two : suc (suc (length ps)) - 1 ≡ suc (length ps) = omega arith in
    let one : length ps ≡ suc (length ps) - 1 = omega arith in
    ap (slice_get (p ∷ q ∷ ps)) two ∙ ap (slice_get (q ∷ ps)) one ∙ last_is_youngest (q ∷ ps)

was_ok : (a : Result ℕ CallFault) (n : ℕ) → Ok n ≡ outward a → a ≡ Ok n
was_ok (Ok k) n e = let i : n ≡ k = cc in ap Ok (sym i)
was_ok (Err f) n e = let z : ◌≡◌ {A = ℕ} 0 1 = cc in absurd (omega arith)

was_judged : (o : Option CallFault) (k n : ℕ) (after before s' : Situation) → record { answer = Ok n; after = s' } ≡ judged o k after before → (n ≡ k) × (s' ≡ after)
was_judged None k n after before s' e = let a : Ok n ≡ Ok k = ap (λ y. y.answer) e in (cc, ap (λ y. y.after) e)
was_judged (Some f) k n after before s' e = let a : Ok n ≡ Err f = ap (λ y. y.answer) e in let z : ◌≡◌ {A = ℕ} 0 1 = cc in absurd (omega arith)

-- a call that was carried out
pub record CarriedOut (b : Bool) (c : Call) (ch : Choice) (n : ℕ) (s s' : Situation) : Type 0 where
  pub allowed : b ≡ true
  pub answer : n ≡ call_answer c ch s
  pub after : s' ≡ section_after c ch s

was_called : (b : Bool) (c : Call) (ch : Choice) (n : ℕ) (s s' : Situation) → record { answer = Ok n; after = s' } ≡ outcome_of (cond b (Some c) None) ch s → CarriedOut b c ch n s s'
was_called true c ch n s s' e = let j = was_judged (call_refusal c s) (call_answer c ch s) n (section_after c ch s) s s' e in record { allowed = refl; answer = j.0; after = j.1 }
was_called false c ch n s s' e = let a : Ok n ≡ Err Field = ap (λ y. y.answer) e in let z : ◌≡◌ {A = ℕ} 0 1 = cc in absurd (omega arith)

-- a call that was refused
was_err : (a : Result ℕ CallFault) (f : Fault) → Err f ≡ outward a → is_ok a ≡ false
was_err (Ok k) f e = let z : ◌≡◌ {A = ℕ} 0 1 = cc in absurd (omega arith)
was_err (Err g) f e = refl

judged_refused : (o : Option CallFault) (k : ℕ) (after before s' : Situation) (a : Result ℕ CallFault) → is_ok a ≡ false → record { answer = a; after = s' } ≡ judged o k after before → (s' ≡ before) × (o ≡ None → ⊥)
judged_refused None k after before s' a f e = absurd (false≢true (sym f ∙ ap (λ y. is_ok y.answer) e))
judged_refused (Some g) k after before s' a f e = (ap (λ y. y.after) e, λ i. some_not_none g i)

call_refused : (b : Bool) (c : Call) (ch : Choice) (s s' : Situation) (a : Result ℕ CallFault) → is_ok a ≡ false → record { answer = a; after = s' } ≡ outcome_of (cond b (Some c) None) ch s → (s' ≡ s) × (b ≡ true → call_refusal c s ≡ None → ⊥)
call_refused true c ch s s' a f e = let j = judged_refused (call_refusal c s) (call_answer c ch s) (section_after c ch s) s s' a f e in (j.0, λ _. j.1)
call_refused false c ch s s' a f e = (ap (λ y. y.after) e, λ i. absurd (false≢true i))

papers_after : (x : Station) (minute : ℕ) (a : Act) (ch : Choice) (s : Situation) → (section_after (call.Act x minute a) ch s).tray ≡ tray_after x minute a (seen x s)
papers_after A minute a ch s = refl
papers_after B minute a ch s = refl

pub cabinet_after : (x : Station) (minute : ℕ) (a : Act) (ch : Choice) (s : Situation) → cabinet x (section_after (call.Act x minute a) ch s) ≡ here_after x minute a ch.came s.tray (cabinet x s)
cabinet_after A minute a ch s = refl
cabinet_after B minute a ch s = refl

module _ {L : Type 0} (line : Line L) (s s' : Section L) (q q' : Queue Paper) where
  pub done : (x : Station) (minute : ℕ) (a : Act) (n : ℕ) (c : Comes line (checked_call x minute a) (Ok n) s s' q q') → CarriedOut (leb minute 1_000_000_000 && in_bounds a) (call.Act x minute a) (chosen c.done.came (line.meaning s'.line.now)) n (state line s q) (state line s' q')
  done x minute a n c =
      let ch = chosen c.done.came (line.meaning s'.line.now) in
      was_called (leb minute 1_000_000_000 && in_bounds a) (call.Act x minute a) ch n (state line s q) (state line s' q') (subst (λ y. ◌≡◌ {A = Outcome} (record { answer = y; after = state line s' q' }) (outcome_of (checked_call x minute a) ch (state line s q))) (was_ok c.answer n c.shown) c.done.ruled)

  -- a refusal alters nothing
  pub refused : (x : Station) (minute : ℕ) (a : Act) (f : Fault) → Comes line (checked_call x minute a) (Err f) s s' q q' → (state line s' q' ≡ state line s q) × ((leb minute 1_000_000_000 && in_bounds a) ≡ true → call_refusal (call.Act x minute a) (state line s q) ≡ None → ⊥)
  refused x minute a f c = call_refused (leb minute 1_000_000_000 && in_bounds a) (call.Act x minute a) (chosen c.done.came (line.meaning s'.line.now)) (state line s q) (state line s' q') c.answer (was_err c.answer f c.shown) c.done.ruled

  -- the slip of a paper just issued is that of the paper in hand, and ripe
  pub issued : (x : Station) (minute train : ℕ) (nature : Nature) (pass : Bool) (plain : Result ℕ Fault) → Comes line (checked_call x minute (act.Issue train nature pass)) plain s s' q q' → (r : Result Slip Fault) → r ≡ slip_for x plain → (slip : Slip) → r ≡ Ok slip → (is_of_paper_in_hand slip (items q') ≡ true) × Ripe line slip minute s' q'
  issued x minute train nature pass (Ok n) c r shown slip e =
      let d = done x minute (act.Issue train nature pass) n c in
      let ch = chosen c.done.came (line.meaning s'.line.now) in
      let i : record { station = x; serial = record { 0 = n } } ≡ slip = cc in
      let t = ap (λ y. y.tray) d.after ∙ papers_after x minute (act.Issue train nature pass) ch (state line s q) in
      let k = ap (cabinet x) d.after ∙ cabinet_after x minute (act.Issue train nature pass) ch (state line s q) in
      let b = leb-true _ _ (and_parts _ _ d.allowed).0 in
      subst (λ y. (is_of_paper_in_hand y (items q') ≡ true) × Ripe line y minute s' q') i
      (rw (t, youngest_push (items q) _, same_refl x, d.answer) (eq-eqb _ _ refl), record { in_bounds = b; on_time = rw k (omega arith); issued_here = rw (k, d.answer) (omega arith) })
  issued x minute train nature pass (Err f) c r shown slip e = let z : ◌≡◌ {A = ℕ} 0 1 = cc in absurd (omega arith)
