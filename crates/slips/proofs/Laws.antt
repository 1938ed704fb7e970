-- What a holder of a slip can rely on.
use Rattle.std.proofs.Common.{◌≡◌, ℕ, Bool, true, false, cond, ltb, leb, List, None, Ok, Err, Option, Result, sym, refl, ap, ◌∙◌, arith}
use Rattle.std.proofs.lemmas.Bool.{and_from, and_parts, le-leb, le-ltb}
use Rattle.line.specs.declared.line.Line.{Ghosts as Line}
use Rattle.line.specs.declared.message.Message.{Message}
use Rattle.queue.specs.Model.{items}
use Rattle.queue.specs.declared.Queue.{Queue}
use Rattle.vocabulary.specs.declared.fault.CallFault.TheVariants as why
use Rattle.vocabulary.specs.declared.fault.Fault.{Fault}
use Rattle.vocabulary.specs.declared.fault.Fault.TheVariants as fault
use Rattle.vocabulary.specs.declared.number.Serial.{Serial}
use Rattle.vocabulary.specs.declared.station.Station.{Station}
use Rattle.cabinets.specs.Calls.{checked_call, in_bounds}
use Rattle.cabinets.specs.Effects.{here_after}
use Rattle.cabinets.specs.Outcome.{call_refusal}
use Rattle.cabinets.specs.Refusals.{refusal}
use Rattle.cabinets.specs.Section.{View, cabinet, seen}
use Rattle.cabinets.specs.Tests.{in_hand_tests, tests}
use Rattle.cabinets.specs.Tray.{is_in_hand, youngest}
use Rattle.cabinets.specs.declared.cabinet.Cabinet.{Cabinet}
use Rattle.cabinets.specs.declared.call.Act.{Act}
use Rattle.cabinets.specs.declared.call.Act.TheVariants as act
use Rattle.cabinets.specs.declared.call.Call.TheVariants as call
use Rattle.cabinets.specs.declared.paper.Paper.{Paper}
use Rattle.section.specs.Called.{Comes, chosen}
use Rattle.section.specs.State.{state}
use Rattle.section.specs.declared.Section.{Section}
use Rattle.slips.specs.Slips.{Plain, Ripe, Spends, Unmatched, comes_back, is_of_paper_in_hand, settled, unmatched}
use Rattle.slips.specs.declared.Slip.{Slip}
use Rattle.slips.specs.declared.Unspent.{Unspent}
use Rattle.slips.specs.declared.Unspent.TheVariants.{Back, Ended}
use Rattle.slips.proofs.Done.{cabinet_after, done, refused}

-- the two acts on a slip
pub data OnSlip : Act → Type 0 where
  departs : OnSlip act.Depart
  cancels : OnSlip act.Cancel

its_tests : {a : Act} → OnSlip a → (x : Station) (minute : ℕ) (v : View) → tests x minute a v ≡ in_hand_tests x minute v.here (youngest v.tray)
unfolding tests
its_tests departs x minute v = refl
its_tests cancels x minute v = refl

its_bounds : {a : Act} → OnSlip a → in_bounds a ≡ true
its_bounds departs = refl
its_bounds cancels = refl

its_clock : {a : Act} → OnSlip a → (x : Station) (minute : ℕ) (came : Option Message) (ps : List Paper) (c : Cabinet) → (here_after x minute a came ps c).clock ≡ minute
its_clock departs x minute came ps c = refl
its_clock cancels x minute came ps c = refl

its_issued : {a : Act} → OnSlip a → (x : Station) (minute : ℕ) (came : Option Message) (ps : List Paper) (c : Cabinet) → (here_after x minute a came ps c).issued ≡ c.issued
its_issued departs x minute came ps c = refl
its_issued cancels x minute came ps c = refl

-- a slip that an answer hands back is the same
back_of : (slip back : Slip) (f : Fault) (b₁ b₂ b₃ : Bool) → cond b₁ (Back slip (fault.Call why.Field 0)) (cond b₂ (Back slip (fault.Call why.Clock 0)) (cond b₃ (Ended (fault.Call why.NothingThere 0)) (Back slip (fault.Call why.NothingThere 0)))) ≡ Back back f → back ≡ slip
back_of slip back f true b₂ b₃ e = cc
back_of slip back f false true b₃ e = cc
back_of slip back f false false true e = let z : ◌≡◌ {A = ℕ} 0 1 = cc in absurd (omega arith)
back_of slip back f false false false e = cc

unmatched_back : (slip back : Slip) (f : Fault) (minute : ℕ) (c : Cabinet) → unmatched slip minute c ≡ Back back f → back ≡ slip
unmatched_back slip back f minute c e = back_of slip back f (ltb 1_000_000_000 minute) (ltb minute c.clock) (leb slip.serial.0 c.issued) e

same_back : {slip back : Slip} {f : Fault} (r : Result ℕ Fault) → settled slip r ≡ Err (Back back f) → back ≡ slip
same_back (Ok n) e = let z : ◌≡◌ {A = ℕ} 0 1 = cc in absurd (omega arith)
same_back {slip} {back} {f} (Err g) e = let i : Back slip g ≡ Back back f = cc in cc

err_of : {u v : Unspent} → ◌≡◌ {A = Result Serial Unspent} (Err u) (Err v) → u ≡ v
err_of e = cc

module _ {L : Type 0} (line : Line L) (s s' : Section L) (q q' : Queue Paper) (slip : Slip) (minute : ℕ) {a : Act} (on : OnSlip a) where
  passes : Ripe line slip minute s q → is_of_paper_in_hand slip (items q) ≡ true → call_refusal (call.Act slip.station minute a) (state line s q) ≡ None
  passes ripe e =
      let t = ap refusal (its_tests on slip.station minute (seen slip.station (state line s q))) in
      t ∙ rw (le-ltb minute (cabinet slip.station (state line s q)).clock ripe.on_time, (and_parts (is_in_hand slip.station (youngest (items q))) _ e).0) refl

  -- a ripe slip is spent or ends
  pub ripe_ends : (r : Result Serial Unspent) → Spends line a slip minute r s s' q q' → Ripe line slip minute s q → comes_back r ≡ false
  ripe_ends r sp ripe = go (is_of_paper_in_hand slip (items q)) refl sp
    where
      plain : (p : Result ℕ Fault) → Comes line (checked_call slip.station minute a) p s s' q q' → is_of_paper_in_hand slip (items q) ≡ true → comes_back (settled slip p) ≡ false
      plain (Ok n) c e = refl
      plain (Err f) c e = absurd ((refused line s s' q q' slip.station minute a f c).1 (and_from _ _ (le-leb _ _ ripe.in_bounds) (its_bounds on)) (passes ripe e))

      go : (b : Bool) → is_of_paper_in_hand slip (items q) ≡ b → cond b (Plain line a slip minute r s s' q q') (Unmatched line slip minute r s s' q q') → comes_back r ≡ false
      go true e p = ap comes_back p.shown ∙ plain p.plain p.comes e
      go false e u = ap comes_back u.refused ∙ rw (le-ltb _ _ ripe.in_bounds, le-ltb _ _ ripe.on_time, le-leb _ _ ripe.issued_here) refl

  -- a slip that comes back is the same, and nothing was altered
  pub back_unaltered : (r : Result Serial Unspent) → Spends line a slip minute r s s' q q' → (u : Unspent) → r ≡ Err u → (back : Slip) (f : Fault) → u ≡ Back back f → (back ≡ slip) × (state line s' q' ≡ state line s q)
  back_unaltered r sp u e back f b = go (is_of_paper_in_hand slip (items q)) sp
    where
      i : r ≡ Err (Back back f)
      i = e ∙ ap Err b

      plain : (p : Result ℕ Fault) → Comes line (checked_call slip.station minute a) p s s' q q' → settled slip p ≡ Err (Back back f) → state line s' q' ≡ state line s q
      plain (Ok n) c j = let z : ◌≡◌ {A = ℕ} 0 1 = cc in absurd (omega arith)
      plain (Err g) c j = (refused line s s' q q' slip.station minute a g c).0

      go : (t : Bool) → cond t (Plain line a slip minute r s s' q q') (Unmatched line slip minute r s s' q q') → (back ≡ slip) × (state line s' q' ≡ state line s q)
      go true p = let j = sym p.shown ∙ i in (same_back p.plain j, plain p.plain p.comes j)
      go false k = (unmatched_back slip back f minute (cabinet slip.station (state line s q)) (err_of (sym k.refused ∙ i)), rw (k.same_section, k.same_tray) refl)

  -- a section that is as it was
  pub ripe_still : state line s' q' ≡ state line s q → Ripe line slip minute s q → Ripe line slip minute s' q'
  ripe_still e ripe = record { in_bounds = ripe.in_bounds; on_time = rw e ripe.on_time; issued_here = rw e ripe.issued_here }

  -- a ripe slip stays ripe when its station's paper in hand departs or is cancelled by the plain call
  pub ripe_after : (r : Result ℕ Fault) → Comes line (checked_call slip.station minute a) r s s' q q' → Ripe line slip minute s q → Ripe line slip minute s' q'
  ripe_after (Err f) c ripe = ripe_still (refused line s s' q q' slip.station minute a f c).0 ripe
  ripe_after (Ok n) c ripe =
      let k = ap (cabinet slip.station) (done line s s' q q' slip.station minute a n c).after ∙ cabinet_after slip.station minute a (chosen c.done.came (line.meaning s'.line.now)) (state line s q) in
      record { in_bounds = ripe.in_bounds; on_time = rw (ap (λ y. y.clock) k, its_clock on slip.station minute c.done.came (items q) (cabinet slip.station (state line s q))) (omega arith); issued_here = rw (ap (λ y. y.issued) k, its_issued on slip.station minute c.done.came (items q) (cabinet slip.station (state line s q))) ripe.issued_here }
