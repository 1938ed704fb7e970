-- The whole invariant, over every run; and the safety law from it.
use Rattle.std.proofs.Common.{◌≡◌, ℕ, ◌+◌, ◌≤◌, Bool, true, false, ◌⊎◌, List, [], ◌∷◌, Some, None, Ok, Option, sym, refl, ap, ◌∙◌, subst, inl, inr, ⊎_elim, arith}
use Rattle.std.proofs.lemmas.List.{nil_from_length}
use Rattle.std.proofs.lemmas.Bool.{and_parts, cases_Bool, eqb-true, not-false}
use Rattle.line.specs.Meaning.{Within}
use Rattle.line.specs.declared.message.Message.{Message}
use Rattle.vocabulary.specs.Stations.{opposite}
use Rattle.vocabulary.specs.declared.fault.CallFault.{CallFault}
use Rattle.vocabulary.specs.declared.fault.MakingFault.{MakingFault}
use Rattle.vocabulary.specs.declared.station.Station.{Station}
use Rattle.vocabulary.specs.declared.station.Station.TheVariants.{A, B}
use Rattle.cabinets.specs.Calls.{call_from}
use Rattle.cabinets.specs.declared.call.Act.{Act}
use Rattle.cabinets.specs.declared.call.Call.{Call}
use Rattle.cabinets.specs.declared.call.Act.TheVariants.{Hear as hear}
use Rattle.cabinets.specs.declared.call.Call.TheVariants.{Act as act, DropLine as drop_line, MendLine as mend_line}
use Rattle.rules.specs.Effects.{answer_of, view_after}
use Rattle.rules.specs.History.{Deed, History, Name, deed_by, deed_of, deeds, departure, live, name, no_deed, of_station}
use Rattle.cabinets.specs.Making.{Making, made_unless, making_tests, new_section, some_wait}
use Rattle.rules.specs.Outcome.{Choice, judged, left, marked, outcome_of, section_after}
use Rattle.cabinets.specs.Refusals.{NoneHolds, refusal}
use Rattle.cabinets.specs.Rights.{has_right}
use Rattle.rules.specs.Runs.{KeepsMeaning, MayChoose, Run, just_made, then_called}
use Rattle.rules.specs.Safety.{CountsKept, EveryRunOneRight, EveryRunSafe, In, Live, RightKept, Safe, name_of}
use Rattle.cabinets.specs.Section.{Section, View, cabinet, seen}
use Rattle.rules.specs.Tests.{tests}
use Rattle.cabinets.specs.Track.{interval}
use Rattle.cabinets.specs.declared.cabinet.Cabinet.{Cabinet}
use Rattle.cabinets.specs.declared.paper.Paper.{Paper}
use Rattle.rules.proofs.Basics.{not_other, passed}
use Rattle.rules.proofs.Counts.{ToldBy, step_told}
use Rattle.rules.proofs.Ledger.{named, names_of_station}
use Rattle.rules.proofs.Numbers.{Free, Has, Numbers, Phase, Told, bound_lacks, few_gone, fewer, free, has_from, ours, theirs}
use Rattle.rules.proofs.Steps.{Hears, all_own, step}
use Rattle.rules.proofs.Times.{Times, later, old_theirs, own_times}

-- all that a run keeps, as a station sees it
pub record Inv (ds : List Deed) (x : Station) (v : View) : Type 0 where
  pub numbers : Numbers x v
  pub own : Times x (interval v.track) v.here.clock v.here.last_departure v.tray
  pub other : Times (opposite x) (interval v.track) v.there.clock v.there.last_departure v.tray
  pub told : ToldBy x ds v.here v.there v.tray

-- a station's act that no test bars
act_kept : (x : Station) (minute : ℕ) (a : Act) (came : Option Message) (rest : List Message) (v : View) (ds : List Deed) → Inv ds x v → NoneHolds (tests x minute a v) → Hears a came rest v → Inv (deed_by (act x minute a) (answer_of minute a came v) ∷ ds) x (view_after x minute a came rest v)
act_kept x minute a came rest v ds i p h = record {
  numbers = step x minute a came rest v i.numbers p h;
  own = own_times x minute a came v i.numbers p i.own;
  other = later v.there.clock _ (omega arith) (old_theirs x minute a v i.numbers p) i.other;
  told = step_told x minute a came v i.numbers p ds i.told;
}

-- a call that does nothing
idle_kept : {ds : List Deed} {x : Station} {v : View} → Inv ds x v → Inv (no_deed ∷ ds) x v
idle_kept i = record {
  numbers = i.numbers;
  own = i.own;
  other = i.other;
  told = record {
    ledger = i.told.ledger;
    ours = record { issued_is = i.told.ours.issued_is; cancelled_is = i.told.ours.cancelled_is; back_is = i.told.ours.back_is; taken_is = i.told.ours.taken_is; above = i.told.ours.above };
    theirs = record { issued_is = i.told.theirs.issued_is; cancelled_is = i.told.theirs.cancelled_is; back_is = i.told.theirs.back_is; taken_is = i.told.theirs.taken_is; above = i.told.theirs.above };
  };
}

-- the same from the other station
flip_free : (x : Station) (r s : ℕ) → Free x r s → Free (opposite x) s r
flip_free x r s (inl e) = inl (sym e)
flip_free A r s (inr (inl e, h)) = inr (inr e, omega arith)
flip_free A r s (inr (inr e, h)) = inr (inl e, omega arith)
flip_free B r s (inr (inl e, h)) = inr (inr e, omega arith)
flip_free B r s (inr (inr e, h)) = inr (inl e, omega arith)

to_b : {r s : ℕ} {tray : List Paper} → Phase A r s tray → Phase B s r tray
to_b (free e f) = free e (flip_free A _ _ f)
to_b (ours h) = theirs h
to_b (theirs h) = ours h

to_a : {r s : ℕ} {tray : List Paper} → Phase B r s tray → Phase A s r tray
to_a (free e f) = free e (flip_free B _ _ f)
to_a (ours h) = theirs h
to_a (theirs h) = ours h

from_b : {ds : List Deed} (s : Section) → Inv ds A (seen A s) → Inv ds B (seen B s)
from_b s i = record {
  numbers = record { phase = to_b i.numbers.phase; sent = i.numbers.coming; coming = i.numbers.sent; books = i.numbers.theirs_too; theirs_too = i.numbers.books };
  own = i.other;
  other = i.own;
  told = record { ledger = i.told.ledger; ours = i.told.theirs; theirs = i.told.ours };
}

from_a : {ds : List Deed} (s : Section) → Inv ds B (seen B s) → Inv ds A (seen A s)
from_a s i = record {
  numbers = record { phase = to_a i.numbers.phase; sent = i.numbers.coming; coming = i.numbers.sent; books = i.numbers.theirs_too; theirs_too = i.numbers.books };
  own = i.other;
  other = i.own;
  told = record { ledger = i.told.ledger; ours = i.told.theirs; theirs = i.told.ours };
}

-- what a hearing station is told of the line
hears : (x : Station) (a : Act) (ch : Choice) (s : Section) → MayChoose x a ch s → Hears a ch.came (left x ch) (seen x s)
hears A hear ch s k = (k.answer, k.left)
hears B hear ch s k = (k.answer, k.left)
hears x a ch s k = tt

-- a line dropped or mended
marked_kept : {ds : List Deed} (mark : Bool) (ch : Choice) (s : Section) → Within ch.left_a s.line.for_a → Within ch.left_b s.line.for_b → Inv ds A (seen A s) → Inv ds A (seen A (marked mark ch s))
marked_kept mark ch s wa wb i = record {
  numbers = record {
    phase = i.numbers.phase;
    sent = fewer s.line.for_b ch.left_b wb i.numbers.sent;
    coming = fewer s.line.for_a ch.left_a wa i.numbers.coming;
    books = i.numbers.books;
    theirs_too = i.numbers.theirs_too;
  };
  own = i.own;
  other = i.other;
  told = i.told;
}

judged_kept : (ds : List Deed) (x : Station) (minute : ℕ) (a : Act) (ch : Choice) (s : Section) (o : Option CallFault) → refusal (tests x minute a (seen x s)) ≡ o → (o ≡ None → MayChoose x a ch s) → Inv ds A (seen A s) → Inv (deed_of (Some (act x minute a)) (judged o (answer_of minute a ch.came (seen x s)) (section_after (act x minute a) ch s) s).answer ∷ ds) A (seen A (judged o (answer_of minute a ch.came (seen x s)) (section_after (act x minute a) ch s) s).after)
judged_kept ds x minute a ch s (Some f) e k i = idle_kept i
judged_kept ds A minute a ch s None e k i = act_kept A minute a ch.came ch.left_a (seen A s) ds i (passed (tests A minute a (seen A s)) e) (hears A a ch s (k refl))
judged_kept ds B minute a ch s None e k i = from_a _ (act_kept B minute a ch.came ch.left_b (seen B s) ds (from_b s i) (passed (tests B minute a (seen B s)) e) (hears B a ch s (k refl)))

next : (ds : List Deed) (o : Option Call) (ch : Choice) (s : Section) → KeepsMeaning o ch s → Inv ds A (seen A s) → Inv (deed_of o (outcome_of o ch s).answer ∷ ds) A (seen A (outcome_of o ch s).after)
next ds None ch s k i = idle_kept i
next ds (Some (act x minute a)) ch s k i = judged_kept ds x minute a ch s (refusal (tests x minute a (seen x s))) refl k i
next ds (Some drop_line) ch s k i = idle_kept (marked_kept false ch s k.left_a k.left_b i)
next ds (Some mend_line) ch s k i = idle_kept (marked_kept true ch s k.left_a k.left_b i)

-- a section just made
no_times : (x : Station) (gap : ℕ) → Times x gap 0 None []
no_times x gap = record { by = tt; before = λ p t i o d. absurd i; ready = λ p w t i j o r d e. absurd i; apart = λ p q t u i j o r ne d e. absurd i }

no_told : (r s t : ℕ) (ms : List Message) → ms ≡ [] → Told r s t [] ms
no_told r s t ms e = record { lower = λ m i. absurd (rw e at i); quiet = λ m i l. absurd (rw e at i); counted = λ m i. absurd (rw e at i) }

new_kept : (m : Making) → m.line.for_a ≡ [] → m.line.for_b ≡ [] → Inv [] A (seen A (new_section m))
new_kept m a b = record {
  numbers = record {
    phase = free refl (inl refl);
    sent = no_told 0 0 0 m.line.for_b b;
    coming = no_told 0 0 0 m.line.for_a a;
    books = record { all = refl; out = refl; heard = omega arith; few = omega arith };
    theirs_too = record { all = refl; out = refl; heard = omega arith; few = omega arith };
  };
  own = no_times A (interval (new_section m).track);
  other = no_times B (interval (new_section m).track);
  told = record {
    ledger = record { live_is = refl; departed_is = λ p i. absurd i; once = λ k. omega arith; at_most = λ k. omega arith; unmade = λ k e. refl };
    ours = record { issued_is = refl; cancelled_is = refl; back_is = refl; taken_is = refl; above = λ n l. refl };
    theirs = record { issued_is = refl; cancelled_is = refl; back_is = refl; taken_is = refl; above = λ n l. refl };
  };
}

made_ok : (o : Option MakingFault) (m : Making) (s : Section) → made_unless o m ≡ Ok s → (o ≡ None) × (s ≡ new_section m)
made_ok None m s e = (refl, cc)
made_ok (Some f) m s e = let z : ◌≡◌ {A = ℕ} 0 1 = cc in absurd (omega arith)

pub invariant : (h : History) (s : Section) → Run h s → Inv (deeds h) A (seen A s)
invariant h s (just_made m e) =
    let o = made_ok (refusal (making_tests m)) m s e in
    let w : some_wait m.line ≡ false = (passed (making_tests m) o.0).1.1.1.0 in
    let b = and_parts _ _ (not-false _ w) in
    subst (λ t. Inv [] A (seen A t)) (sym o.1) (new_kept m (nil_from_length m.line.for_a (eqb-true _ 0 b.0)) (nil_from_length m.line.for_b (eqb-true _ 0 b.1)))
invariant h s (then_called {h = g} {s = r} run f ch k) = next (deeds g) (call_from f) ch r k (invariant g r run)

-- a live paper is in the tray
live_in : {ds : List Deed} {s : Section} → Inv ds A (seen A s) → (k : Name) → Live k ds → (p : Paper) × In p s.tray × (name_of p ≡ k)
live_in {ds} {s} i k l = named k s.tray (rw i.told.ledger.live_is l)

-- all papers in the tray are one station's
one_station : {x : Station} {r s : ℕ} {tray : List Paper} → Phase x r s tray → (p q : Paper) → In p tray → In q tray → p.station ≡ q.station
one_station (free e f) p q i j = absurd (rw e at i)
one_station (ours h) p q i j = all_own h p i ∙ sym (all_own h q j)
one_station (theirs h) p q i j = all_own h p i ∙ sym (all_own h q j)

-- two papers of a station, by their departures
spaced : {ds : List Deed} {s : Section} → Inv ds A (seen A s) → (x : Station) (clock : ℕ) (last : Option ℕ) → Times x (interval s.track) clock last s.tray → (m n t u : ℕ) → Live (name x m) ds → Live (name x n) ds → (m ≡ n → ⊥) → departure (name x m) ds ≡ Some t → departure (name x n) ds ≡ Some u → (t + interval s.track ≤ u) ⊎ (u + interval s.track ≤ t)
spaced {ds} {s} i x clock last ts m n t u lm ln ne dm dn =
    let p = live_in i (name x m) lm in
    let q = live_in i (name x n) ln in
    ts.apart p.0 q.0 t u p.1 q.1 (ap (λ k. k.station) p.2) (ap (λ k. k.station) q.2)
    (λ e. ne (sym (ap (λ k. k.serial) p.2) ∙ e ∙ ap (λ k. k.serial) q.2))
    (i.told.ledger.departed_is p.0 p.1 ∙ ap (λ k. departure k ds) p.2 ∙ dm)
    (i.told.ledger.departed_is q.0 q.1 ∙ ap (λ k. departure k ds) q.2 ∙ dn)

counts_of : {ds : List Deed} {s : Section} → Inv ds A (seen A s) → (x : Station) → CountsKept x ds s
counts_of {ds} {s} i A =
    let l : of_station A (live ds) ≡ _ = ap (of_station A) (sym i.told.ledger.live_is) ∙ names_of_station A s.tray in
    let c = i.told.ours in
    record { sum = omega (arith, l, c.issued_is, c.cancelled_is, c.back_is, c.taken_is, i.numbers.books.all); issued = c.issued_is; cancelled = c.cancelled_is; set_back = c.back_is; handed_in = c.taken_is }
counts_of {ds} {s} i B =
    let l : of_station B (live ds) ≡ _ = ap (of_station B) (sym i.told.ledger.live_is) ∙ names_of_station B s.tray in
    let c = i.told.theirs in
    record { sum = omega (arith, l, c.issued_is, c.cancelled_is, c.back_is, c.taken_is, i.numbers.theirs_too.all); issued = c.issued_is; cancelled = c.cancelled_is; set_back = c.back_is; handed_in = c.taken_is }

safe_by : {ds : List Deed} {s : Section} → Inv ds A (seen A s) → Safe ds s
safe_by {ds} {s} i = record {
  one_direction = λ m n a b.
      let p = live_in i (name A m) a in
      let q = live_in i (name B n) b in
      not_other A (sym (ap (λ k. k.station) p.2) ∙ one_station i.numbers.phase p.0 q.0 p.1 q.1 ∙ ap (λ k. k.station) q.2);
  papers = record { made_once = i.told.ledger.once; closed_once = i.told.ledger.at_most; tray_live = i.told.ledger.live_is; tray_departed = i.told.ledger.departed_is };
  counts = counts_of i;
  apart = apart;
}
  where
    apart : (x : Station) (m n t u : ℕ) → Live (name x m) ds → Live (name x n) ds → (m ≡ n → ⊥) → departure (name x m) ds ≡ Some t → departure (name x n) ds ≡ Some u → (t + interval s.track ≤ u) ⊎ (u + interval s.track ≤ t)
    apart A = spaced i A _ _ i.own
    apart B = spaced i B _ _ i.other

-- no count of a cabinet comes near an end
pub record Few (c : Cabinet) : Type 0 where
  pub gone : c.gone ≤ 9_999
  pub taken : c.taken ≤ 9_999
  pub cancelled : c.cancelled ≤ 9_999
  pub set_back : c.set_back ≤ 9_999

pub few_counts : (h : History) (s : Section) → Run h s → (x : Station) → Few (cabinet x s)
few_counts h s run = few
  where
    n : Numbers A (seen A s)
    n = (invariant h s run).numbers

    few : (x : Station) → Few (cabinet x s)
    few A = record {
      gone = few_gone n.books;
      taken = omega (arith, n.theirs_too.all, n.theirs_too.few);
      cancelled = omega (arith, n.books.all, n.books.few);
      set_back = omega (arith, n.books.all, n.books.few);
    }
    few B = record {
      gone = few_gone n.theirs_too;
      taken = omega (arith, n.books.all, n.books.few);
      cancelled = omega (arith, n.theirs_too.all, n.theirs_too.few);
      set_back = omega (arith, n.theirs_too.all, n.theirs_too.few);
    }

-- where the right is
lacks : (x : Station) (c : Cabinet) → (Has x c.right.0 → ⊥) → has_right x c ≡ false
lacks x c no-right = ⊎_elim (λ e. absurd (no-right (has_from x c e))) (λ e. e) (cases_Bool (has_right x c))

one_has : (r s : ℕ) (tray : List Paper) → Phase A r s tray → Has A r → Has B s → ⊥
one_has r s tray (free e (inl f)) a b = omega arith
one_has r s tray (free e (inr (inl f, h))) a b = omega arith
one_has r s tray (free e (inr (inr f, h))) a b = omega arith
one_has r s tray (ours h) a b = (bound_lacks B r s h.last.departed h.last.carried h.bound).1 b
one_has r s tray (theirs h) a b = (bound_lacks A s r h.last.departed h.last.carried h.bound).1 a

live_lacks : (x : Station) (r s : ℕ) (tray : List Paper) → Phase x r s tray → (p : Paper) → In p tray → p.station ≡ opposite x → Has x r → ⊥
live_lacks x r s tray (free e f) p i o has = absurd (rw e at i)
live_lacks x r s tray (ours h) p i o has = not_other x (sym (all_own h p i) ∙ o)
live_lacks x r s tray (theirs h) p i o has = (bound_lacks x s r h.last.departed h.last.carried h.bound).1 has

right_by : {ds : List Deed} {s : Section} → Inv ds A (seen A s) → RightKept ds s
right_by {ds} {s} i = record {
  not_both = λ a b. one_has _ _ s.tray i.numbers.phase (has_from A s.at_a a) (has_from B s.at_b b);
  other_lacks = other_lacks;
}
  where
    other_lacks : (x : Station) (n : ℕ) → Live (name x n) ds → has_right (opposite x) (cabinet (opposite x) s) ≡ false
    other_lacks A n l =
        let p = live_in i (name A n) l in
        lacks B s.at_b (live_lacks B _ _ s.tray (to_b i.numbers.phase) p.0 p.1 (ap (λ k. k.station) p.2))
    other_lacks B n l =
        let p = live_in i (name B n) l in
        lacks A s.at_a (live_lacks A _ _ s.tray i.numbers.phase p.0 p.1 (ap (λ k. k.station) p.2))

pub every_run_safe : EveryRunSafe
every_run_safe h s run = safe_by (invariant h s run)

pub every_run_one_right : EveryRunOneRight
every_run_one_right h s run = right_by (invariant h s run)
