-- The invariant on departures, and that each act keeps it.
use Rattle.std.proofs.Common.{◌≡◌, ℕ, ◌+◌, ◌≤◌, true, false, not, ◌&&◌, ◌⊎◌, List, [], ◌∷◌, ◌++◌, is_some, Some, None, Option, sym, refl, ap, ◌∙◌, inl, inr, ⊎_elim, arith}
use Rattle.std.proofs.lemmas.Bool.{false≢true, ltb-false, not-false}
use Rattle.line.specs.declared.message.Message.{Message}
use Rattle.line.specs.declared.message.MessageKind.{MessageKind}
use Rattle.line.specs.declared.message.MessageKind.TheVariants as kind
use Rattle.vocabulary.specs.Stations.{opposite}
use Rattle.vocabulary.specs.declared.station.Station.{Station}
use Rattle.cabinets.specs.declared.call.Act.{Act}
use Rattle.cabinets.specs.declared.call.Act.TheVariants.{Issue as issue, Depart as depart, Cancel as cancel, Arrive as arrive, SetBack as set_back, Hear as hear}
use Rattle.cabinets.specs.Cabinets.{with_clock}
use Rattle.rules.specs.Effects.{heard, heard_as, here_after, paper_for, tray_after}
use Rattle.cabinets.specs.Refusals.{NoneHolds}
use Rattle.rules.specs.Safety.{In}
use Rattle.cabinets.specs.Section.{View}
use Rattle.cabinets.specs.Tests.{tests as cabinets_tests}
use Rattle.rules.specs.Tests.{dead, earlier_than, tests, too_soon, trains_out}
use Rattle.cabinets.specs.Track.{interval}
use Rattle.cabinets.specs.Tray.{but_oldest, but_youngest, departed_at, in_hand, is_dead}
use Rattle.cabinets.specs.declared.cabinet.Cabinet.{Cabinet}
use Rattle.cabinets.specs.declared.paper.Paper.{Paper}
use Rattle.cabinets.specs.declared.paper.Working.{Working}
use Rattle.cabinets.specs.declared.paper.Working.TheVariants.{Telephone, Dead}
use Rattle.rules.proofs.Basics.{in_front, in_last, in_split, not_other, same_refl, some_not_none, tally_some}
use Rattle.rules.proofs.Numbers.{Held, Numbers, is_sent}
use Rattle.rules.proofs.Steps.{held_in_hand, sent_is}

-- a departure is not after the last one
abbrev pub UpTo : ℕ → Option ℕ → Type 0
UpTo t None = ⊥
UpTo t (Some d) = t ≤ d

-- the last departure is not after the clock
abbrev pub By : Option ℕ → ℕ → Type 0
By None clock = Unit
By (Some d) clock = d ≤ clock

-- of a station's papers: when they departed, by its clock and last departure
pub record Times (x : Station) (gap clock : ℕ) (last : Option ℕ) (tray : List Paper) : Type 0 where
  pub by : By last clock
  pub before : (p : Paper) (t : ℕ) → In p tray → p.station ≡ x → p.departed ≡ Some t → UpTo t last
  pub ready : (p w : Paper) (t : ℕ) → In p tray → In w tray → p.station ≡ x → w.station ≡ x → p.departed ≡ Some t → w.departed ≡ None → t + gap ≤ clock
  pub apart : (p q : Paper) (t u : ℕ) → In p tray → In q tray → p.station ≡ x → q.station ≡ x → (p.serial.0 ≡ q.serial.0 → ⊥) → p.departed ≡ Some t → q.departed ≡ Some u → (t + gap ≤ u) ⊎ (u + gap ≤ t)

by_later : (last : Option ℕ) (clock clock' : ℕ) → clock ≤ clock' → By last clock → By last clock'
by_later None clock clock' l b = tt
by_later (Some d) clock clock' l b = omega arith

-- a later clock, and no new paper of the station
pub later : {x : Station} {gap clock : ℕ} {last : Option ℕ} {tray : List Paper} (clock' : ℕ) (tray' : List Paper) → clock ≤ clock' → ((p : Paper) → In p tray' → p.station ≡ x → In p tray) → Times x gap clock last tray → Times x gap clock' last tray'
later {x} {gap} {clock} {last} {tray} clock' tray' l old t = record {
  by = by_later last clock clock' l t.by;
  before = λ p u i o d. t.before p u (old p i o) o d;
  ready = λ p w u i j o r d e. omega (arith, t.ready p w u (old p i o) (old w j r) o r d e);
  apart = λ p q u w i j o r ne d e. t.apart p q u w (old p i o) (old q j r) o r ne d e;
}

pub in_but_youngest : (p : Paper) (ps : List Paper) → In p (but_youngest ps) → In p ps
in_but_youngest p [] i = absurd i
in_but_youngest p (q ∷ []) i = absurd i
in_but_youngest p (q ∷ r ∷ ps) (inl e) = inl e
in_but_youngest p (q ∷ r ∷ ps) (inr i) = inr (in_but_youngest p (r ∷ ps) i)

pub in_but_oldest : (p : Paper) (ps : List Paper) → In p (but_oldest ps) → In p ps
in_but_oldest p [] i = absurd i
in_but_oldest p (q ∷ qs) i = inr i

-- the other station's papers are those that it had
pub old_theirs : (x : Station) (minute : ℕ) (a : Act) (v : View) → Numbers x v → NoneHolds (tests x minute a v) → (p : Paper) → In p (tray_after x minute a v) → p.station ≡ opposite x → In p v.tray
unfolding tests cabinets_tests
old_theirs x minute (issue train nature pass) v n e p i o = ⊎_elim (λ j. j) (λ f. absurd (not_other x (ap (λ q. q.station) (sym f) ∙ o))) (in_split p (paper_for x train pass v.track v.here) v.tray i)
old_theirs x minute depart v n e p i o =
    let q = held_in_hand x v n (not-false (in_hand x v.tray) e.1.0) in
    let h = q.0 in
    ⊎_elim (λ j. rw h.is (in_front p h.last h.front j)) (λ f. absurd (not_other x (sym h.owner ∙ ap (λ w. w.station) (sym f) ∙ o))) (in_split p (departed_at minute h.last) h.front (rw (sent_is h minute) at i))
old_theirs x minute cancel v n e p i o = in_but_youngest p v.tray i
old_theirs x minute (arrive serial) v n e p i o = in_but_oldest p v.tray i
old_theirs x minute (set_back serial) v n e p i o = in_but_youngest p v.tray i
old_theirs x minute a v n e p i o = i

-- no train of this station is out, or the interval since its last departure is over
waited : (x : Station) (minute : ℕ) (v : View) → Numbers x v → (not (dead v.here) && trains_out v.here) ≡ false → (dead v.here && too_soon minute v.track v.here) ≡ false → Times x (interval v.track) v.here.clock v.here.last_departure v.tray → (p : Paper) (t : ℕ) → In p v.tray → p.station ≡ x → p.departed ≡ Some t → t + interval v.track ≤ minute
waited x minute v n out soon ts p t i o d = go v.here.working out soon
  where
    sent : is_sent x p ≡ true
    sent = rw (o, same_refl x, d) refl

    from : (last : Option ℕ) → UpTo t last → earlier_than minute (interval v.track) last ≡ false → t + interval v.track ≤ minute
    from None u e = absurd u
    from (Some l) u e = omega (arith, ltb-false minute (l + interval v.track) e)

    go : (w : Working) → (not (is_dead w) && trains_out v.here) ≡ false → (is_dead w && too_soon minute v.track v.here) ≡ false → t + interval v.track ≤ minute
    go Telephone f g = absurd (omega (arith, ltb-false v.here.known v.here.gone f, n.books.out, n.books.heard, tally_some (is_sent x) v.tray p i sent))
    go Dead f g = from v.here.last_departure (ts.before p t i o d) g

module _ (x : Station) (minute : ℕ) (v : View) (n : Numbers x v) (ts : Times x (interval v.track) v.here.clock v.here.last_departure v.tray) (now : v.here.clock ≤ minute) where
  issue_times : (new : Paper) → new.departed ≡ None → (not (dead v.here) && trains_out v.here) ≡ false → (dead v.here && too_soon minute v.track v.here) ≡ false → Times x (interval v.track) minute v.here.last_departure (v.tray ++ new ∷ [])
  issue_times new fresh out soon = record {
    by = by_later v.here.last_departure v.here.clock minute now ts.by;
    before = λ p t i o d. ts.before p t (old p t i d) o d;
    ready = λ p w t i j o r d e. waited x minute v n out soon ts p t (old p t i d) o d;
    apart = λ p q t u i j o r ne d e. ts.apart p q t u (old p t i d) (old q u j e) o r ne d e;
  }
    where
      old : (p : Paper) (t : ℕ) → In p (v.tray ++ new ∷ []) → p.departed ≡ Some t → In p v.tray
      old p t i d = ⊎_elim (λ j. j) (λ f. absurd (some_not_none t (sym d ∙ ap (λ w. w.departed) f ∙ fresh))) (in_split p new v.tray i)

  depart_times : (h : Held x v.here.right.0 v.there.right.0 v.tray) → h.last.departed ≡ None → Times x (interval v.track) minute (Some minute) (tray_after x minute depart v)
  depart_times h in-hand-yet = rw (sent_is h minute) times
    where
      new : Paper
      new = departed_at minute h.last

      last_in : In h.last v.tray
      last_in = rw h.is (in_last h.last h.front)

      front_in : (p : Paper) → In p h.front → In p v.tray
      front_in p i = rw h.is (in_front p h.last h.front i)

      which : (p : Paper) → In p (h.front ++ new ∷ []) → In p h.front ⊎ (p ≡ new)
      which p i = in_split p new h.front i

      at_minute : (p : Paper) (t : ℕ) → p ≡ new → p.departed ≡ Some t → t ≡ minute
      at_minute p t e d = let f : Some minute ≡ Some t = ap (λ w. w.departed) (sym e) ∙ d in cc

      gap_over : (p : Paper) (t : ℕ) → In p h.front → p.station ≡ x → p.departed ≡ Some t → t + interval v.track ≤ minute
      gap_over p t i o d = omega (arith, ts.ready p h.last t (front_in p i) last_in o h.owner d in-hand-yet)

      not_none : (d : Option ℕ) → is_some d ≡ true → d ≡ None → ⊥
      not_none d s e = false≢true (ap is_some (sym e) ∙ s)

      times : Times x (interval v.track) minute (Some minute) (h.front ++ new ∷ [])
      times = record {
        by = omega arith;
        before = λ p t i o d. ⊎_elim (λ j. omega (arith, gap_over p t j o d)) (λ e. omega (arith, at_minute p t e d)) (which p i);
        ready = λ p w t i j o r d e. ⊎_elim (λ k. absurd (not_none w.departed (h.older w k).gone e)) (λ f. absurd (some_not_none minute (ap (λ y. y.departed) (sym f) ∙ e))) (which w j);
        apart = λ p w t u i j o r ne d e. ⊎_elim
            (λ k. ⊎_elim (λ l. ts.apart p w t u (front_in p k) (front_in w l) o r ne d e) (λ f. inl (omega (arith, gap_over p t k o d, at_minute w u f e))) (which w j))
            (λ f. ⊎_elim (λ l. inr (omega (arith, gap_over w u l r e, at_minute p t f d))) (λ g. absurd (ne (ap (λ y. y.serial.0) (f ∙ sym g)))) (which w j))
            (which p i);
      }

-- what hearing leaves as it was
pub record Kept (c d : Cabinet) : Type 0 where
  pub clock : d.clock ≡ c.clock
  pub departure : d.last_departure ≡ c.last_departure
  pub issued : d.issued ≡ c.issued
  pub cancelled : d.cancelled ≡ c.cancelled
  pub set_back : d.set_back ≡ c.set_back
  pub taken : d.taken ≡ c.taken

heard_as_kept : (k : MessageKind) (m : Message) (c : Cabinet) → Kept c (heard_as k m c)
heard_as_kept kind.Ask m c = record { clock = refl; departure = refl; issued = refl; cancelled = refl; set_back = refl; taken = refl }
heard_as_kept kind.Acceptance m c = record { clock = refl; departure = refl; issued = refl; cancelled = refl; set_back = refl; taken = refl }
heard_as_kept kind.Report m c = record { clock = refl; departure = refl; issued = refl; cancelled = refl; set_back = refl; taken = refl }
heard_as_kept kind.Release m c = record { clock = refl; departure = refl; issued = refl; cancelled = refl; set_back = refl; taken = refl }

pub heard_kept : (came : Option Message) (c : Cabinet) → Kept c (heard came c)
heard_kept None c = record { clock = refl; departure = refl; issued = refl; cancelled = refl; set_back = refl; taken = refl }
heard_kept (Some m) c = heard_as_kept m.kind m c

-- every act keeps the invariant of the station that acts
pub own_times : (x : Station) (minute : ℕ) (a : Act) (came : Option Message) (v : View) → Numbers x v → NoneHolds (tests x minute a v) → Times x (interval v.track) v.here.clock v.here.last_departure v.tray → Times x (interval v.track) (here_after x minute a came v.tray v.here).clock (here_after x minute a came v.tray v.here).last_departure (tray_after x minute a v)
unfolding tests cabinets_tests
own_times x minute (issue train nature pass) came v n e t = issue_times x minute v n t (ltb-false minute v.here.clock e.0) (paper_for x train pass v.track v.here) refl e.1.1.1.1.1.0 e.1.1.1.1.1.1.1.1.0
own_times x minute depart came v n e t =
    let q = held_in_hand x v n (not-false (in_hand x v.tray) e.1.0) in
    depart_times x minute v n t (ltb-false minute v.here.clock e.0) q.0 q.1
own_times x minute cancel came v n e t = later minute (but_youngest v.tray) (ltb-false minute v.here.clock e.0) (λ p i o. in_but_youngest p v.tray i) t
own_times x minute (arrive serial) came v n e t = later minute (but_oldest v.tray) (ltb-false minute v.here.clock e.0) (λ p i o. in_but_oldest p v.tray i) t
own_times x minute (set_back serial) came v n e t = later minute (but_youngest v.tray) (ltb-false minute v.here.clock e.0) (λ p i o. in_but_youngest p v.tray i) t
own_times x minute hear came v n e t =
    let k = heard_kept came (with_clock minute v.here) in
    rw (k.clock, k.departure) (later minute v.tray (ltb-false minute v.here.clock e.0) (λ p i o. i) t)
own_times x minute a came v n e t = later minute v.tray (ltb-false minute v.here.clock e.0) (λ p i o. i) t
