-- The counts that the history tells are the cabinets', and each act keeps both the ledger and the counts.
use Rattle.std.proofs.Common.{◌≡◌, ℕ, ◌+◌, ◌<◌, Bool, true, false, cond, List, [], ◌∷◌, ◌++◌, Some, Option, sym, refl, ap, ◌∙◌, subst, arith}
use Rattle.std.proofs.lemmas.Bool.{eqb-true, not-false}
use Rattle.line.specs.declared.message.Message.{Message}
use Rattle.vocabulary.specs.Stations.{opposite}
use Rattle.vocabulary.specs.declared.number.Serial.{Serial}
use Rattle.vocabulary.specs.declared.station.Station.{Station}
use Rattle.cabinets.specs.Cabinets.{with_clock}
use Rattle.cabinets.specs.declared.call.Act.{Act}
use Rattle.cabinets.specs.declared.call.Act.TheVariants.{Issue as issue, Depart as depart, Cancel as cancel, Arrive as arrive, SetBack as set_back, Hear as hear}
use Rattle.cabinets.specs.declared.call.Call.TheVariants.{Act as act}
use Rattle.rules.specs.Effects.{answer_of, here_after, paper_for, tray_after}
use Rattle.rules.specs.History.{Deed, Name, count_cancelled, count_handed_in, count_made, count_set_back, counted, deed_by, departure, made, name, no_deed, one_more_if, same_name, times, times_closed}
use Rattle.cabinets.specs.Refusals.{NoneHolds}
use Rattle.rules.specs.Safety.{name_of}
use Rattle.cabinets.specs.Section.{View}
use Rattle.cabinets.specs.Tests.{tests as cabinets_tests}
use Rattle.rules.specs.Tests.{tests}
use Rattle.cabinets.specs.Tray.{but_oldest, but_youngest, in_hand, is_out, oldest, serial_of, youngest, youngest_departed}
use Rattle.cabinets.specs.declared.cabinet.Cabinet.{Cabinet}
use Rattle.cabinets.specs.declared.paper.Paper.{Paper}
use Rattle.vocabulary.specs.declared.kind.Nature.{Nature}
use Rattle.rules.proofs.Basics.{not_other, other_same, same_other, same_refl}
use Rattle.rules.proofs.Ledger.{Ledger, close_first, close_last, making_kept, same_name_true, sending_kept, times_push}
use Rattle.rules.proofs.Numbers.{Held, Numbers}
use Rattle.rules.proofs.Steps.{held_in_hand, held_out, last_is, oldest_is, out_is, rest_is, sent_is}
use Rattle.rules.proofs.Times.{heard_kept}

abbrev pub LedgerOf : List Deed → List Paper → Type 0
LedgerOf ds tray = Ledger (made ds) (λ k. times_closed k ds) (λ k. departure k ds) tray

-- a station's counts, with the papers of it that the other took
pub record Counts (x : Station) (ds : List Deed) (issued cancelled back taken : ℕ) : Type 0 where
  pub issued_is : issued ≡ counted (count_made x) ds
  pub cancelled_is : cancelled ≡ counted (count_cancelled x) ds
  pub back_is : back ≡ counted (count_set_back x) ds
  pub taken_is : taken ≡ counted (count_handed_in x) ds
  pub above : (n : ℕ) → issued < n → times (name x n) (made ds) ≡ 0

abbrev pub CountsOf : Station → List Deed → Cabinet → Cabinet → Type 0
CountsOf x ds c d = Counts x ds c.issued c.cancelled c.set_back d.taken

-- all that is kept of the history, as a station sees it
pub record ToldBy (x : Station) (ds : List Deed) (here there : Cabinet) (tray : List Paper) : Type 0 where
  pub ledger : LedgerOf ds tray
  pub ours : CountsOf x ds here there
  pub theirs : CountsOf (opposite x) ds there here

-- the name of the youngest paper, this station's
last_name : {x : Station} {r s : ℕ} {tray : List Paper} (h : Held x r s tray) → name_of h.last ≡ name x (serial_of (youngest tray))
last_name {x} {r} {s} {tray} h = ap (λ y. name y h.last.serial.0) h.owner ∙ ap (λ o. name x (serial_of o)) (sym (last_is h))

-- a new name is not among those of another station or another serial
new_name : (k : Name) (ks : List Name) (j : Name) → (j ≡ k → ⊥) → times k ks ≡ 0 → times k (ks ++ j ∷ []) ≡ 0
new_name k ks j ne e = times_push k j ks ∙ go (same_name j k) refl
  where
    go : (b : Bool) → same_name j k ≡ b → one_more_if b (times k ks) ≡ 0
    go true s = absurd (ne (same_name_true j k s))
    go false s = e

module _ (x : Station) (minute : ℕ) (v : View) (n : Numbers x v) (ds : List Deed) (t : ToldBy x ds v.here v.there v.tray) (came : Option Message) where
  abbrev After : Act → Type 0
  After a = ToldBy x (deed_by (act x minute a) (answer_of minute a came v) ∷ ds) (here_after x minute a came v.tray v.here) v.there (tray_after x minute a v)

  told_issue : (train : ℕ) (nature : Nature) (pass : Bool) → After (issue train nature pass)
  told_issue train nature pass =
      let new : Paper = paper_for x train pass v.track v.here in
      let own = same_refl x in
      let other = same_other x in
      let fresh : times (name_of new) (made ds) ≡ 0 = t.ours.above (v.here.issued + 1) (omega arith) in
      record {
        ledger = making_kept t.ledger new refl fresh;
        ours = record {
          issued_is = rw own (omega (arith, t.ours.issued_is));
          cancelled_is = t.ours.cancelled_is;
          back_is = t.ours.back_is;
          taken_is = t.ours.taken_is;
          above = λ m l. new_name (name x m) (made ds) (name_of new) (λ e. omega (arith, ap (λ k. k.serial) e)) (t.ours.above m (omega arith));
        };
        theirs = record {
          issued_is = rw other t.theirs.issued_is;
          cancelled_is = t.theirs.cancelled_is;
          back_is = t.theirs.back_is;
          taken_is = t.theirs.taken_is;
          above = λ m l. new_name (name (opposite x) m) (made ds) (name_of new) (λ e. not_other x (ap (λ k. k.station) e)) (t.theirs.above m l);
        };
      }

  told_depart : NoneHolds (tests x minute depart v) → After depart
  unfolding tests cabinets_tests
  told_depart p =
      let q = held_in_hand x v n (not-false (in_hand x v.tray) p.1.0) in
      let h = q.0 in
      let l : Ledger (made ds) (λ k. times_closed k ds) (λ k. cond (same_name (name_of h.last) k) (Some minute) (departure k ds)) (youngest_departed minute v.tray) = rw (sent_is h minute) (sending_kept t.ledger h.front h.last minute h.is) in
      record { ledger = subst (λ j. Ledger (made ds) (λ k. times_closed k ds) (λ k. cond (same_name j k) (Some minute) (departure k ds)) (youngest_departed minute v.tray)) (last_name h) l; ours = record { issued_is = t.ours.issued_is; cancelled_is = t.ours.cancelled_is; back_is = t.ours.back_is; taken_is = t.ours.taken_is; above = t.ours.above }; theirs = record { issued_is = t.theirs.issued_is; cancelled_is = t.theirs.cancelled_is; back_is = t.theirs.back_is; taken_is = t.theirs.taken_is; above = t.theirs.above } }

  -- the youngest paper, this station's, is closed
  closed_last : (h : Held x v.here.right.0 v.there.right.0 v.tray) → Ledger (made ds) (λ k. one_more_if (same_name (name x (serial_of (youngest v.tray))) k) (times_closed k ds)) (λ k. departure k ds) (but_youngest v.tray)
  closed_last h =
      let l : Ledger (made ds) (λ k. one_more_if (same_name (name_of h.last) k) (times_closed k ds)) (λ k. departure k ds) (but_youngest v.tray) = rw (rest_is h) (close_last t.ledger h.front h.last h.is) in
      subst (λ j. Ledger (made ds) (λ k. one_more_if (same_name j k) (times_closed k ds)) (λ k. departure k ds) (but_youngest v.tray)) (last_name h) l

  told_cancel : NoneHolds (tests x minute cancel v) → After cancel
  unfolding tests cabinets_tests
  told_cancel p =
      let q = held_in_hand x v n (not-false (in_hand x v.tray) p.1.0) in
      record {
        ledger = closed_last q.0;
        ours = record { issued_is = t.ours.issued_is; cancelled_is = rw (same_refl x) (omega (arith, t.ours.cancelled_is)); back_is = t.ours.back_is; taken_is = t.ours.taken_is; above = t.ours.above };
        theirs = record { issued_is = t.theirs.issued_is; cancelled_is = rw (same_other x) t.theirs.cancelled_is; back_is = t.theirs.back_is; taken_is = t.theirs.taken_is; above = t.theirs.above };
      }

  told_set_back : (serial : Serial) → NoneHolds (tests x minute (set_back serial) v) → After (set_back serial)
  unfolding tests cabinets_tests
  told_set_back serial p =
      let q = held_out x serial.0 v n (not-false (is_out x serial.0 (youngest v.tray)) p.1.1.0) in
      record {
        ledger = closed_last q.0;
        ours = record { issued_is = t.ours.issued_is; cancelled_is = t.ours.cancelled_is; back_is = rw (same_refl x) (omega (arith, t.ours.back_is)); taken_is = t.ours.taken_is; above = t.ours.above };
        theirs = record { issued_is = t.theirs.issued_is; cancelled_is = t.theirs.cancelled_is; back_is = rw (same_other x) t.theirs.back_is; taken_is = t.theirs.taken_is; above = t.theirs.above };
      }

  told_arrive : (serial : Serial) → NoneHolds (tests x minute (arrive serial) v) → After (arrive serial)
  unfolding tests cabinets_tests
  told_arrive serial p =
      let o = out_is (opposite x) serial.0 (oldest v.tray) (not-false (is_out (opposite x) serial.0 (oldest v.tray)) p.1.0) in
      let q = o.0 in
      let same : name_of q ≡ name (opposite x) serial.0 = ap (λ y. name y q.serial.0) o.2 ∙ ap (λ m. name (opposite x) m) (eqb-true q.serial.0 serial.0 o.4) in
      let l : Ledger (made ds) (λ k. one_more_if (same_name (name_of q) k) (times_closed k ds)) (λ k. departure k ds) (but_oldest v.tray) = close_first t.ledger q (but_oldest v.tray) (oldest_is v.tray q o.1) in
      record {
        ledger = subst (λ j. Ledger (made ds) (λ k. one_more_if (same_name j k) (times_closed k ds)) (λ k. departure k ds) (but_oldest v.tray)) same l;
        ours = record { issued_is = t.ours.issued_is; cancelled_is = t.ours.cancelled_is; back_is = t.ours.back_is; taken_is = rw (other_same x) t.ours.taken_is; above = t.ours.above };
        theirs = record { issued_is = t.theirs.issued_is; cancelled_is = t.theirs.cancelled_is; back_is = t.theirs.back_is; taken_is = rw (same_refl (opposite x)) (omega (arith, t.theirs.taken_is)); above = t.theirs.above };
      }

-- the same papers and counts after a call that did nothing to any paper
same_told : {x : Station} {ds : List Deed} {c d : Cabinet} {tray : List Paper} (c' : Cabinet) → c'.issued ≡ c.issued → c'.cancelled ≡ c.cancelled → c'.set_back ≡ c.set_back → c'.taken ≡ c.taken → ToldBy x ds c d tray → ToldBy x (no_deed ∷ ds) c' d tray
same_told c' i k b n t = record {
  ledger = t.ledger;
  ours = record { issued_is = i ∙ t.ours.issued_is; cancelled_is = k ∙ t.ours.cancelled_is; back_is = b ∙ t.ours.back_is; taken_is = t.ours.taken_is; above = λ m l. t.ours.above m (omega arith) };
  theirs = record { issued_is = t.theirs.issued_is; cancelled_is = t.theirs.cancelled_is; back_is = t.theirs.back_is; taken_is = n ∙ t.theirs.taken_is; above = t.theirs.above };
}

-- every act keeps the ledger and the counts
pub step_told : (x : Station) (minute : ℕ) (a : Act) (came : Option Message) (v : View) → Numbers x v → NoneHolds (tests x minute a v) → (ds : List Deed) → ToldBy x ds v.here v.there v.tray → ToldBy x (deed_by (act x minute a) (answer_of minute a came v) ∷ ds) (here_after x minute a came v.tray v.here) v.there (tray_after x minute a v)
step_told x minute (issue train nature pass) came v n p ds t = told_issue x minute v n ds t came train nature pass
step_told x minute depart came v n p ds t = told_depart x minute v n ds t came p
step_told x minute cancel came v n p ds t = told_cancel x minute v n ds t came p
step_told x minute (arrive serial) came v n p ds t = told_arrive x minute v n ds t came serial p
step_told x minute (set_back serial) came v n p ds t = told_set_back x minute v n ds t came serial p
step_told x minute hear came v n p ds t =
    let k = heard_kept came (with_clock minute v.here) in
    same_told _ k.issued k.cancelled k.set_back k.taken t
step_told x minute a came v n p ds t = same_told _ refl refl refl refl t
