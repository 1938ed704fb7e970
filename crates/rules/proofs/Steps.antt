-- Each act keeps the invariant on numbers.
use Rattle.std.proofs.Common.{◌≡◌, ℕ, ◌+◌, ◌<◌, ◌≤◌, max, Bool, true, false, cond, not, ◌&&◌, eqb, ltb, List, [], ◌∷◌, ◌++◌, length, is_some, Some, None, Option, sym, refl, ap, ◌∙◌, inl, inr, ⊎_elim, arith}
use Rattle.std.proofs.lemmas.List.{length_push}
use Rattle.std.proofs.lemmas.Bool.{and_parts, cases_lt, le-ltb, leb-false, lt-ltb, not-false, or_parts}
use Rattle.line.specs.Meaning.{In as Waits, MayHear, Within}
use Rattle.line.specs.declared.message.Message.{Message}
use Rattle.line.specs.declared.message.MessageKind.{MessageKind}
use Rattle.line.specs.declared.message.MessageKind.TheVariants as kind
use Rattle.vocabulary.specs.Stations.{opposite}
use Rattle.vocabulary.specs.declared.number.RightNumber.{RightNumber}
use Rattle.vocabulary.specs.declared.number.Serial.{Serial}
use Rattle.vocabulary.specs.declared.station.Station.{Station}
use Rattle.cabinets.specs.declared.call.Act.{Act}
use Rattle.cabinets.specs.declared.call.Act.TheVariants.{Ask as ask, Accept as accept, Issue as issue, Depart as depart, Cancel as cancel, Arrive as arrive, SetBack as set_back, Report as report, Release as release, Hear as hear}
use Rattle.cabinets.specs.Cabinets.{with_clock}
use Rattle.rules.specs.Effects.{heard_as, paper_for, view_after}
use Rattle.cabinets.specs.Refusals.{NoneHolds}
use Rattle.cabinets.specs.Rights.{b_has_right, has_right, is_b, number_carried, parted_to, regained_to}
use Rattle.rules.specs.Safety.{In}
use Rattle.cabinets.specs.Section.{View}
use Rattle.cabinets.specs.Tests.{tests as cabinets_tests}
use Rattle.rules.specs.Tests.{carries, tests}
use Rattle.cabinets.specs.Tray.{but_oldest, but_youngest, carried_by, departed_at, in_hand, is_in_hand, is_out, oldest, same_station, youngest, youngest_departed}
use Rattle.cabinets.specs.declared.paper.Paper.{Paper}
use Rattle.vocabulary.specs.declared.kind.Nature.{Nature}
use Rattle.rules.proofs.Basics.{Ended, but_youngest_push, departed_push, ended, in_front, in_last, in_split, none, not_other, other_same, same_other, same_refl, same_true, some_not_none, tally, tally_none, tally_push, with_last, youngest_push}
use Rattle.rules.proofs.Numbers.{Bound, Clear, Has, Held, Numbers, Older, Phase, Told, bound_lacks, clear, fewer, free, free_equal, hand_tells, has_from, is_of, is_sent, ours, theirs, told_as, told_more}

-- an empty tray has no paper
none_live : (tray : List Paper) → tray ≡ [] → 0 < length tray → ⊥
none_live tray e l = omega (arith, ap length e)

-- a number posted that was lifted only if the right was here
pub record Given (x : Station) (v : View) (r : ℕ) (y : Message) : Type 0 where
  pub phase : Phase x r v.there.right.0 v.tray
  pub sent : Told r v.there.right.0 v.here.taken v.tray (v.outbox ++ y ∷ [])
  pub coming : Told v.there.right.0 r v.there.taken v.tray v.inbox

give : (x : Station) (v : View) (b : Bool) (y : Message) → Numbers x v → Clear x v → (b ≡ true → Has x v.here.right.0) → y.right.0 ≡ cond b (v.here.right.0 + 1) v.here.right.0 → y.taken ≡ 0 → Given x v (cond b (v.here.right.0 + 1) v.here.right.0) y
give x v true y n (inl (e, f)) has yr yt =
    let same : v.here.right.0 ≡ v.there.right.0 = free_equal x v.here.right.0 v.there.right.0 f (has refl) in
    let r : ℕ = v.here.right.0 in
    record {
      phase = free e (inr (inl (omega arith), omega (arith, has refl)));
      sent = told_more v.outbox y (told_as (r + 1) v.there.right.0 v.here.taken v.tray n.sent (omega arith) (λ l. l) (omega arith) (omega arith)) (omega arith) (λ l. absurd (none_live v.tray e l)) (omega arith);
      coming = told_as v.there.right.0 (r + 1) v.there.taken v.tray n.coming (omega arith) (λ l. l) (omega arith) (omega arith);
    }
give x v true y n (inr h) has yr yt = absurd ((bound_lacks x v.there.right.0 v.here.right.0 h.last.departed h.last.carried h.bound).1 (has refl))
give x v false y n (inl (e, f)) has yr yt =
    record { phase = n.phase; sent = told_more v.outbox y n.sent (omega arith) (λ l. absurd (none_live v.tray e l)) (omega arith); coming = n.coming }
give x v false y n (inr h) has yr yt =
    let low = (bound_lacks x v.there.right.0 v.here.right.0 h.last.departed h.last.carried h.bound).0 in
    record { phase = n.phase; sent = told_more v.outbox y n.sent (omega arith) (λ l. omega arith) (omega arith); coming = n.coming }

-- the tray is this station's where its youngest paper is, and otherwise where its oldest is the other's
own_youngest : (x : Station) (v : View) → Numbers x v → (p : Paper) → youngest v.tray ≡ Some p → p.station ≡ x → Held x v.here.right.0 v.there.right.0 v.tray
own_youngest x v n p y o = go n.phase
  where
    go : Phase x v.here.right.0 v.there.right.0 v.tray → Held x v.here.right.0 v.there.right.0 v.tray
    go (free e f) = absurd (some_not_none p (sym y ∙ ap youngest e))
    go (ours h) = h
    go (theirs h) =
        let s : Some p ≡ Some h.last = sym y ∙ ap youngest h.is ∙ youngest_push h.front h.last in
        let same : p ≡ h.last = cc in
        absurd (not_other x (sym o ∙ ap (λ q. q.station) same ∙ h.owner))

-- what a test on a paper tells
hand_is : (x : Station) (o : Option Paper) → is_in_hand x o ≡ true → (p : Paper) × (o ≡ Some p) × (p.station ≡ x) × (p.departed ≡ None)
hand_is x None e = let z : ◌≡◌ {A = ℕ} 0 1 = cc in absurd (omega arith)
hand_is x (Some p) e =
    let b = and_parts (same_station p.station x) (not (is_some p.departed)) e in
    (p, refl, same_true p.station x b.0, go p.departed b.1)
  where
    go : (d : Option ℕ) → not (is_some d) ≡ true → d ≡ None
    go None f = refl
    go (Some t) f = let z : ◌≡◌ {A = ℕ} 0 1 = cc in absurd (omega arith)

pub out_is : (x : Station) (k : ℕ) (o : Option Paper) → is_out x k o ≡ true → (p : Paper) × (o ≡ Some p) × (p.station ≡ x) × (is_some p.departed ≡ true) × (eqb p.serial.0 k ≡ true)
out_is x k None e = let z : ◌≡◌ {A = ℕ} 0 1 = cc in absurd (omega arith)
out_is x k (Some p) e =
    let a = and_parts (same_station p.station x) (is_some p.departed && eqb p.serial.0 k) e in
    let b = and_parts (is_some p.departed) (eqb p.serial.0 k) a.1 in
    (p, refl, same_true p.station x a.0, b.0, b.1)

-- the tray of papers of a station z: its youngest, and how many pass a test
module _ {z : Station} {r s : ℕ} {tray : List Paper} (h : Held z r s tray) where
  pub last_is : youngest tray ≡ Some h.last
  last_is = ap youngest h.is ∙ youngest_push h.front h.last

  pub rest_is : but_youngest tray ≡ h.front
  rest_is = ap but_youngest h.is ∙ but_youngest_push h.front h.last

  pub sent_is : (t : ℕ) → youngest_departed t tray ≡ h.front ++ departed_at t h.last ∷ []
  sent_is t = ap (youngest_departed t) h.is ∙ departed_push t h.front h.last

  pub tally_is : (f : Paper → Bool) → tally f tray ≡ cond (f h.last) (tally f h.front + 1) (tally f h.front)
  tally_is f = ap (tally f) h.is ∙ tally_push f h.front h.last

  pub some_live : 0 < length tray
  some_live = omega (arith, ap length h.is, length_push h.front h.last)

  pub own_is : same_station h.last.station z ≡ true
  own_is = ap (λ y. same_station y z) h.owner ∙ same_refl z

  pub other_is : same_station h.last.station (opposite z) ≡ false
  other_is = ap (λ y. same_station y (opposite z)) h.owner ∙ same_other z

-- the youngest paper is in hand here, or is this station's and departed
pub held_in_hand : (x : Station) (v : View) → Numbers x v → in_hand x v.tray ≡ true → (h : Held x v.here.right.0 v.there.right.0 v.tray) × (h.last.departed ≡ None)
held_in_hand x v n e =
    let q = hand_is x (youngest v.tray) e in
    let h = own_youngest x v n q.0 q.1 q.2 in
    let i : Some q.0 ≡ Some h.last = sym q.1 ∙ last_is h in
    let same : q.0 ≡ h.last = cc in
    (h, ap (λ w. w.departed) (sym same) ∙ q.3)

pub held_out : (x : Station) (k : ℕ) (v : View) → Numbers x v → is_out x k (youngest v.tray) ≡ true → (h : Held x v.here.right.0 v.there.right.0 v.tray) × (is_some h.last.departed ≡ true)
held_out x k v n e =
    let q = out_is x k (youngest v.tray) e in
    let h = own_youngest x v n q.0 q.1 q.2 in
    let i : Some q.0 ≡ Some h.last = sym q.1 ∙ last_is h in
    let same : q.0 ≡ h.last = cc in
    (h, ap (λ w. is_some w.departed) (sym same) ∙ q.3)

-- what is left of a tray of this station's papers without the youngest
shorter : (x : Station) (r s : ℕ) (front : List Paper) → ((p : Paper) → In p front → Older x p) → r ≡ s → Has x s → Phase x r s front
shorter x r s front older e has = go front (ended front) older
  where
    go : (ps : List Paper) → Ended ps → ((p : Paper) → In p ps → Older x p) → Phase x r s ps
    go ps none o = free refl (inl e)
    go ps (with_last f l) o =
        let b : Bound x r s l.departed None = (e, omega arith) in
        ours (record { front = f; last = l; is = refl; owner = (o l (in_last l f)).owner; older = λ p i. o p (in_front p l f i); bound = rw (o l (in_last l f)).plain b })

-- the youngest paper, this station's, leaves the tray, and the numbers are equal
pub record Closed (x : Station) (v : View) (r : ℕ) (last : Paper) : Type 0 where
  pub phase : Phase x r v.there.right.0 (but_youngest v.tray)
  pub sent : Told r v.there.right.0 v.here.taken (but_youngest v.tray) v.outbox
  pub coming : Told v.there.right.0 r v.there.taken (but_youngest v.tray) v.inbox
  pub of_x : tally (is_of x) v.tray ≡ tally (is_of x) (but_youngest v.tray) + 1
  pub sent_x : tally (is_sent x) v.tray ≡ cond (is_some last.departed) (tally (is_sent x) (but_youngest v.tray) + 1) (tally (is_sent x) (but_youngest v.tray))
  pub of_y : tally (is_of (opposite x)) v.tray ≡ tally (is_of (opposite x)) (but_youngest v.tray)
  pub sent_y : tally (is_sent (opposite x)) v.tray ≡ tally (is_sent (opposite x)) (but_youngest v.tray)

close : (x : Station) (v : View) → Numbers x v → (h : Held x v.here.right.0 v.there.right.0 v.tray) → (r : ℕ) → r ≡ v.there.right.0 → Has x v.there.right.0 → Closed x v r h.last
close x v n h r e has =
    let some : 0 < length v.tray = some_live h in
    let own : same_station h.last.station x ≡ true = own_is h in
    let other : same_station h.last.station (opposite x) ≡ false = other_is h in
    record {
      phase = rw (rest_is h) (shorter x r v.there.right.0 h.front h.older e has);
      sent = record { lower = λ m i. omega (arith, n.sent.quiet m i some); quiet = λ m i l. n.sent.quiet m i some; counted = n.sent.counted };
      coming = record { lower = n.coming.lower; quiet = λ m i l. omega (arith, n.coming.lower m i); counted = n.coming.counted };
      of_x = rw (rest_is h) (tally_is h (is_of x) ∙ rw own refl);
      sent_x = rw (rest_is h) (tally_is h (is_sent x) ∙ rw own refl);
      of_y = rw (rest_is h) (tally_is h (is_of (opposite x)) ∙ rw other refl);
      sent_y = rw (rest_is h) (tally_is h (is_sent (opposite x)) ∙ rw other refl);
    }

-- numbers of a station in hand
in_hand_equal : (x : Station) (r s : ℕ) (c : Option RightNumber) → Bound x r s None c → (r ≡ s) × Has x s
in_hand_equal x r s None b = (b.0, omega arith)
in_hand_equal x r s (Some c) b = (b.0, omega arith)

-- a paper set back: the numbers are equal again
set_back_equal : (x : Station) (r s : ℕ) (d : Option ℕ) (c : Option RightNumber) → is_some d ≡ true → Bound x r s d c → (regained_to r c ≡ s) × Has x s
set_back_equal x r s d None i b = (b.0, omega arith)
set_back_equal x r s (Some t) (Some c) i b = (omega arith, b.2)
set_back_equal x r s None (Some c) i b = let z : ◌≡◌ {A = ℕ} 0 1 = cc in absurd (omega arith)

-- a paper departed: its number, if it carries one, is this station's own
departed_bound : (x : Station) (r s t : ℕ) (c : Option RightNumber) → Bound x r s None c → Bound x (parted_to r c) s (Some t) c × (r ≤ parted_to r c)
departed_bound x r s t None b = (b, omega arith)
departed_bound x r s t (Some c) b = ((refl, omega arith, omega arith), omega arith)

-- a paper issued: what it carries, if anything, is one more than the number here
issued_bound : (x : Station) (r s : ℕ) (b : Bool) → r ≡ s → Has x r → Bound x r s None (cond b (Some (record { 0 = r + 1 })) None)
issued_bound x r s true e h = (e, h, refl)
issued_bound x r s false e h = (e, h)

-- a departed paper that carries a number: its station lacks the right
departed_plain : (x : Station) (r s : ℕ) (d : Option ℕ) (c : Option RightNumber) → is_some d ≡ true → Has x r → Bound x r s d c → (c ≡ None) × (r ≡ s)
departed_plain x r s d None i h b = (refl, b.0)
departed_plain x r s (Some t) (Some c) i h b = absurd (omega arith)
departed_plain x r s None (Some c) i h b = let z : ◌≡◌ {A = ℕ} 0 1 = cc in absurd (omega arith)

-- the oldest paper of a tray
pub oldest_is : (tray : List Paper) (q : Paper) → oldest tray ≡ Some q → tray ≡ q ∷ but_oldest tray
oldest_is [] q e = absurd (some_not_none q (sym e))
oldest_is (p ∷ ps) q e = let same : p ≡ q = cc in rw same refl

pick_le : (b : Bool) (m k n : ℕ) → m ≤ n → k ≤ n → cond b m k ≤ n
pick_le true m k n h g = h
pick_le false m k n h g = g

-- each paper of a tray is its station's
pub all_own : {z : Station} {r s : ℕ} {tray : List Paper} (h : Held z r s tray) → (p : Paper) → In p tray → p.station ≡ z
all_own h p i = ⊎_elim (λ j. (h.older p j).owner) (λ e. ap (λ w. w.station) e ∙ h.owner) (in_split p h.last h.front (rw h.is at i))

-- the oldest paper is handed in: nothing is learnt before the last, and then the numbers are equal
last_arrived : (x : Station) (r s : ℕ) (d : Option ℕ) (c : Option RightNumber) → is_some d ≡ true → Bound (opposite x) s r d c → max r (number_carried c) ≡ s
last_arrived x r s d None i b = omega arith
last_arrived x r s (Some t) (Some c) i b = omega arith
last_arrived x r s None (Some c) i b = let z : ◌≡◌ {A = ℕ} 0 1 = cc in absurd (omega arith)

arrived : (x : Station) (r s : ℕ) (front : List Paper) (last : Paper) → last.station ≡ opposite x → ((p : Paper) → In p front → Older (opposite x) p) → Bound (opposite x) s r last.departed last.carried → (q : Paper) → oldest (front ++ last ∷ []) ≡ Some q → is_some q.departed ≡ true → Phase x (max r (number_carried (carried_by (oldest (front ++ last ∷ []))))) s (but_oldest (front ++ last ∷ []))
arrived x r s [] last o older b q e d =
    let same : q ≡ last = cc in
    free refl (inl (last_arrived x r s last.departed last.carried (ap (λ w. is_some w.departed) (sym same) ∙ d) b))
arrived x r s (p ∷ ps) last o older b q e d =
    let plain : number_carried p.carried ≡ 0 = ap number_carried (older p (inl refl)).plain in
    let same : max r (number_carried p.carried) ≡ r = omega arith in
    rw same (theirs (record { front = ps; last = last; is = refl; owner = o; older = λ w i. older w (inr i); bound = b }))

module _ (x : Station) (minute : ℕ) (v : View) (n : Numbers x v) (came : Option Message) (left : List Message) where
  step_ask : (train : ℕ) → NoneHolds (tests x minute (ask train) v) → Numbers x (view_after x minute (ask train) came left v)
  unfolding tests cabinets_tests
  step_ask train p =
      let g = give x v false _ n (clear x v n p.1.1.1.0 p.1.1.1.1.0) (λ e. let z : ◌≡◌ {A = ℕ} 0 1 = cc in absurd (omega arith)) refl refl in
      record { phase = g.phase; sent = g.sent; coming = g.coming; books = n.books; theirs_too = n.theirs_too }

  step_accept : NoneHolds (tests x minute accept v) → Numbers x (view_after x minute accept came left v)
  unfolding tests cabinets_tests
  step_accept p =
      let c = with_clock minute v.here in
      let g = give x v (has_right x c) _ n (clear x v n p.1.1.1.0 p.1.1.1.1.1.0) (has_from x c) refl refl in
      record { phase = g.phase; sent = g.sent; coming = g.coming; books = n.books; theirs_too = n.theirs_too }

  step_release : NoneHolds (tests x minute release v) → Numbers x (view_after x minute release came left v)
  unfolding tests cabinets_tests
  step_release p =
      let c = with_clock minute v.here in
      let g = give x v (b_has_right x c) _ n (clear x v n p.1.1.1.0 p.1.1.1.1.1.0) (λ e. has_from x c (and_parts (is_b x) (has_right x c) e).1) refl refl in
      record { phase = g.phase; sent = g.sent; coming = g.coming; books = n.books; theirs_too = n.theirs_too }

  step_report : Numbers x (view_after x minute report came left v)
  step_report = record { phase = n.phase; sent = told_more v.outbox _ n.sent (omega arith) (λ l. omega arith) (omega arith); coming = n.coming; books = n.books; theirs_too = n.theirs_too }

  step_cancel : NoneHolds (tests x minute cancel v) → Numbers x (view_after x minute cancel came left v)
  unfolding tests cabinets_tests
  step_cancel p =
      let q = held_in_hand x v n (not-false (in_hand x v.tray) p.1.0) in
      let h = q.0 in
      let d : h.last.departed ≡ None = q.1 in
      let e = in_hand_equal x v.here.right.0 v.there.right.0 h.last.carried (rw d at h.bound) in
      let k = close x v n h v.here.right.0 e.0 e.1 in
      let sx : tally (is_sent x) v.tray ≡ tally (is_sent x) (but_youngest v.tray) = rw d at k.sent_x in
      record {
        phase = k.phase;
        sent = k.sent;
        coming = k.coming;
        books = record { all = omega (arith, n.books.all, k.of_x); out = omega (arith, n.books.out); heard = n.books.heard; few = n.books.few };
        theirs_too = record { all = omega (arith, n.theirs_too.all, k.of_y); out = omega (arith, n.theirs_too.out, k.sent_y); heard = n.theirs_too.heard; few = n.theirs_too.few };
      }

  step_set_back : (serial : Serial) → NoneHolds (tests x minute (set_back serial) v) → Numbers x (view_after x minute (set_back serial) came left v)
  unfolding tests cabinets_tests
  step_set_back serial p =
      let q = held_out x serial.0 v n (not-false (is_out x serial.0 (youngest v.tray)) p.1.1.0) in
      let h = q.0 in
      let d : is_some h.last.departed ≡ true = q.1 in
      let carry : carried_by (youngest v.tray) ≡ h.last.carried = ap carried_by (last_is h) in
      let e = set_back_equal x v.here.right.0 v.there.right.0 h.last.departed h.last.carried d h.bound in
      let k = close x v n h (regained_to v.here.right.0 (carried_by (youngest v.tray))) (ap (regained_to v.here.right.0) carry ∙ e.0) e.1 in
      let sx : tally (is_sent x) v.tray ≡ tally (is_sent x) (but_youngest v.tray) + 1 = rw d at k.sent_x in
      record {
        phase = k.phase;
        sent = k.sent;
        coming = k.coming;
        books = record { all = omega (arith, n.books.all, k.of_x); out = omega (arith, n.books.out); heard = n.books.heard; few = n.books.few };
        theirs_too = record { all = omega (arith, n.theirs_too.all, k.of_y); out = omega (arith, n.theirs_too.out, k.sent_y); heard = n.theirs_too.heard; few = n.theirs_too.few };
      }

  step_depart : NoneHolds (tests x minute depart v) → Numbers x (view_after x minute depart came left v)
  unfolding tests cabinets_tests
  step_depart p =
      let q = held_in_hand x v n (not-false (in_hand x v.tray) p.1.0) in
      let h = q.0 in
      let d : h.last.departed ≡ None = q.1 in
      let carry : carried_by (youngest v.tray) ≡ h.last.carried = ap carried_by (last_is h) in
      let r : ℕ = v.here.right.0 in
      let s : ℕ = v.there.right.0 in
      let r' : ℕ = parted_to r (carried_by (youngest v.tray)) in
      let same-r : r' ≡ parted_to r h.last.carried = ap (parted_to r) carry in
      let b = departed_bound x r s minute h.last.carried (rw d at h.bound) in
      let some : 0 < length v.tray = some_live h in
      let own : same_station h.last.station x ≡ true = own_is h in
      let other : same_station h.last.station (opposite x) ≡ false = other_is h in
      let after : youngest_departed minute v.tray ≡ h.front ++ departed_at minute h.last ∷ [] = sent_is h minute in
      let new : Paper = departed_at minute h.last in
      let count : (f : Paper → Bool) → tally f (youngest_departed minute v.tray) ≡ cond (f new) (tally f h.front + 1) (tally f h.front) = λ f. ap (tally f) after ∙ tally_push f h.front new in
      let a1 : tally (is_of x) v.tray ≡ tally (is_of x) h.front + 1 = tally_is h (is_of x) ∙ rw own refl in
      let a2 : tally (is_sent x) v.tray ≡ tally (is_sent x) h.front = tally_is h (is_sent x) ∙ rw (own, d) refl in
      let a3 : tally (is_of (opposite x)) v.tray ≡ tally (is_of (opposite x)) h.front = tally_is h (is_of (opposite x)) ∙ rw other refl in
      let a4 : tally (is_sent (opposite x)) v.tray ≡ tally (is_sent (opposite x)) h.front = tally_is h (is_sent (opposite x)) ∙ rw other refl in
      let b1 : tally (is_of x) (youngest_departed minute v.tray) ≡ tally (is_of x) h.front + 1 = count (is_of x) ∙ rw own refl in
      let b2 : tally (is_sent x) (youngest_departed minute v.tray) ≡ tally (is_sent x) h.front + 1 = count (is_sent x) ∙ rw own refl in
      let b3 : tally (is_of (opposite x)) (youngest_departed minute v.tray) ≡ tally (is_of (opposite x)) h.front = count (is_of (opposite x)) ∙ rw other refl in
      let b4 : tally (is_sent (opposite x)) (youngest_departed minute v.tray) ≡ tally (is_sent (opposite x)) h.front = count (is_sent (opposite x)) ∙ rw other refl in
      record {
        phase = ours (record { front = h.front; last = new; is = after; owner = h.owner; older = h.older; bound = rw same-r b.0 });
        sent = told_as r' s v.here.taken (youngest_departed minute v.tray) n.sent (omega (arith, b.1)) (λ l. some) (omega arith) (omega arith);
        coming = told_as s r' v.there.taken (youngest_departed minute v.tray) n.coming (omega arith) (λ l. some) (omega (arith, b.1)) (omega arith);
        books = record { all = omega (arith, n.books.all); out = omega (arith, n.books.out); heard = n.books.heard; few = n.books.few };
        theirs_too = record { all = omega (arith, n.theirs_too.all); out = omega (arith, n.theirs_too.out); heard = n.theirs_too.heard; few = n.theirs_too.few };
      }

  -- while the right is here and no paper is in hand here, the tray is empty or has this station's departed papers, which carry nothing
  issuable : in_hand x v.tray ≡ false → has_right x v.here ≡ true → (v.here.right.0 ≡ v.there.right.0) × ((q : Paper) → In q v.tray → Older x q)
  issuable hand right = go n.phase
    where
      has : Has x v.here.right.0
      has = has_from x v.here right

      go : Phase x v.here.right.0 v.there.right.0 v.tray → (v.here.right.0 ≡ v.there.right.0) × ((q : Paper) → In q v.tray → Older x q)
      go (free e f) = (free_equal x _ _ f has, λ q i. absurd (rw e at i))
      go (theirs h) = absurd ((bound_lacks x v.there.right.0 v.here.right.0 h.last.departed h.last.carried h.bound).1 has)
      go (ours h) =
          let d : is_some h.last.departed ≡ true = hand_tells x h.front h.last h.owner (ap (in_hand x) (sym h.is) ∙ hand) in
          let b = departed_plain x v.here.right.0 v.there.right.0 h.last.departed h.last.carried d has h.bound in
          let last : Older x h.last = record { owner = h.owner; gone = d; plain = b.0 } in
          (b.1, λ q i. ⊎_elim (λ j. h.older q j) (λ e. rw e last) (in_split q h.last h.front (rw h.is at i)))

  step_issue : (train : ℕ) (nature : Nature) (pass : Bool) → NoneHolds (tests x minute (issue train nature pass) v) → Numbers x (view_after x minute (issue train nature pass) came left v)
  unfolding tests cabinets_tests
  step_issue train nature pass p =
      let right : has_right x v.here ≡ true = not-false (has_right x v.here) p.1.1.1.1.0 in
      let k = issuable p.1.1.1.0 right in
      let e : v.here.right.0 ≡ v.there.right.0 = k.0 in
      let new : Paper = paper_for x train pass v.track v.here in
      let tray' : List Paper = v.tray ++ new ∷ [] in
      let own = same_refl x in
      let other = same_other x in
      let b1 : tally (is_of x) tray' ≡ tally (is_of x) v.tray + 1 = tally_push (is_of x) v.tray new ∙ rw own refl in
      let b2 : tally (is_sent x) tray' ≡ tally (is_sent x) v.tray = tally_push (is_sent x) v.tray new ∙ rw own refl in
      let b3 : tally (is_of (opposite x)) tray' ≡ tally (is_of (opposite x)) v.tray = tally_push (is_of (opposite x)) v.tray new ∙ rw other refl in
      let b4 : tally (is_sent (opposite x)) tray' ≡ tally (is_sent (opposite x)) v.tray = tally_push (is_sent (opposite x)) v.tray new ∙ rw other refl in
      record {
        phase = ours (record { front = v.tray; last = new; is = refl; owner = refl; older = k.1; bound = issued_bound x v.here.right.0 v.there.right.0 (carries x pass v.here) e (has_from x v.here right) });
        sent = record { lower = n.sent.lower; quiet = λ m i l. omega (arith, n.sent.lower m i); counted = n.sent.counted };
        coming = record { lower = n.coming.lower; quiet = λ m i l. omega (arith, n.coming.lower m i); counted = n.coming.counted };
        books = record { all = omega (arith, n.books.all); out = omega (arith, n.books.out); heard = n.books.heard; few = omega (arith, leb-false 9_999 v.here.issued (or_parts _ _ p.1.1.1.1.1.1.1.1.1.0).0) };
        theirs_too = record { all = omega (arith, n.theirs_too.all); out = omega (arith, n.theirs_too.out); heard = n.theirs_too.heard; few = n.theirs_too.few };
      }

  step_arrive : (serial : Serial) → NoneHolds (tests x minute (arrive serial) v) → Numbers x (view_after x minute (arrive serial) came left v)
  unfolding tests cabinets_tests
  step_arrive serial p =
      let o = out_is (opposite x) serial.0 (oldest v.tray) (not-false (is_out (opposite x) serial.0 (oldest v.tray)) p.1.0) in
      take_in o.0 o.1 o.2 o.3 n.phase
    where
      take_in : (q : Paper) → oldest v.tray ≡ Some q → q.station ≡ opposite x → is_some q.departed ≡ true → Phase x v.here.right.0 v.there.right.0 v.tray → Numbers x (view_after x minute (arrive serial) came left v)
      take_in q e own d (free f g) = absurd (some_not_none q (sym e ∙ ap oldest f))
      take_in q e own d (ours h) =
          let i : In q v.tray = rw (oldest_is v.tray q e) (inl refl) in
          absurd (not_other x (sym (all_own h q i) ∙ own))
      take_in q e own d (theirs h) =
          let r : ℕ = v.here.right.0 in
          let s : ℕ = v.there.right.0 in
          let rest : List Paper = but_oldest v.tray in
          let c : ℕ = number_carried (carried_by (oldest v.tray)) in
          let same : v.tray ≡ q ∷ rest = oldest_is v.tray q e in
          let is_y : same_station q.station (opposite x) ≡ true = ap (λ y. same_station y (opposite x)) own ∙ same_refl (opposite x) in
          let not-x : same_station q.station x ≡ false = ap (λ y. same_station y x) own ∙ other_same x in
          let a1 : tally (is_of x) v.tray ≡ tally (is_of x) rest = ap (tally (is_of x)) same ∙ rw not-x refl in
          let a2 : tally (is_sent x) v.tray ≡ tally (is_sent x) rest = ap (tally (is_sent x)) same ∙ rw not-x refl in
          let a3 : tally (is_of (opposite x)) v.tray ≡ tally (is_of (opposite x)) rest + 1 = ap (tally (is_of (opposite x))) same ∙ rw is_y refl in
          let a4 : tally (is_sent (opposite x)) v.tray ≡ tally (is_sent (opposite x)) rest + 1 = ap (tally (is_sent (opposite x))) same ∙ rw (is_y, d) refl in
          let none_out : tally (is_sent x) v.tray ≡ 0 = tally_none (is_sent x) v.tray (λ w i. rw (ap (λ y. same_station y x) (all_own h w i) ∙ other_same x) refl) in
          let ph = arrived x r s h.front h.last h.owner h.older h.bound q (ap oldest (sym h.is) ∙ e) d in
          let phase' : Phase x (max r c) s rest = rw h.is ph in
          let some : 0 < length v.tray = some_live h in
          record {
            phase = phase';
            sent = told_as (max r c) s (v.here.taken + 1) rest n.sent (omega arith) (λ l. some) (omega arith) (omega arith);
            coming = told_as s (max r c) v.there.taken rest n.coming (omega arith) (λ l. some) (omega arith) (omega arith);
            books = record { all = omega (arith, n.books.all); out = omega (arith, n.books.out); heard = pick_le (ltb r c) v.here.gone v.here.known v.there.taken (omega (arith, n.books.out)) n.books.heard; few = n.books.few };
            theirs_too = record { all = omega (arith, n.theirs_too.all); out = omega (arith, n.theirs_too.out); heard = omega (arith, n.theirs_too.heard); few = n.theirs_too.few };
          }

  -- a message heard that teaches its number
  learn : (m : Message) → Waits m v.inbox → Phase x (max v.here.right.0 m.right.0) v.there.right.0 v.tray × (cond (ltb v.here.right.0 m.right.0) v.here.gone v.here.known ≤ v.there.taken)
  learn m i = ⊎_elim higher (λ l. (rw (same_max l) n.phase, rw (le-ltb v.here.right.0 m.right.0 l) n.books.heard)) (cases_lt v.here.right.0 m.right.0)
    where
      same_max : m.right.0 ≤ v.here.right.0 → max v.here.right.0 m.right.0 ≡ v.here.right.0
      same_max l = omega arith

      go : Phase x v.here.right.0 v.there.right.0 v.tray → v.here.right.0 < m.right.0 → (v.tray ≡ []) × (max v.here.right.0 m.right.0 ≡ v.there.right.0)
      go (free e (inl f)) l = absurd (omega (arith, n.coming.lower m i))
      go (free e (inr (inl f, o))) l = absurd (omega (arith, n.coming.lower m i))
      go (free e (inr (inr f, o))) l = (e, omega (arith, n.coming.lower m i))
      go (ours h) l = absurd (omega (arith, n.coming.quiet m i (some_live h)))
      go (theirs h) l = absurd (omega (arith, n.coming.quiet m i (some_live h)))

      higher : v.here.right.0 < m.right.0 → Phase x (max v.here.right.0 m.right.0) v.there.right.0 v.tray × (cond (ltb v.here.right.0 m.right.0) v.here.gone v.here.known ≤ v.there.taken)
      higher l =
          let g = go n.phase l in
          (free g.0 (inl g.1), rw (lt-ltb v.here.right.0 m.right.0 l) (omega (arith, n.books.out, ap (tally (is_sent x)) g.0)))

  -- the section once a message of a kind is heard
  abbrev hearing : MessageKind → Message → View
  hearing k m = record {
    track = v.track;
    here = heard_as k m (with_clock minute v.here);
    there = v.there;
    tray = v.tray;
    size = v.size;
    up = v.up;
    inbox = left;
    outbox = v.outbox;
    most = v.most;
  }

  module _ (m : Message) (i : Waits m v.inbox) (w : Within left v.inbox) where
    taught_sent : Told (max v.here.right.0 m.right.0) v.there.right.0 v.here.taken v.tray v.outbox
    taught_sent = told_as (max v.here.right.0 m.right.0) v.there.right.0 v.here.taken v.tray n.sent (omega arith) (λ l. l) (omega arith) (omega arith)

    taught_coming : Told v.there.right.0 (max v.here.right.0 m.right.0) v.there.taken v.tray left
    taught_coming = fewer v.inbox left w (told_as v.there.right.0 (max v.here.right.0 m.right.0) v.there.taken v.tray n.coming (omega arith) (λ l. l) (omega arith) (omega arith))

    hear_as : (k : MessageKind) → Numbers x (hearing k m)
    hear_as kind.Ask = record { phase = (learn m i).0; sent = taught_sent; coming = taught_coming; books = record { all = n.books.all; out = n.books.out; heard = (learn m i).1; few = n.books.few }; theirs_too = n.theirs_too }
    hear_as kind.Acceptance = record { phase = (learn m i).0; sent = taught_sent; coming = taught_coming; books = record { all = n.books.all; out = n.books.out; heard = (learn m i).1; few = n.books.few }; theirs_too = n.theirs_too }
    hear_as kind.Report = record { phase = n.phase; sent = n.sent; coming = fewer v.inbox left w n.coming; books = record { all = n.books.all; out = n.books.out; heard = omega (arith, n.books.heard, n.coming.counted m i); few = n.books.few }; theirs_too = n.theirs_too }
    hear_as kind.Release = record { phase = (learn m i).0; sent = taught_sent; coming = taught_coming; books = record { all = n.books.all; out = n.books.out; heard = (learn m i).1; few = n.books.few }; theirs_too = n.theirs_too }

-- what a hearing is given, as the station sees it
abbrev pub Hears : Act → Option Message → List Message → View → Type 0
Hears hear came left v = MayHear v.inbox came × Within left v.inbox
Hears a came left v = Unit

step_hear : (x : Station) (minute : ℕ) (v : View) → Numbers x v → (came : Option Message) (left : List Message) → MayHear v.inbox came → Within left v.inbox → Numbers x (view_after x minute hear came left v)
step_hear x minute v n None left h w = record { phase = n.phase; sent = n.sent; coming = fewer v.inbox left w n.coming; books = n.books; theirs_too = n.theirs_too }
step_hear x minute v n (Some m) left h w = hear_as x minute v n (Some m) left m h w m.kind

-- every act keeps the invariant
pub step : (x : Station) (minute : ℕ) (a : Act) (came : Option Message) (left : List Message) (v : View) → Numbers x v → NoneHolds (tests x minute a v) → Hears a came left v → Numbers x (view_after x minute a came left v)
step x minute (ask train) came left v n p h = step_ask x minute v n came left train p
step x minute accept came left v n p h = step_accept x minute v n came left p
step x minute (issue train nature pass) came left v n p h = step_issue x minute v n came left train nature pass p
step x minute depart came left v n p h = step_depart x minute v n came left p
step x minute cancel came left v n p h = step_cancel x minute v n came left p
step x minute (arrive serial) came left v n p h = step_arrive x minute v n came left serial p
step x minute (set_back serial) came left v n p h = step_set_back x minute v n came left serial p
step x minute report came left v n p h = step_report x minute v n came left
step x minute release came left v n p h = step_release x minute v n came left p
step x minute hear came left v n p h = step_hear x minute v n came left h.0 h.1
step x minute a came left v n p h = record { phase = n.phase; sent = n.sent; coming = n.coming; books = n.books; theirs_too = n.theirs_too }
