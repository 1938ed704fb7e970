-- The invariant on right numbers, messages, tray and books, as one station sees it; and what the tests tell of it.
use Rattle.std.proofs.Common.{◌≡◌, ℕ, ◌+◌, ◌%◌, ◌<◌, ◌≤◌, Bool, true, false, not, ◌&&◌, ◌⊎◌, List, [], ◌∷◌, ◌++◌, length, is_some, Some, None, Option, sym, refl, ap, ◌∙◌, inl, inr, ⊎_elim, arith}
use Rattle.std.proofs.lemmas.Bool.{eqb-true, ltb-false}
use Rattle.line.specs.Meaning.{In as Waits, Within}
use Rattle.line.specs.declared.message.Message.{Message}
use Rattle.vocabulary.specs.Stations.{opposite}
use Rattle.vocabulary.specs.declared.number.RightNumber.{RightNumber}
use Rattle.vocabulary.specs.declared.station.Station.{Station}
use Rattle.vocabulary.specs.declared.station.Station.TheVariants.{A, B}
use Rattle.rules.specs.History.{one_more_if}
use Rattle.cabinets.specs.Rights.{has_right}
use Rattle.rules.specs.Safety.{In}
use Rattle.cabinets.specs.Section.{View}
use Rattle.cabinets.specs.Tests.{trains_out}
use Rattle.cabinets.specs.Tray.{in_hand, is_in_hand, same_station}
use Rattle.cabinets.specs.declared.cabinet.Cabinet.{Cabinet}
use Rattle.cabinets.specs.declared.paper.Paper.{Paper}
use Rattle.rules.proofs.Basics.{in_last, same_refl, tally, tally_some, youngest_push}

abbrev pub side : Station → ℕ
side A = 0
side B = 1

pub side_other : (x : Station) → side x + side (opposite x) ≡ 1
side_other A = refl
side_other B = refl

-- a station has the right by its number
abbrev pub Has : Station → ℕ → Type 0
Has x n = (n + side x) % 2 ≡ 0

pub has_from : (x : Station) (c : Cabinet) → has_right x c ≡ true → Has x c.right.0
has_from A c e = omega (arith, eqb-true (c.right.0 % 2) 0 e)
has_from B c e = omega (arith, eqb-true (c.right.0 % 2) 1 e)

-- the two right numbers while no paper is live: equal, or one station is one ahead and neither has the right
abbrev pub Free : Station → ℕ → ℕ → Type 0
Free x r s = (r ≡ s) ⊎ (((r ≡ s + 1) ⊎ (s ≡ r + 1)) × Has x s)

-- and while papers of a station are live, by the youngest's departure and number carried
abbrev pub Bound : Station → ℕ → ℕ → Option ℕ → Option RightNumber → Type 0
Bound z r s d None = (r ≡ s) × Has z r
Bound z r s None (Some c) = (r ≡ s) × Has z r × (c.0 ≡ r + 1)
Bound z r s (Some t) (Some c) = (r ≡ c.0) × (r ≡ s + 1) × Has z s

-- a paper that is not the youngest
pub record Older (z : Station) (p : Paper) : Type 0 where
  pub owner : p.station ≡ z
  pub gone : is_some p.departed ≡ true
  pub plain : p.carried ≡ None

-- a tray of one station's papers, with that station's right number and the other's
pub record Held (z : Station) (r s : ℕ) (tray : List Paper) : Type 0 where
  pub front : List Paper
  pub last : Paper
  pub is : tray ≡ front ++ last ∷ []
  pub owner : last.station ≡ z
  pub older : (p : Paper) → In p front → Older z p
  pub bound : Bound z r s last.departed last.carried

pub data Phase (x : Station) (r s : ℕ) (tray : List Paper) : Type 0 where
  free : tray ≡ [] → Free x r s → Phase x r s tray
  ours : Held x r s tray → Phase x r s tray
  theirs : Held (opposite x) s r tray → Phase x r s tray

-- messages are never ahead of their sender, and while papers are live they teach nothing
pub record Told (r s taken : ℕ) (tray : List Paper) (ms : List Message) : Type 0 where
  pub lower : (m : Message) → Waits m ms → m.right.0 ≤ r
  pub quiet : (m : Message) → Waits m ms → 0 < length tray → m.right.0 ≤ s
  pub counted : (m : Message) → Waits m ms → m.taken ≤ taken

abbrev pub is_of : Station → Paper → Bool
is_of x p = same_station p.station x

abbrev pub is_sent : Station → Paper → Bool
is_sent x p = same_station p.station x && is_some p.departed

-- a station's books, with the papers handed in at the other
pub record Books (x : Station) (tray : List Paper) (issued cancelled back gone known taken : ℕ) : Type 0 where
  pub all : issued ≡ tally (is_of x) tray + cancelled + back + taken
  pub out : gone ≡ tally (is_sent x) tray + taken
  pub heard : known ≤ taken
  pub few : issued ≤ 9_999

-- papers sent are among those issued
sent_of : (x : Station) (ps : List Paper) → tally (is_sent x) ps ≤ tally (is_of x) ps
sent_of x [] = omega arith
sent_of x (p ∷ ps) = keep (same_station p.station x) (is_some p.departed) (sent_of x ps)
  where
    keep : (a b : Bool) → tally (is_sent x) ps ≤ tally (is_of x) ps → one_more_if (a && b) (tally (is_sent x) ps) ≤ one_more_if a (tally (is_of x) ps)
    keep true true l = omega arith
    keep true false l = omega arith
    keep false b l = l

-- no count of a station reaches its end
pub few_gone : {x : Station} {tray : List Paper} {issued cancelled back gone known taken : ℕ} → Books x tray issued cancelled back gone known taken → gone ≤ 9_999
few_gone {x} {tray} b = omega (arith, b.all, b.out, b.few, sent_of x tray)

pub record Numbers (x : Station) (v : View) : Type 0 where
  pub phase : Phase x v.here.right.0 v.there.right.0 v.tray
  pub sent : Told v.here.right.0 v.there.right.0 v.here.taken v.tray v.outbox
  pub coming : Told v.there.right.0 v.here.right.0 v.there.taken v.tray v.inbox
  pub books : Books x v.tray v.here.issued v.here.cancelled v.here.set_back v.here.gone v.here.known v.there.taken
  pub theirs_too : Books (opposite x) v.tray v.there.issued v.there.cancelled v.there.set_back v.there.gone v.there.known v.here.taken

-- while the right is here and no paper is live, the numbers are equal
pub free_equal : (x : Station) (r s : ℕ) → Free x r s → Has x r → r ≡ s
free_equal x r s (inl e) h = e
free_equal x r s (inr (inl e, o)) h = absurd (omega arith)
free_equal x r s (inr (inr e, o)) h = absurd (omega arith)

-- while papers of a station are live, the other lacks the right and is not ahead
pub bound_lacks : (x : Station) (s r : ℕ) (d : Option ℕ) (c : Option RightNumber) → Bound (opposite x) s r d c → (r ≤ s) × (Has x r → ⊥)
bound_lacks x s r d None b = (omega arith, λ h. omega (arith, side_other x, b.1))
bound_lacks x s r None (Some c) b = (omega arith, λ h. omega (arith, side_other x, b.1))
bound_lacks x s r (Some t) (Some c) b = (omega arith, λ h. omega (arith, side_other x, b.2))

-- a paper in hand
pub hand_tells : (x : Station) (front : List Paper) (p : Paper) → p.station ≡ x → in_hand x (front ++ p ∷ []) ≡ false → is_some p.departed ≡ true
hand_tells x front p o e =
    let h : is_in_hand x (Some p) ≡ false = ap (is_in_hand x) (sym (youngest_push front p)) ∙ e in
    go p.departed (ap (λ y. same_station y x) o ∙ same_refl x) h
  where
    go : (d : Option ℕ) → same_station p.station x ≡ true → (same_station p.station x && not (is_some d)) ≡ false → is_some d ≡ true
    go (Some t) s f = refl
    go None s f = let g : true ≡ false = rw s at f in let z : ◌≡◌ {A = ℕ} 0 1 = cc in absurd (omega arith)

-- no paper in hand here and no train out: no paper of this station is live
abbrev pub Clear : Station → View → Type 0
Clear x v = ((v.tray ≡ []) × Free x v.here.right.0 v.there.right.0) ⊎ Held (opposite x) v.there.right.0 v.here.right.0 v.tray

pub clear : (x : Station) (v : View) → Numbers x v → in_hand x v.tray ≡ false → trains_out v.here ≡ false → Clear x v
clear x v n hand out = go n.phase
  where
    go : Phase x v.here.right.0 v.there.right.0 v.tray → ((v.tray ≡ []) × Free x v.here.right.0 v.there.right.0) ⊎ Held (opposite x) v.there.right.0 v.here.right.0 v.tray
    go (free e f) = inl (e, f)
    go (theirs h) = inr h
    go (ours h) =
        let sent : is_some h.last.departed ≡ true = hand_tells x h.front h.last h.owner (ap (in_hand x) (sym h.is) ∙ hand) in
        let own : same_station h.last.station x ≡ true = ap (λ y. same_station y x) h.owner ∙ same_refl x in
        let is : is_sent x h.last ≡ true = rw (own, sent) refl in
        let i : In h.last v.tray = rw h.is (in_last h.last h.front) in
        absurd (omega (arith, tally_some (is_sent x) v.tray h.last i is, ltb-false v.here.known v.here.gone out, n.books.out, n.books.heard))

-- fewer messages
pub fewer : {r s t : ℕ} {tray : List Paper} (ms ns : List Message) → Within ns ms → Told r s t tray ms → Told r s t tray ns
fewer ms ns w told = record { lower = λ m i. told.lower m (w m i); quiet = λ m i l. told.quiet m (w m i) l; counted = λ m i. told.counted m (w m i) }

-- one more message
waits_split : (m y : Message) (ms : List Message) → Waits m (ms ++ y ∷ []) → Waits m ms ⊎ (m ≡ y)
waits_split m y [] (inl e) = inr e
waits_split m y [] (inr i) = absurd i
waits_split m y (z ∷ zs) (inl e) = inl (inl e)
waits_split m y (z ∷ zs) (inr i) = ⊎_elim (λ j. inl (inr j)) (λ e. inr e) (waits_split m y zs i)

pub told_more : {r s t : ℕ} {tray : List Paper} (ms : List Message) (y : Message) → Told r s t tray ms → y.right.0 ≤ r → (0 < length tray → y.right.0 ≤ s) → y.taken ≤ t → Told r s t tray (ms ++ y ∷ [])
told_more ms y told l q c = record {
  lower = λ m i. ⊎_elim (λ j. told.lower m j) (λ e. rw e l) (waits_split m y ms i);
  quiet = λ m i n. ⊎_elim (λ j. told.quiet m j n) (λ e. rw e (q n)) (waits_split m y ms i);
  counted = λ m i. ⊎_elim (λ j. told.counted m j) (λ e. rw e c) (waits_split m y ms i);
}

-- the same messages under other numbers and another tray
pub told_as : {r s t : ℕ} {tray : List Paper} {ms : List Message} (r' s' t' : ℕ) (tray' : List Paper) → Told r s t tray ms → r ≤ r' → (0 < length tray' → 0 < length tray) → s ≤ s' → t ≤ t' → Told r' s' t' tray' ms
told_as r' s' t' tray' told lr n ls lt = record {
  lower = λ m i. omega (arith, told.lower m i);
  quiet = λ m i l. omega (arith, told.quiet m i (n l));
  counted = λ m i. omega (arith, told.counted m i);
}
