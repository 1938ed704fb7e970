-- Stations, lists of papers, and tests that did not hold.
use Rattle.std.proofs.Common.{◌≡◌, ℕ, ◌≤◌, Bool, true, false, ◌⊎◌, List, [], ◌∷◌, ◌++◌, Some, None, sym, refl, ap, ◌∙◌, inl, inr, ⊎_elim, arith}
use Rattle.vocabulary.specs.Stations.{opposite}
use Rattle.vocabulary.specs.declared.station.Station.{Station}
use Rattle.vocabulary.specs.declared.station.Station.TheVariants.{A, B}
use Rattle.rules.specs.History.{one_more_if}
use Rattle.cabinets.specs.Refusals.{NoneHolds, Test, refusal, refuse}
use Rattle.rules.specs.Safety.{In}
use Rattle.cabinets.specs.Tray.{but_youngest, departed_at, same_station, youngest, youngest_departed}
use Rattle.cabinets.specs.declared.paper.Paper.{Paper}

pub same_refl : (x : Station) → same_station x x ≡ true
same_refl A = refl
same_refl B = refl

pub same_other : (x : Station) → same_station x (opposite x) ≡ false
same_other A = refl
same_other B = refl

pub other_same : (x : Station) → same_station (opposite x) x ≡ false
other_same A = refl
other_same B = refl

pub same_true : (x y : Station) → same_station x y ≡ true → x ≡ y
same_true A A e = refl
same_true B B e = refl
same_true A B e = let z : ◌≡◌ {A = ℕ} 0 1 = cc in absurd (omega arith)
same_true B A e = let z : ◌≡◌ {A = ℕ} 0 1 = cc in absurd (omega arith)

pub not_other : (x : Station) → x ≡ opposite x → ⊥
not_other A e = let z : ◌≡◌ {A = ℕ} 0 1 = cc in omega arith
not_other B e = let z : ◌≡◌ {A = ℕ} 0 1 = cc in omega arith

-- a value is not none
pub some_not_none : {X : Type 0} (x : X) → Some x ≡ None → ⊥
some_not_none x e = let z : ◌≡◌ {A = ℕ} 0 1 = cc in omega arith

-- an item among some, and one more behind them
pub in_front : {X : Type 0} (x y : X) (xs : List X) → In x xs → In x (xs ++ y ∷ [])
in_front x y [] i = absurd i
in_front x y (z ∷ zs) (inl e) = inl e
in_front x y (z ∷ zs) (inr i) = inr (in_front x y zs i)

pub in_last : {X : Type 0} (x : X) (xs : List X) → In x (xs ++ x ∷ [])
in_last x [] = inl refl
in_last x (z ∷ zs) = inr (in_last x zs)

pub in_split : {X : Type 0} (x y : X) (xs : List X) → In x (xs ++ y ∷ []) → In x xs ⊎ (x ≡ y)
in_split x y [] (inl e) = inr e
in_split x y [] (inr i) = absurd i
in_split x y (z ∷ zs) (inl e) = inl (inl e)
in_split x y (z ∷ zs) (inr i) = ⊎_elim (λ j. inl (inr j)) (λ e. inr e) (in_split x y zs i)

-- a tray is empty, or has a youngest paper
pub data Ended : List Paper → Type 0 where
  none : Ended []
  with_last : (front : List Paper) (last : Paper) → Ended (front ++ last ∷ [])

more_ended : (p : Paper) {ps : List Paper} → Ended ps → Ended (p ∷ ps)
more_ended p none = with_last [] p
more_ended p (with_last front last) = with_last (p ∷ front) last

pub ended : (ps : List Paper) → Ended ps
ended [] = none
ended (p ∷ ps) = more_ended p (ended ps)

pub youngest_push : (ps : List Paper) (p : Paper) → youngest (ps ++ p ∷ []) ≡ Some p
youngest_push [] p = refl
youngest_push (q ∷ []) p = refl
youngest_push (q ∷ r ∷ ps) p = youngest_push (r ∷ ps) p

pub but_youngest_push : (ps : List Paper) (p : Paper) → but_youngest (ps ++ p ∷ []) ≡ ps
but_youngest_push [] p = refl
but_youngest_push (q ∷ []) p = refl
but_youngest_push (q ∷ r ∷ ps) p = ap (λ l. q ∷ l) (but_youngest_push (r ∷ ps) p)

pub departed_push : (t : ℕ) (ps : List Paper) (p : Paper) → youngest_departed t (ps ++ p ∷ []) ≡ ps ++ departed_at t p ∷ []
departed_push t [] p = refl
departed_push t (q ∷ []) p = refl
departed_push t (q ∷ r ∷ ps) p = ap (λ l. q ∷ l) (departed_push t (r ∷ ps) p)

-- counting one more
pub one_more_swap : (a b : Bool) (n : ℕ) → one_more_if a (one_more_if b n) ≡ one_more_if b (one_more_if a n)
one_more_swap true true n = refl
one_more_swap true false n = refl
one_more_swap false true n = refl
one_more_swap false false n = refl

pub one_more_up : (b : Bool) (m n : ℕ) → m ≤ n → m ≤ one_more_if b n
one_more_up true m n l = omega arith
one_more_up false m n l = l

-- how many papers pass a test
abbrev pub tally : (Paper → Bool) → List Paper → ℕ
tally f [] = 0
tally f (p ∷ ps) = one_more_if (f p) (tally f ps)

pub tally_push : (f : Paper → Bool) (ps : List Paper) (p : Paper) → tally f (ps ++ p ∷ []) ≡ one_more_if (f p) (tally f ps)
tally_push f [] p = refl
tally_push f (q ∷ qs) p = rw (tally_push f qs p) (one_more_swap (f q) (f p) (tally f qs))

pub tally_none : (f : Paper → Bool) (ps : List Paper) → ((p : Paper) → In p ps → f p ≡ false) → tally f ps ≡ 0
tally_none f [] h = refl
tally_none f (p ∷ ps) h = rw (h p (inl refl)) (tally_none f ps (λ q i. h q (inr i)))

pub tally_some : (f : Paper → Bool) (ps : List Paper) (p : Paper) → In p ps → f p ≡ true → 1 ≤ tally f ps
tally_some f [] p i h = absurd i
tally_some f (q ∷ qs) p (inl e) h = let t : f q ≡ true = ap f (sym e) ∙ h in rw t (omega arith)
tally_some f (q ∷ qs) p (inr i) h = one_more_up (f q) 1 (tally f qs) (tally_some f qs p i h)

-- no refusal: no test holds
pub passed : {F : Type 0} (ts : List (Test F)) → refusal ts ≡ None → NoneHolds ts
passed [] e = tt
passed (refuse f true ∷ ts) e = absurd (some_not_none f e)
passed (refuse f false ∷ ts) e = (refl, passed ts e)
