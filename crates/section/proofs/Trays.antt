-- The queue's words and the tray's for the same papers.
use Rattle.std.proofs.Common.{◌≡◌, ℕ, suc, ◌-◌, ◌<◌, Bool, true, false, cond, ltb, List, [], ◌∷◌, ◌++◌, length, take, Some, Ok, Err, Result, sym, refl, ap, ◌∙◌, arith}
use Rattle.std.specs.Prelude.{slice_get}
use Rattle.std.proofs.lemmas.Bool.{lt-ltb}
use Rattle.queue.specs.Outcomes.{back_taken, last_item, pushed}
use Rattle.cabinets.specs.Tray.{but_youngest, departed_at, youngest, youngest_departed}
use Rattle.cabinets.specs.declared.paper.Paper.{Paper}

back_one : (n : ℕ) → suc (suc n) - 1 ≡ suc n
back_one n = omega arith

front_one : (n : ℕ) → suc n - 1 ≡ n
front_one n = omega arith

-- the last item is the youngest paper
pub last_is_youngest : (xs : List Paper) → last_item xs ≡ youngest xs
last_is_youngest [] = refl
last_is_youngest (p ∷ []) = refl
last_is_youngest (p ∷ q ∷ ps) = ap (slice_get (p ∷ q ∷ ps)) (back_one (length ps)) ∙ ap (slice_get (q ∷ ps)) (sym (front_one (length ps))) ∙ last_is_youngest (q ∷ ps)

-- all items but the last are all papers but the youngest
pub rest_is_older : (xs : List Paper) → take (length xs - 1) xs ≡ but_youngest xs
rest_is_older [] = refl
rest_is_older (p ∷ []) = refl
rest_is_older (p ∷ q ∷ ps) = ap (λ n. take n (p ∷ q ∷ ps)) (back_one (length ps)) ∙ ap (λ n. p ∷ take n (q ∷ ps)) (sym (front_one (length ps))) ∙ ap (λ l. p ∷ l) (rest_is_older (q ∷ ps))

-- the youngest paper taken and put back departed
departed_back : (t : ℕ) (xs : List Paper) (p : Paper) → youngest xs ≡ Some p → but_youngest xs ++ departed_at t p ∷ [] ≡ youngest_departed t xs
departed_back t [] p e = let z : ◌≡◌ {A = ℕ} 0 1 = cc in absurd (omega arith)
departed_back t (q ∷ []) p e = let s : q ≡ p = cc in rw s refl
departed_back t (q ∷ r ∷ ps) p e = ap (λ l. q ∷ l) (departed_back t (r ∷ ps) p e)

pub departs : (t room : ℕ) (xs ys zs : List Paper) (p : Paper) (r : Result (Unit {0}) Paper) → (Some p, ys) ≡ back_taken xs → length ys < room → (r, zs) ≡ pushed room ys (departed_at t p) → zs ≡ youngest_departed t xs
departs t room xs ys zs p r taken fits put =
    let l : ys ≡ but_youngest xs = ap (λ x. x.1) taken ∙ rest_is_older xs in
    let y : youngest xs ≡ Some p = sym (last_is_youngest xs) ∙ sym (ap (λ x. x.0) taken) in
    let z : zs ≡ ys ++ departed_at t p ∷ [] = ap (λ x. x.1) put ∙ go (ltb (length ys) room) (lt-ltb (length ys) room fits) in
    z ∙ ap (λ l. l ++ departed_at t p ∷ []) l ∙ departed_back t xs p y
  where
    go : (b : Bool) → b ≡ true → (cond {A = Result (Unit {0}) Paper × List Paper} b (Ok tt, ys ++ departed_at t p ∷ []) (Err (departed_at t p), ys)).1 ≡ ys ++ departed_at t p ∷ []
    go true e = refl
    go false e = let z : ◌≡◌ {A = ℕ} 0 1 = cc in absurd (omega arith)
