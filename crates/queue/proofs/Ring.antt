-- The ring, over lists: what a write, a step of the start and a change of the count do to the items.
use Rattle.std.proofs.Common.{◌≡◌, ℕ, ◌+◌, ◌-◌, ◌<◌, ◌≤◌, ◌≢◌, ◌⊎◌, List, [], ◌∷◌, ◌++◌, length, get_or, take, drop, set, ◌∙◌, inl, inr, arith}
use Rattle.std.proofs.lemmas.List.{places, same_lists, length-take, length-drop, length-append, length-set, get_or-set_same, get_or-set_other, take-take, take_all, take_more_set, get_or-drop}
use Rattle.std.proofs.lemmas.Bool.{cases_eq}
use Rattle.std.proofs.lemmas.Bool.Decides.{nat_tests}
use Rattle.queue.specs.Layout.{window, place_of}

pub place_within : (r f k : ℕ) → f ≤ r → k < r → place_of r f k < r
place_within r f k starts h = grind (arith, nat_tests)

place_apart : (r f j k : ℕ) → f ≤ r → j < r → k < r → j ≢ k → place_of r f j ≢ place_of r f k
place_apart r f j k starts a b ne e = grind (arith, nat_tests)

place_next : (r f k : ℕ) → f ≤ r → k + 1 < r → place_of r (place_of r f 1) k ≡ place_of r f (k + 1)
place_next r f k starts h = grind (arith, nat_tests)

module _ {X : Type 0} where
  pub length-window : (s : List X) (r f n : ℕ) → r ≤ length s → f ≤ r → n ≤ r → length (window s r f n) ≡ n
  length-window s r f n fits starts h = simp (length-take, length-drop, length-append) (omega arith)

  pub get_d_window : (s : List X) (r f n k : ℕ) (d : X) → r ≤ length s → f ≤ r → n ≤ r → k < n → get_or (window s r f n) k d ≡ get_or s (place_of r f k) d
  get_d_window s r f n k d fits starts h l = grind (arith, nat_tests, places)

  -- a write where item number k stands: the item there, and any other
  written : (s : List X) (r f n k j : ℕ) (x d : X) → r ≤ length s → f ≤ r → n ≤ r → k < n → j < n → (j ≡ k) ⊎ (j ≢ k) → get_or (set s (place_of r f k) x) (place_of r f j) d ≡ get_or (set (window s r f n) k x) j d
  written s r f n k j x d fits starts h l l' (inl e) =
      let here = place_within r f k starts (omega arith) in
      let a = get_or-set_same s (place_of r f k) x d (omega arith) in
      let w = length-window s r f n fits starts h in
      let b = get_or-set_same (window s r f n) k x d (omega arith) in
      cc
  written s r f n k j x d fits starts h l l' (inr ne) =
      let apart = place_apart r f j k starts (omega arith) (omega arith) ne in
      let a = get_or-set_other s (place_of r f k) (place_of r f j) x d apart in
      let b = get_or-set_other (window s r f n) k j x d ne in
      let w = get_d_window s r f n j d fits starts h l' in
      cc

  pub window_set : (s : List X) (r f n k : ℕ) (x : X) → r ≤ length s → f ≤ r → n ≤ r → k < n → window (set s (place_of r f k) x) r f n ≡ set (window s r f n) k x
  window_set s r f n k x fits starts h l =
      let s' = set s (place_of r f k) x in
      let a : length s' ≡ length s = length-set s (place_of r f k) x in
      let b = length-window s r f n fits starts h in
      let c = length-window s' r f n (omega arith) starts h in
      let e = length-set (window s r f n) k x in
      same_lists _ _ (omega arith) (λ j d l'. get_d_window s' r f n j d (omega arith) starts h (omega arith)
      ∙ written s r f n k j x d fits starts h l (omega arith) (cases_eq j k))

  -- the count one higher, and then a write at the new item
  pub window_push : (s : List X) (r f n : ℕ) (x : X) → r ≤ length s → f ≤ r → n < r → set (window s r f (n + 1)) n x ≡ window s r f n ++ x ∷ []
  window_push s r f n x fits starts h =
      let w = window s r f (n + 1) in
      let a = length-window s r f (n + 1) fits starts (omega arith) in
      let b = length-set w n x in
      let c = take_all (n + 1) (set w n x) (omega arith) in
      let d = take_more_set w n x (omega arith) in
      let e = take-take n (n + 1) (drop f (take r s ++ take r s)) (omega arith) in
      cc

  -- the start one further, and the count one lower
  pub window_drop : (s : List X) (r f n : ℕ) → r ≤ length s → f ≤ r → 0 < n → n ≤ r → window s r (place_of r f 1) (n - 1) ≡ drop 1 (window s r f n)
  window_drop s r f n fits starts some h =
      let f' : place_of r f 1 ≤ r = grind (arith, nat_tests) in
      let lw = length-window s r f n fits starts h in
      let lw' = length-window s r (place_of r f 1) (n - 1) fits f' (omega arith) in
      same_lists _ _ (simp length-drop (omega arith)) (λ j d l'.
      let e = place_next r f j starts (omega arith) in
      let a = get_d_window s r (place_of r f 1) (n - 1) j d fits f' (omega arith) (omega arith) in
      let b = get_d_window s r f n (j + 1) d fits starts h (omega arith) in
      let t = get_or-drop 1 (window s r f n) j d in
      let z : 1 + j ≡ j + 1 = omega arith in
      cc)
