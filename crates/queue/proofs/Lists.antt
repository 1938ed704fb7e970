-- An item of a list, or none, and the list without it.
use Rattle.std.proofs.Common.{◌≡◌, ℕ, zero, suc, ◌+◌, ◌-◌, ◌<◌, ◌≤◌, List, [], ◌∷◌, length, take, drop, set, Some, None, sym, arith}
use Rattle.std.specs.List.{remove, slice_get, slice_range}
use Rattle.std.proofs.lemmas.List.{append-nil, append_assoc, drop_all, drop_more, drop-set-lt, set_past, take_all, take_more_set}
use Rattle.std.proofs.lemmas.Option.{get_or_from_slice_get, none-some, slice_get_within, gets}

module _ {X : Type 0} where
  -- past the end there is none
  past_end : (xs : List X) (i : ℕ) → slice_get xs i ≡ None → length xs ≤ i
  past_end [] i e = omega arith
  past_end (x ∷ xs) zero e = absurd (none-some x (sym e))
  past_end (x ∷ xs) (suc i) e = let l = past_end xs i e in omega arith

  -- where there is none, nothing is taken out, and nothing is put in
  pub none_out : (xs : List X) (i : ℕ) → slice_get xs i ≡ None → remove xs i ≡ xs
  none_out xs i e =
      let l = past_end xs i e in
      let b = take_all i xs l in
      let c = drop_all (suc i) xs (omega arith) in
      let d = append-nil xs in
      cc

  pub none_in : (xs : List X) (i : ℕ) (x : X) → slice_get xs i ≡ None → set xs i x ≡ xs
  none_in xs i x e = set_past xs i x (past_end xs i e)

  -- an item, and those behind it
  pub from_item : (xs : List X) (i j : ℕ) (x : X) → slice_get xs i ≡ Some x → i < j → slice_range xs i j ≡ x ∷ slice_range xs (i + 1) j
  from_item xs i j x e l =
      let m = drop_more xs i x (slice_get_within xs i x e) in
      let g = get_or_from_slice_get xs i x x e in
      let n : j - i ≡ suc (j - (i + 1)) = omega arith in
      cc

  -- the gap goes one further where the next item moves into it
  pub removed_step : (xs : List X) (i j : ℕ) (x : X) → j ≡ i + 1 → j < length xs → slice_get xs j ≡ Some x → remove (set xs i x) j ≡ remove xs i
  removed_step xs i j x n l e =
      let o : suc i ≡ j = omega arith in
      let t = take_more_set xs i x (omega arith) in
      let d = drop-set-lt (suc j) xs i x (omega arith) in
      let m = drop_more xs j x l in
      let g = get_or_from_slice_get xs j x x e in
      let p : j + 1 ≡ suc j = omega arith in
      let a = append_assoc (take i xs) (x ∷ []) (drop (suc j) xs) in
      cc

  -- a gap at the end
  pub removed_last : (xs : List X) → 0 < length xs → remove xs (length xs - 1) ≡ take (length xs - 1) xs
  removed_last xs some =
      let b = drop_all (suc (length xs - 1)) xs (omega arith) in
      let c = append-nil (take (length xs - 1) xs) in
      cc

-- what a look at one place says
pub ruleset looks = (gets, none_out, none_in, from_item)
