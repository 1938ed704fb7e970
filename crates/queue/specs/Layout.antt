-- How the items lie in the room: a ring. Callers are promised nothing of this.
use Rattle.std.specs.Prelude.{ℕ, ◌+◌, ◌-◌, cond, List, ◌++◌, take, drop, nat_lt}

-- The items that stand from place `start` on, `n` of them, in the ring of the first `size` places: behind its last place comes its first.
abbrev pub window : {X : Type 0} → List X → ℕ → ℕ → ℕ → List X
window space size start n = take n (drop start (take size space ++ take size space))

-- The place in the ring where the item number `i` of them stands.
abbrev pub place_of : ℕ → ℕ → ℕ → ℕ
place_of size start i = cond (nat_lt i (size - start)) (start + i) (i - (size - start))
