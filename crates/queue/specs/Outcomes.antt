-- What each operation answers, and the items that it leaves, in every case.
use Rattle.std.specs.Prelude.{ℕ, ◌-◌, cond, ◌&&◌, List, [], ◌∷◌, ◌++◌, length, take, drop, Ok, Err, Option, Result, ◌==◌, nat_le, nat_lt, slice_get, slice_set}
use Rattle.std.specs.List.{remove}
use Rattle.std.specs.Option.{ok_or}

-- The last item, if there is one.
abbrev pub last_item : {X : Type 0} → List X → Option X
last_item xs = slice_get xs (length xs - 1)

-- A queue of `n` items takes a new room if it is empty and its space has that many places. Else the new room is handed back, and the old one stays.
abbrev pub room_set : ℕ → ℕ → ℕ → ℕ → Result (Unit {0}) ℕ × ℕ
room_set n extent old new = cond (n == 0 && nat_le new extent) (Ok tt, new) (Err new, old)

-- `x` joins behind the others, or is handed back where they are as many as the room allows.
abbrev pub pushed : {X : Type 0} → ℕ → List X → X → Result (Unit {0}) X × List X
pushed room xs x = cond (nat_lt (length xs) room) (Ok tt, xs ++ x ∷ []) (Err x, xs)

-- The first item leaves, if there is one.
abbrev pub front_taken : {X : Type 0} → List X → Option X × List X
front_taken xs = (slice_get xs 0, drop 1 xs)

-- The last item leaves, if there is one.
abbrev pub back_taken : {X : Type 0} → List X → Option X × List X
back_taken xs = (last_item xs, take (length xs - 1) xs)

-- `x` stands where item number `i` stood, which is the answer, or is handed back where there is no such item.
abbrev pub replaced : {X : Type 0} → List X → ℕ → X → Result X X × List X
replaced xs i x = (ok_or (slice_get xs i) x, slice_set xs i x)

-- Item number `i` leaves, if there is one, and the others close up in their order.
abbrev pub taken_out : {X : Type 0} → List X → ℕ → Option X × List X
taken_out xs i = (slice_get xs i, remove xs i)
