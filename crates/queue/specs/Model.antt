-- A queue as its callers see it: its items in order, its room, and the space that it was lent.
use Rattle.std.specs.Prelude.{◌≡◌, ℕ, ◌≤◌, List, length, drop}
use Rattle.queue.specs.Layout.{window}
use Rattle.queue.specs.declared.Queue.{Queue}

-- The items, the front one first.
unfoldable pub items : {X : Type 0} → Queue X → List X
items q = window q.space.now q.room q.first q.count

-- How many items it may hold.
abbrev pub room_of : {X : Type 0} → Queue X → ℕ
room_of q = q.room

-- What the places of the whole space hold. Which of the places within the room hold the items, and what the others there hold, is left open.
abbrev pub places : {X : Type 0} → Queue X → List X
places q = q.space.now

-- What the places beyond the room hold.
abbrev pub spare : {X : Type 0} → Queue X → List X
spare q = drop (room_of q) (places q)

-- What the work on a queue never changes: from `q` before to `q'` after, the room, which space it is, the space's length, and every place beyond the room. Neither has more items than its room.
pub record Kept {X : Type 0} (q q' : Queue X) : Type 0 where
  pub same_room : room_of q' ≡ room_of q
  pub same_space : q'.space.ghost_name ≡ q.space.ghost_name
  pub same_extent : length (places q') ≡ length (places q)
  pub same_spare : spare q' ≡ spare q
  pub fit_before : length (items q) ≤ room_of q
  pub fit_after : length (items q') ≤ room_of q'
