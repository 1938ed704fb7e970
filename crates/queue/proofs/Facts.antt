-- What the shape of a queue says of its items and places.
use Rattle.std.proofs.Common.{◌≡◌, ℕ, ◌<◌, ◌≤◌, length, set, ap, ◌∙◌, arith}
use Rattle.std.proofs.lemmas.List.{drop-set-lt, length-set, take-take}
use Rattle.queue.specs.Layout.{place_of}
use Rattle.queue.specs.Model.{items, room_of, places, Kept}
use Rattle.queue.specs.declared.Queue.{Queue}
use Rattle.queue.proofs.Lists.{removed_last, removed_step}
use Rattle.queue.proofs.Ring.{length-window, place_within, get_d_window, window_set, window_push, window_drop}

-- the count is the number of items
pub length-items : {X : Type 0} (q : Queue X) → length (items q) ≡ q.count
unfolding items
length-items q = length-window q.space.now q.room q.first q.count q.sound.0 q.sound.1 q.sound.2

-- there are never more items than the room allows
pub items_fit : {X : Type 0} (q : Queue X) → length (items q) ≤ room_of q
items_fit q = let e = length-items q in omega (arith, q.sound.2)

-- the place of an item lies in the room, and so in the space
pub place_in_room : {X : Type 0} (q : Queue X) (i : ℕ) → i < room_of q → place_of q.room q.first i < room_of q
place_in_room q i l = place_within q.room q.first i q.sound.1 l

pub item_in_space : {X : Type 0} (q : Queue X) (i : ℕ) → i < length (items q) → place_of q.room q.first i < length (places q)
item_in_space q i l = let f = items_fit q in omega (arith, place_in_room q i (omega arith), q.sound.0)

-- a queue with the same space as before, one with a write into the room, and what was done in two steps
pub kept_space : {X : Type 0} (q q' : Queue X) → q'.room ≡ q.room → q'.space ≡ q.space → Kept q q'
kept_space q q' r s =
    record {
      same_room = r;
      same_space = ap (λ x. x.ghost_name) s;
      same_extent = ap (λ x. length x.now) s;
      same_spare = cc;
      fit_before = items_fit q;
      fit_after = items_fit q';
    }

pub kept_write : {X : Type 0} (q q' : Queue X) (p : ℕ) (x : X) → p < q.room → q'.room ≡ q.room → q'.space.ghost_name ≡ q.space.ghost_name → q'.space.now ≡ set q.space.now p x → Kept q q'
kept_write q q' p x l r n e =
    record {
      same_room = r;
      same_space = n;
      same_extent = ap length e ∙ length-set q.space.now p x;
      same_spare = let d = drop-set-lt q.room q.space.now p x l in cc;
      fit_before = items_fit q;
      fit_after = items_fit q';
    }

pub kept_trans : {X : Type 0} (p q r : Queue X) → Kept p q → Kept q r → Kept p r
kept_trans p q r a b =
    record {
      same_room = b.same_room ∙ a.same_room;
      same_space = b.same_space ∙ a.same_space;
      same_extent = b.same_extent ∙ a.same_extent;
      same_spare = b.same_spare ∙ a.same_spare;
      fit_before = a.fit_before;
      fit_after = b.fit_after;
    }

-- how many items there are, and where they stand
pub ruleset sizes = (length-items, items_fit, place_in_room, item_in_space)

-- and what becomes of them in the ring
pub ruleset ring = (sizes, kept_space, kept_write, kept_trans, get_d_window, window_set, window_push, window_drop, take-take)

-- and when a gap is closed
pub ruleset gaps = (sizes, kept_trans, length-set, removed_step, removed_last)
