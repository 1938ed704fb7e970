use Rattle.std.proofs.Common.{◌≡◌, length}
use Rattle.std.specs.List.{remove}
use Rattle.queue.specs.Model.{items, Kept}
use Rattle.queue.proofs.Queue.close_gap.Given as goal

-- with the gap closed, the items are those wanted
abbrev pub invariant-loop-gap : goal.invariant-loop-gap
invariant-loop-gap g l =
    (remove (items l.self) l.gap ≡ remove (items l.initial.self) l.at)
    × (length (items l.self) ≡ length (items l.initial.self))
    × Kept l.initial.self l.self
