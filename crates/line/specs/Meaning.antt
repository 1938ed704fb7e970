-- What a line is: a mark, and the messages that wait for each station.
use Rattle.std.specs.Prelude.{◌≡◌, ℕ, Bool, true, false, cond, ◌&&◌, ◌⊎◌, List, [], ◌∷◌, ◌++◌, length, Some, None, Option, nat_lt}
use Rattle.vocabulary.specs.declared.station.Station.{Station}
use Rattle.vocabulary.specs.declared.station.Station.TheVariants.{A, B}
use Rattle.line.specs.declared.message.Message.{Message}

-- a line's meaning: whether it is up, the messages that wait for each station, oldest first, and how many may wait for one
pub record Meaning : Type 0 where
  pub up : Bool
  pub for_a : List Message
  pub for_b : List Message
  pub most : ℕ

-- a new line: up, with no message
abbrev pub fresh : ℕ → Meaning
fresh n = record { up = true; for_a = []; for_b = []; most = n }

-- the messages that wait for a station
abbrev pub waits : Station → Meaning → List Message
waits A m = m.for_a
waits B m = m.for_b

-- the same line with another list for one station
abbrev pub with_waits : Station → List Message → Meaning → Meaning
with_waits A xs m = record { up = m.up; for_a = xs; for_b = m.for_b; most = m.most }
with_waits B xs m = record { up = m.up; for_a = m.for_a; for_b = xs; most = m.most }

-- the same line with another mark
abbrev pub with_up : Bool → Meaning → Meaning
with_up b m = record { up = b; for_a = m.for_a; for_b = m.for_b; most = m.most }

-- a message may be posted if the line is up and fewer wait for that station than may
abbrev pub can_post : Station → Meaning → Bool
can_post to m = m.up && nat_lt (length (waits to m)) m.most

-- what posting answers, and the line afterwards: the message waits behind the others, or nothing alters
abbrev pub posting : Station → Message → Meaning → Bool × Meaning
posting to x m = cond (can_post to m) (true, with_waits to (waits to m ++ x ∷ []) m) (false, m)

-- a message is among some
abbrev pub In : Message → List Message → Type 0
In x [] = ⊥
In x (y ∷ ys) = (x ≡ y) ⊎ In x ys

-- one list holds only what another holds: some may be lost, said again or out of order, none is new
abbrev pub Within : List Message → List Message → Type 0
Within xs ys = (x : Message) → In x xs → In x ys

-- what a hearing may answer: none exactly if none waits, otherwise one that waits
abbrev pub MayHear : List Message → Option Message → Type 0
MayHear xs None = xs ≡ []
MayHear xs (Some x) = In x xs

-- what every line shows of a hearing at a station: only what waited there may be answered or wait there still, and all else stays
pub record Heard (at : Station) (before : Meaning) (r : Option Message) (after : Meaning) : Type 0 where
  pub answer : MayHear (waits at before) r
  pub left : Within (waits at after) (waits at before)
  pub rest : after ≡ with_waits at (waits at after) before

-- what every line shows of a drop or a mend: the mark is as said, each list holds only what it held, and its greatest length stays
pub record Marked (mark : Bool) (before after : Meaning) : Type 0 where
  pub mark_is : after.up ≡ mark
  pub left_a : Within after.for_a before.for_a
  pub left_b : Within after.for_b before.for_b
  pub most_is : after.most ≡ before.most
