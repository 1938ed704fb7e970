-- The track: how it is worked, and how far apart trains are kept on it.
use Rattle.std.specs.Prelude.{ℕ, ◌+◌, ◌/◌, max, Bool, true, false}
use Rattle.cabinets.specs.declared.track.Track.{Track}
use Rattle.vocabulary.specs.declared.kind.TrackKind.{TrackKind}
use Rattle.vocabulary.specs.declared.kind.TrackKind.TheVariants.{Single, OneWay}

-- a track that is worked from A to B alone
abbrev pub is_one_way : TrackKind → Bool
is_one_way Single = false
is_one_way OneWay = true

-- the least minutes between two departures in dead working: three more than the running time, and never under 13
abbrev pub interval : Track → ℕ
interval track = max (track.running_time + 3) 13

-- the day that a minute falls on
abbrev pub day : ℕ → ℕ
day minute = minute / 1440
