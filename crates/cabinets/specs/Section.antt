-- The section: its track, two cabinets, the tray, and the line; and how it looks from one of its stations.
use Rattle.std.specs.Prelude.{ℕ, Bool, List}
use Rattle.line.specs.Meaning.{Meaning, waits}
use Rattle.line.specs.declared.message.Message.{Message}
use Rattle.vocabulary.specs.Stations.{opposite}
use Rattle.vocabulary.specs.declared.station.Station.{Station}
use Rattle.vocabulary.specs.declared.station.Station.TheVariants.{A, B}
use Rattle.cabinets.specs.declared.cabinet.Cabinet.{Cabinet}
use Rattle.cabinets.specs.declared.paper.Paper.{Paper}
use Rattle.cabinets.specs.declared.track.Track.{Track}

pub record Section : Type 0 where
  pub track : Track
  pub at_a : Cabinet
  pub at_b : Cabinet
  pub tray : List Paper
  pub size : ℕ
  pub line : Meaning

-- the cabinet of a station
abbrev pub cabinet : Station → Section → Cabinet
cabinet A s = s.at_a
cabinet B s = s.at_b

-- the section as a station sees it: the cabinet here and the other's, the messages that wait here and there
pub record View : Type 0 where
  pub track : Track
  pub here : Cabinet
  pub there : Cabinet
  pub tray : List Paper
  pub size : ℕ
  pub up : Bool
  pub inbox : List Message
  pub outbox : List Message
  pub most : ℕ

abbrev pub seen : Station → Section → View
seen x s = record {
  track = s.track;
  here = cabinet x s;
  there = cabinet (opposite x) s;
  tray = s.tray;
  size = s.size;
  up = s.line.up;
  inbox = waits x s.line;
  outbox = waits (opposite x) s.line;
  most = s.line.most;
}

-- the section that a station sees so
abbrev pub unseen : Station → View → Section
unseen A v = record { track = v.track; at_a = v.here; at_b = v.there; tray = v.tray; size = v.size; line = record { up = v.up; for_a = v.inbox; for_b = v.outbox; most = v.most } }
unseen B v = record { track = v.track; at_a = v.there; at_b = v.here; tray = v.tray; size = v.size; line = record { up = v.up; for_a = v.outbox; for_b = v.inbox; most = v.most } }
