-- The section of the code as the section of the rules.
use Rattle.std.specs.Prelude.{◌≡◌, min, List, length}
use Rattle.line.specs.Meaning.{Meaning}
use Rattle.line.specs.declared.line.Line.{Ghosts as Line}
use Rattle.queue.specs.Model.{items, places, room_of, spare}
use Rattle.queue.specs.declared.Queue.{Queue}
use Rattle.cabinets.specs.Section.{Section as Situation}
use Rattle.cabinets.specs.declared.paper.Paper.{Paper}
use Rattle.cabinets.specs.declared.cabinet.Cabinet.{Cabinet}
use Rattle.vocabulary.specs.declared.station.Station.{Station}
use Rattle.vocabulary.specs.declared.station.Station.TheVariants.{A, B}
use Rattle.section.specs.declared.Section.{Section}

-- the section with the tray that is lent to it, by what its line means. A tray lent from elsewhere, with less room than this section's, is full that much sooner
abbrev pub state : {L : Type 0} → Line L → Section L → Queue Paper → Situation
state line s q = record { track = s.track; at_a = s.cabinets.a; at_b = s.cabinets.b; tray = items q; size = min s.size (room_of q); line = line.meaning s.line.now }

-- what no call alters of a tray that is lent to it: its room, which space it is, the space's length, and every place beyond the room
pub record TrayKept (q q' : Queue Paper) : Type 0 where
  pub same_room : room_of q' ≡ room_of q
  pub same_space : q'.space.ghost_name ≡ q.space.ghost_name
  pub same_extent : length (places q') ≡ length (places q)
  pub same_spare : spare q' ≡ spare q

-- nothing of a section was altered but what its line holds
pub record OnlyLine {L : Type 0} (s s' : Section L) : Type 0 where
  pub same_track : s'.track ≡ s.track
  pub same_size : s'.size ≡ s.size
  pub same_a : s'.cabinets.a ≡ s.cabinets.a
  pub same_b : s'.cabinets.b ≡ s.cabinets.b
  pub same_line : s'.line.ghost_name ≡ s.line.ghost_name

-- the section with a station's cabinet, the papers and the line as they are after an act
abbrev pub settled : Station → Cabinet → List Paper → Meaning → Situation → Situation
settled A c ps l s = record { track = s.track; at_a = c; at_b = s.at_b; tray = ps; size = s.size; line = l }
settled B c ps l s = record { track = s.track; at_a = s.at_a; at_b = c; tray = ps; size = s.size; line = l }
