-- The tray: the live papers in order of issue, the oldest first.
use Rattle.std.specs.Prelude.{ℕ, Bool, true, false, not, ◌&&◌, List, [], ◌∷◌, is_some, Some, None, Option, ◌==◌}
use Rattle.std.specs.List.{list_any}
use Rattle.vocabulary.specs.declared.number.RightNumber.{RightNumber}
use Rattle.vocabulary.specs.declared.station.Station.{Station}
use Rattle.vocabulary.specs.declared.station.Station.TheVariants.{A, B}
use Rattle.cabinets.specs.declared.paper.Paper.{Paper}
use Rattle.cabinets.specs.declared.paper.Working.{Working}
use Rattle.cabinets.specs.declared.paper.Working.TheVariants.{Telephone, Dead}

abbrev pub same_station : Station → Station → Bool
same_station A A = true
same_station A B = false
same_station B A = false
same_station B B = true

-- the paper issued first
abbrev pub oldest : List Paper → Option Paper
oldest [] = None
oldest (p ∷ ps) = Some p

-- all papers but the oldest
abbrev pub but_oldest : List Paper → List Paper
but_oldest [] = []
but_oldest (p ∷ ps) = ps

-- the paper issued last
abbrev pub youngest : List Paper → Option Paper
youngest [] = None
youngest (p ∷ []) = Some p
youngest (p ∷ q ∷ ps) = youngest (q ∷ ps)

-- all papers but the youngest
abbrev pub but_youngest : List Paper → List Paper
but_youngest [] = []
but_youngest (p ∷ []) = []
but_youngest (p ∷ q ∷ ps) = p ∷ but_youngest (q ∷ ps)

-- a paper that has departed at a minute
abbrev pub departed_at : ℕ → Paper → Paper
departed_at minute p = record {
  serial = p.serial;
  station = p.station;
  train = p.train;
  kind = p.kind;
  «record» = p.«record»;
  carried = p.carried;
  working = p.working;
  departed = Some minute;
}

-- the tray once the youngest paper has departed
abbrev pub youngest_departed : ℕ → List Paper → List Paper
youngest_departed minute [] = []
youngest_departed minute (p ∷ []) = departed_at minute p ∷ []
youngest_departed minute (p ∷ q ∷ ps) = p ∷ youngest_departed minute (q ∷ ps)

-- a paper is in hand at a station: that station's, and not departed
abbrev pub is_in_hand : Station → Option Paper → Bool
is_in_hand x None = false
is_in_hand x (Some p) = same_station p.station x && not (is_some p.departed)

-- the youngest paper is in hand at a station: no other can be
abbrev pub in_hand : Station → List Paper → Bool
in_hand x tray = is_in_hand x (youngest tray)

-- a paper is a station's, has departed, and has a serial
abbrev pub is_out : Station → ℕ → Option Paper → Bool
is_out x n None = false
is_out x n (Some p) = same_station p.station x && (is_some p.departed && p.serial.0 == n)

-- some paper of a station is live
abbrev pub has_live : Station → List Paper → Bool
has_live x ps = list_any (λ p. same_station p.station x) ps

abbrev pub is_dead : Working → Bool
is_dead Telephone = false
is_dead Dead = true

-- a paper was issued in dead working and carries no number
abbrev pub is_plain_dead : Option Paper → Bool
is_plain_dead None = false
is_plain_dead (Some p) = is_dead p.working && not (is_some p.carried)

-- the right number that a paper carries
abbrev pub carried_by : Option Paper → Option RightNumber
carried_by None = None
carried_by (Some p) = p.carried

-- a paper's serial, 0 where there is none
abbrev pub serial_of : Option Paper → ℕ
serial_of None = 0
serial_of (Some p) = p.serial.0
