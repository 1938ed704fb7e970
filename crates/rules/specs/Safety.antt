-- The safety law: what every run of a section keeps.
use Rattle.std.specs.Prelude.{◌≡◌, ℕ, ◌+◌, ◌≤◌, true, false, ◌⊎◌, List, [], ◌∷◌, map, Some, ◌≢◌}
use Rattle.vocabulary.specs.Stations.{opposite}
use Rattle.vocabulary.specs.declared.station.Station.{Station}
use Rattle.vocabulary.specs.declared.station.Station.TheVariants.{A, B}
use Rattle.rules.specs.History.{Deed, History, Name, count_cancelled, count_handed_in, count_made, count_set_back, counted, deeds, departure, live, made, name, of_station, times, times_closed}
use Rattle.cabinets.specs.Rights.{has_right}
use Rattle.rules.specs.Runs.{Run}
use Rattle.cabinets.specs.Section.{Section, cabinet}
use Rattle.cabinets.specs.Track.{interval}
use Rattle.cabinets.specs.declared.paper.Paper.{Paper}

-- something is among a list's items
abbrev pub In : {X : Type 0} → X → List X → Type 0
In x [] = ⊥
In x (y ∷ ys) = (x ≡ y) ⊎ In x ys

-- a paper is live
abbrev pub Live : Name → List Deed → Type 0
Live k ds = In k (live ds)

-- a paper in the tray, by its name
abbrev pub name_of : Paper → Name
name_of p = name p.station p.serial.0

-- a. no papers of both stations are live
abbrev pub OneDirection : List Deed → Type 0
OneDirection ds = (m n : ℕ) → Live (name A m) ds → Live (name B n) ds → ⊥

-- b. no paper is made twice, and none is closed twice or without being made; the tray holds the live papers and no others, in order of issue, each with its minute of departure
pub record PapersKept (ds : List Deed) (s : Section) : Type 0 where
  pub made_once : (k : Name) → times k (made ds) ≤ 1
  pub closed_once : (k : Name) → times_closed k ds ≤ times k (made ds)
  pub tray_live : map name_of s.tray ≡ live ds
  pub tray_departed : (p : Paper) → In p s.tray → p.departed ≡ departure (name_of p) ds

-- b. of each station's papers, those issued are those live, cancelled, set back and handed in, and the cabinets keep these counts
pub record CountsKept (x : Station) (ds : List Deed) (s : Section) : Type 0 where
  pub sum : counted (count_made x) ds ≡ of_station x (live ds) + counted (count_cancelled x) ds + counted (count_set_back x) ds + counted (count_handed_in x) ds
  pub issued : (cabinet x s).issued ≡ counted (count_made x) ds
  pub cancelled : (cabinet x s).cancelled ≡ counted (count_cancelled x) ds
  pub set_back : (cabinet x s).set_back ≡ counted (count_set_back x) ds
  pub handed_in : (cabinet (opposite x) s).taken ≡ counted (count_handed_in x) ds

-- c. no two live papers of one station departed less than the interval apart
abbrev pub IntervalKept : List Deed → Section → Type 0
IntervalKept ds s =
    (x : Station) (m n t u : ℕ) → Live (name x m) ds → Live (name x n) ds → (m ≢ n) →
    departure (name x m) ds ≡ Some t → departure (name x n) ds ≡ Some u →
    (t + interval s.track ≤ u) ⊎ (u + interval s.track ≤ t)

pub record Safe (ds : List Deed) (s : Section) : Type 0 where
  pub one_direction : OneDirection ds
  pub papers : PapersKept ds s
  pub counts : (x : Station) → CountsKept x ds s
  pub apart : IntervalKept ds s

-- the safety law, over every run
abbrev pub EveryRunSafe : Type 0
EveryRunSafe = (h : History) (s : Section) → Run h s → Safe (deeds h) s

-- never have both stations the right, and while a paper of one is live the other lacks it
pub record RightKept (ds : List Deed) (s : Section) : Type 0 where
  pub not_both : has_right A s.at_a ≡ true → has_right B s.at_b ≢ true
  pub other_lacks : (x : Station) (n : ℕ) → Live (name x n) ds → has_right (opposite x) (cabinet (opposite x) s) ≡ false

abbrev pub EveryRunOneRight : Type 0
EveryRunOneRight = (h : History) (s : Section) → Run h s → RightKept (deeds h) s
