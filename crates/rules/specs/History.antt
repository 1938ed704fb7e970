-- What the calls carried out did to the papers, read from the history alone: which papers were made, departed and closed.
use Rattle.std.specs.Prelude.{ℕ, ◌+◌, Bool, cond, ◌&&◌, List, [], ◌∷◌, ◌++◌, map, Some, None, Ok, Err, Option, Result, ◌==◌, nat_eq}
use Rattle.vocabulary.specs.Stations.{opposite}
use Rattle.vocabulary.specs.declared.fault.CallFault.{CallFault}
use Rattle.vocabulary.specs.declared.fields.CallFields.{CallFields}
use Rattle.vocabulary.specs.declared.station.Station.{Station}
use Rattle.cabinets.specs.Calls.{call_from}
use Rattle.cabinets.specs.declared.call.Call.{Call}
use Rattle.cabinets.specs.declared.call.Act.TheVariants.{Issue as issue, Depart as depart, Cancel as cancel, Arrive as arrive, SetBack as set_back}
use Rattle.cabinets.specs.declared.call.Call.TheVariants.{Act as act}
use Rattle.cabinets.specs.Tray.{same_station}

-- a call that was made, with its answer
pub record Event : Type 0 where
  pub fields : CallFields
  pub answer : Result ℕ CallFault

-- all calls so far, the newest first
abbrev pub History : Type 0
History = List Event

-- a paper is known by its station and serial
pub record Name : Type 0 where
  pub station : Station
  pub serial : ℕ

abbrev pub name : Station → ℕ → Name
name x n = record { station = x; serial = n }

abbrev pub same_name : Name → Name → Bool
same_name j k = same_station j.station k.station && j.serial == k.serial

-- what a call carried out did to a paper
pub data Deed : Type 0 where
  makes : Name → Deed
  -- at a minute
  sends : Name → ℕ → Deed
  cancels : Name → Deed
  sets_back : Name → Deed
  hands_in : Name → Deed
  no_deed : Deed

-- an issue makes the paper of the serial answered; depart, cancel and set back name their station's paper of the serial answered, arrive the other station's of the serial given
abbrev pub deed_by : Call → ℕ → Deed
deed_by (act x minute (issue train nature pass)) n = makes (name x n)
deed_by (act x minute depart) n = sends (name x n) minute
deed_by (act x minute cancel) n = cancels (name x n)
deed_by (act x minute (arrive serial)) n = hands_in (name (opposite x) serial.0)
deed_by (act x minute (set_back serial)) n = sets_back (name x n)
deed_by c n = no_deed

-- a call refused did nothing
abbrev pub deed_of : Option Call → Result ℕ CallFault → Deed
deed_of None r = no_deed
deed_of (Some c) (Ok n) = deed_by c n
deed_of (Some c) (Err f) = no_deed

abbrev pub deed : Event → Deed
deed e = deed_of (call_from e.fields) e.answer

-- what was done, the newest first
abbrev pub deeds : History → List Deed
deeds h = map deed h

-- the papers made, in order of issue
abbrev pub made_after : Deed → List Name → List Name
made_after (makes k) ks = ks ++ k ∷ []
made_after d ks = ks

abbrev pub made : List Deed → List Name
made [] = []
made (d ∷ ds) = made_after d (made ds)

-- how often a paper was closed: cancelled, set back or handed in
abbrev pub one_more_if : Bool → ℕ → ℕ
one_more_if b n = cond b (n + 1) n

abbrev pub closed_after : Deed → Name → ℕ → ℕ
closed_after (cancels j) k n = one_more_if (same_name j k) n
closed_after (sets_back j) k n = one_more_if (same_name j k) n
closed_after (hands_in j) k n = one_more_if (same_name j k) n
closed_after d k n = n

abbrev pub times_closed : Name → List Deed → ℕ
times_closed k [] = 0
times_closed k (d ∷ ds) = closed_after d k (times_closed k ds)

-- the minute at which a paper departed, if it has
abbrev pub departure_after : Deed → Name → Option ℕ → Option ℕ
departure_after (sends j t) k o = cond (same_name j k) (Some t) o
departure_after d k o = o

abbrev pub departure : Name → List Deed → Option ℕ
departure k [] = None
departure k (d ∷ ds) = departure_after d k (departure k ds)

-- those names that pass a test, in their order
abbrev pub those : (Name → Bool) → List Name → List Name
those p [] = []
those p (k ∷ ks) = cond (p k) (k ∷ those p ks) (those p ks)

-- the live papers, in order of issue: those made and not closed
abbrev pub live : List Deed → List Name
live ds = those (λ k. nat_eq (times_closed k ds) 0) (made ds)

-- how often a name stands in a list
abbrev pub times : Name → List Name → ℕ
times k [] = 0
times k (j ∷ js) = one_more_if (same_name j k) (times k js)

-- how many names of a list are a station's
abbrev pub of_station : Station → List Name → ℕ
of_station x [] = 0
of_station x (k ∷ ks) = one_more_if (same_station k.station x) (of_station x ks)

-- how many papers of a station were made, cancelled, set back, and handed in
abbrev pub count_made : Station → Deed → ℕ → ℕ
count_made x (makes k) n = one_more_if (same_station k.station x) n
count_made x d n = n

abbrev pub count_cancelled : Station → Deed → ℕ → ℕ
count_cancelled x (cancels k) n = one_more_if (same_station k.station x) n
count_cancelled x d n = n

abbrev pub count_set_back : Station → Deed → ℕ → ℕ
count_set_back x (sets_back k) n = one_more_if (same_station k.station x) n
count_set_back x d n = n

abbrev pub count_handed_in : Station → Deed → ℕ → ℕ
count_handed_in x (hands_in k) n = one_more_if (same_station k.station x) n
count_handed_in x d n = n

-- a count over all that was done
abbrev pub counted : (Deed → ℕ → ℕ) → List Deed → ℕ
counted f [] = 0
counted f (d ∷ ds) = f d (counted f ds)
