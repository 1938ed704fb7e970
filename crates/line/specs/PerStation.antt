-- One value for each station.
use Rattle.vocabulary.specs.declared.station.Station.{Station}
use Rattle.vocabulary.specs.declared.station.Station.TheVariants.{A, B}
use Rattle.line.specs.declared.per_station.PerStation.{PerStation}

-- the value of a station
abbrev pub value_at : {X : Type 0} → Station → PerStation X → X
value_at A p = p.a
value_at B p = p.b

-- the same values with another for one station
abbrev pub with_value_at : {X : Type 0} → Station → X → PerStation X → PerStation X
with_value_at A x p = record { a = x; b = p.b }
with_value_at B x p = record { a = p.a; b = x }
