-- The fourteen calls, and how the fields of a call are read.
use Rattle.std.specs.Prelude.{ℕ, Bool, true, false, cond, ◌&&◌, Some, None, Option, ◌==◌, nat_le}
use Rattle.vocabulary.specs.Calls.{call_of}
use Rattle.vocabulary.specs.Kinds.{nature_of}
use Rattle.vocabulary.specs.Stations.{station_of}
use Rattle.vocabulary.specs.declared.fields.CallFields.{CallFields}
use Rattle.vocabulary.specs.declared.fields.CallKind.{CallKind}
use Rattle.vocabulary.specs.declared.fields.CallKind.TheVariants as kind
use Rattle.vocabulary.specs.declared.station.Station.{Station}
pub use Rattle.cabinets.specs.declared.call.Act.{Act}
pub use Rattle.cabinets.specs.declared.call.Act.TheVariants.{Ask as ask, Accept as accept, Issue as issue, Depart as depart, Cancel as cancel, Arrive as arrive, SetBack as set_back, Report as report, Release as release, Hear as hear, DeclareDead as declare_dead, Resume as resume}
pub use Rattle.cabinets.specs.declared.call.Call.{Call}
pub use Rattle.cabinets.specs.declared.call.Call.TheVariants.{Act as act, DropLine as drop_line, MendLine as mend_line}
use Rattle.vocabulary.specs.declared.kind.Nature.{Nature}

-- a pass is 0 or 1
abbrev pub pass_of : ℕ → Option Bool
pass_of n = cond (n == 0) (Some false) (cond (n == 1) (Some true) None)

-- a number within bounds
abbrev pub within : ℕ → ℕ → ℕ → Bool
within low high n = nat_le low n && nat_le n high

-- a minute is at most 1,000,000,000, a train 1 to 99,999 and a serial 1 to 9,999
abbrev pub in_bounds : Act → Bool
in_bounds (ask train) = within 1 99_999 train
in_bounds accept = true
in_bounds (issue train nature pass) = within 1 99_999 train
in_bounds depart = true
in_bounds cancel = true
in_bounds (arrive serial) = within 1 9_999 serial.0
in_bounds (set_back serial) = within 1 9_999 serial.0
in_bounds report = true
in_bounds release = true
in_bounds hear = true
in_bounds declare_dead = true
in_bounds resume = true

-- a station's act at a minute, unless a number is out of bounds
abbrev pub checked_call : Station → ℕ → Act → Option Call
checked_call x minute a = cond (nat_le minute 1_000_000_000 && in_bounds a) (Some (act x minute a)) None

-- fields that only an issue uses are 0
abbrev pub no_issue : CallFields → Bool
no_issue f = f.nature == 0 && f.pass == 0

-- an act that uses the number, but neither nature nor pass
abbrev pub plain : Act → CallFields → Option Act
plain a f = cond (no_issue f) (Some a) None

-- an act that uses neither number nor nature nor pass
abbrev pub bare : Act → CallFields → Option Act
bare a f = cond (no_issue f && f.number == 0) (Some a) None

abbrev pub issue_of : ℕ → Option Nature → Option Bool → Option Act
issue_of train None p = None
issue_of train (Some n) None = None
issue_of train (Some n) (Some p) = Some (issue train n p)

-- the act that a call's fields give, where the fields it does not use are 0
abbrev pub act_of : CallKind → CallFields → Option Act
act_of kind.Ask f = plain (ask f.number) f
act_of kind.Accept f = bare accept f
act_of kind.Issue f = issue_of f.number (nature_of f.nature) (pass_of f.pass)
act_of kind.Depart f = bare depart f
act_of kind.Cancel f = bare cancel f
act_of kind.Arrive f = plain (arrive (record { 0 = f.number })) f
act_of kind.SetBack f = plain (set_back (record { 0 = f.number })) f
act_of kind.Report f = bare report f
act_of kind.Release f = bare release f
act_of kind.Hear f = bare hear f
act_of kind.DeclareDead f = bare declare_dead f
act_of kind.Resume f = bare resume f
act_of kind.DropLine f = None
act_of kind.MendLine f = None

abbrev pub station_call : Option Station → ℕ → Option Act → Option Call
station_call None minute a = None
station_call (Some x) minute None = None
station_call (Some x) minute (Some a) = checked_call x minute a

-- a call on the line, whose other fields are all 0
abbrev pub line_call : Call → CallFields → Option Call
line_call c f = cond (f.station == 0 && (f.minute == 0 && (f.number == 0 && no_issue f))) (Some c) None

abbrev pub by_station : CallKind → CallFields → Option Call
by_station k f = station_call (station_of f.station) f.minute (act_of k f)

-- a call is a station's act, but for the two on the line
abbrev pub read_as : CallKind → CallFields → Option Call
read_as kind.Ask f = by_station kind.Ask f
read_as kind.Accept f = by_station kind.Accept f
read_as kind.Issue f = by_station kind.Issue f
read_as kind.Depart f = by_station kind.Depart f
read_as kind.Cancel f = by_station kind.Cancel f
read_as kind.Arrive f = by_station kind.Arrive f
read_as kind.SetBack f = by_station kind.SetBack f
read_as kind.Report f = by_station kind.Report f
read_as kind.Release f = by_station kind.Release f
read_as kind.Hear f = by_station kind.Hear f
read_as kind.DeclareDead f = by_station kind.DeclareDead f
read_as kind.Resume f = by_station kind.Resume f
read_as kind.DropLine f = line_call drop_line f
read_as kind.MendLine f = line_call mend_line f

abbrev pub read_if : Option CallKind → CallFields → Option Call
read_if None f = None
read_if (Some k) f = read_as k f

-- the call that its fields give; none where a field is out of bounds, or unused and not 0
unfoldable pub call_from : CallFields → Option Call
call_from f = read_if (call_of f.call) f
