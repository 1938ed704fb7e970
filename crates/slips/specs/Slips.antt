-- What comes of a call that makes or spends a slip.
use Rattle.std.specs.Prelude.{◌≡◌, ℕ, ◌≤◌, Bool, true, false, cond, ◌&&◌, List, Ok, Err, Option, Result, ◌==◌, nat_le, nat_lt}
use Rattle.line.specs.declared.line.Line.{Ghosts as Line}
use Rattle.queue.specs.Model.{items}
use Rattle.queue.specs.declared.Queue.{Queue}
use Rattle.vocabulary.specs.declared.fault.CallFault.TheVariants as why
use Rattle.vocabulary.specs.declared.fault.Fault.{Fault}
use Rattle.vocabulary.specs.declared.fault.Fault.TheVariants as fault
use Rattle.vocabulary.specs.declared.number.Serial.{Serial}
use Rattle.vocabulary.specs.declared.station.Station.{Station}
use Rattle.cabinets.specs.Calls.{checked_call}
use Rattle.cabinets.specs.Section.{cabinet}
use Rattle.cabinets.specs.Tray.{is_in_hand, serial_of, youngest}
use Rattle.cabinets.specs.declared.cabinet.Cabinet.{Cabinet}
use Rattle.cabinets.specs.declared.call.Act.{Act}
use Rattle.cabinets.specs.declared.call.Act.TheVariants as act
use Rattle.cabinets.specs.declared.paper.Paper.{Paper}
use Rattle.vocabulary.specs.declared.kind.Nature.{Nature}
use Rattle.section.specs.Called.{Comes}
use Rattle.section.specs.State.{state}
use Rattle.section.specs.declared.Section.{Section}
use Rattle.slips.specs.declared.Slip.{Slip}
use Rattle.slips.specs.declared.Unspent.{Unspent}
use Rattle.slips.specs.declared.Unspent.TheVariants.{Back, Ended}

-- a paper, if there is one, is the slip's and in hand: it is the slip's station's, has not departed, and has the slip's serial
abbrev pub is_of : Slip → Option Paper → Bool
is_of slip last = is_in_hand slip.station last && serial_of last == slip.serial.0

-- the paper in hand at the slip's station is the slip's: no paper but the youngest can be in hand
abbrev pub is_of_paper_in_hand : Slip → List Paper → Bool
is_of_paper_in_hand slip papers = is_of slip (youngest papers)

-- the answer to an issue: the slip of the serial answered, or the plain refusal
abbrev pub slip_for : Station → Result ℕ Fault → Result Slip Fault
slip_for x (Ok n) = Ok (record { station = x; serial = record { 0 = n } })
slip_for x (Err f) = Err f

-- the answer to a departure or a cancellation on a slip, from the plain one's: the slip's serial, or the slip back with the plain refusal
abbrev pub settled : Slip → Result ℕ Fault → Result Serial Unspent
settled slip (Ok n) = Ok slip.serial
settled slip (Err f) = Err (Back slip f)

-- a slip of another paper than the one in hand is refused, by the minute as in a plain call, and then because its paper is not in hand. It comes back, but a slip whose serial was issued here ends so: its paper has departed or is closed
abbrev pub unmatched : Slip → ℕ → Cabinet → Unspent
unmatched slip minute c =
    cond (nat_lt 1_000_000_000 minute) (Back slip (fault.Call why.Field 0))
    (cond (nat_lt minute c.clock) (Back slip (fault.Call why.Clock 0))
    (cond (nat_le slip.serial.0 c.issued) (Ended (fault.Call why.NothingThere 0)) (Back slip (fault.Call why.NothingThere 0))))

-- a slip to be spent: itself where it is of the paper in hand, and else refused
abbrev pub matched : Slip → ℕ → List Paper → Cabinet → Result Slip Unspent
matched slip minute papers c = cond (is_of_paper_in_hand slip papers) (Ok slip) (Err (unmatched slip minute c))

-- an answer hands the slip back
abbrev pub comes_back : Result Serial Unspent → Bool
comes_back (Ok n) = false
comes_back (Err (Back slip f)) = true
comes_back (Err (Ended f)) = false

-- a slip is ripe at a minute: the minute is within bounds and not before the clock of the slip's station, and that station has issued the slip's serial. It is then spent or ends: it does not come back
pub record Ripe {L : Type 0} (line : Line L) (slip : Slip) (minute : ℕ) (s : Section L) (q : Queue Paper) : Type 0 where
  pub in_bounds : minute ≤ 1_000_000_000
  pub on_time : (cabinet slip.station (state line s q)).clock ≤ minute
  pub issued_here : slip.serial.0 ≤ (cabinet slip.station (state line s q)).issued

module _ {L : Type 0} (line : Line L) where
  -- an issue that makes a slip: it is the plain issue, and the slip is that of the paper then in hand, and ripe
  pub record Issues (x : Station) (minute train : ℕ) (nature : Nature) (pass : Bool) (r : Result Slip Fault) (s s' : Section L) (q q' : Queue Paper) : Type 0 where
    pub plain : Result ℕ Fault
    pub comes : Comes line (checked_call x minute (act.Issue train nature pass)) plain s s' q q'
    pub shown : r ≡ slip_for x plain
    pub of_paper_in_hand : (slip : Slip) → r ≡ Ok slip → is_of_paper_in_hand slip (items q') ≡ true
    pub ripe : (slip : Slip) → r ≡ Ok slip → Ripe line slip minute s' q'

  -- a slip of the paper in hand: it is the plain call at its station, which answers the slip's serial if it is carried out
  pub record Plain (a : Act) (slip : Slip) (minute : ℕ) (r : Result Serial Unspent) (s s' : Section L) (q q' : Queue Paper) : Type 0 where
    pub plain : Result ℕ Fault
    pub comes : Comes line (checked_call slip.station minute a) plain s s' q q'
    pub shown : r ≡ settled slip plain
    pub same_serial : (n : ℕ) → plain ≡ Ok n → n ≡ slip.serial.0

  -- a slip of another paper: it is refused, and nothing is altered
  pub record Unmatched (slip : Slip) (minute : ℕ) (r : Result Serial Unspent) (s s' : Section L) (q q' : Queue Paper) : Type 0 where
    pub refused : r ≡ Err (unmatched slip minute (cabinet slip.station (state line s q)))
    pub same_section : s' ≡ s
    pub same_tray : q' ≡ q

  -- a departure or a cancellation on a slip
  abbrev pub Spends : Act → Slip → ℕ → Result Serial Unspent → Section L → Section L → Queue Paper → Queue Paper → Type 0
  Spends a slip minute r s s' q q' = cond (is_of_paper_in_hand slip (items q)) (Plain a slip minute r s s' q q') (Unmatched slip minute r s s' q q')
