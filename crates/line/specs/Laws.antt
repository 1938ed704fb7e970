-- What every line must show, and no more.
use Rattle.std.specs.Prelude.{◌≤◌, true, false, Option}
use Rattle.vocabulary.specs.declared.station.Station.{Station}
use Rattle.line.specs.declared.message.Message.{Message}
use Rattle.line.specs.Meaning.{Heard, Marked, Meaning}

-- the laws of a line that means m, and in which hearing, dropping and mending lead from one state to another as said
pub record Laws {L : Type 0} (m : L → Meaning) (hears : L → Station → Option Message → L → Type 0) (drops mends : L → L → Type 0) : Type 0 where
  -- at least one message may wait for each station
  pub some : (l : L) → 1 ≤ (m l).most
  -- a hearing answers what waited, if anything did, and leaves only what waited
  pub heard : (l : L) (at : Station) (r : Option Message) (l' : L) → hears l at r l' → Heard at (m l) r (m l')
  -- a drop sets the mark down, a mend sets it up, and neither brings a message
  pub dropped : (l l' : L) → drops l l' → Marked false (m l) (m l')
  pub mended : (l l' : L) → mends l l' → Marked true (m l) (m l')
