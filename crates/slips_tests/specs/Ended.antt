-- What is left of a slip in the end.
use Rattle.std.specs.Prelude.{Ok, Err, Result}
use Rattle.vocabulary.specs.declared.fault.Fault.{Fault}
use Rattle.vocabulary.specs.declared.number.Serial.{Serial}
use Rattle.slips.specs.declared.Unspent.{Unspent}
use Rattle.slips.specs.declared.Unspent.TheVariants.{Back, Ended}

-- the serial of a slip that was spent, or why it was not
abbrev pub ended : Result Serial Unspent → Result Serial Fault
ended (Ok serial) = Ok serial
ended (Err (Back slip f)) = Err f
ended (Err (Ended f)) = Err f
