-- That a section just made is as the rules make it, and starts a run.
use Rattle.std.proofs.Common.{◌≡◌, [], Ok}
use Rattle.cabinets.specs.Making.{Making, making}
use Rattle.law.specs.Runs.{Run, just_made}
use Rattle.cabinets.specs.Section.{Section as Situation}

pub made_run : (p : Making) (s : Situation) → making p ≡ Ok s → Run [] s
made_run p s e = just_made {s = s} p e
