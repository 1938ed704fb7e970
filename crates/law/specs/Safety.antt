-- The safety law: what every run of a section keeps, as the cabinets carry it out.
use Rattle.cabinets.specs.Section.{Section}
use Rattle.rules.specs.History.{History, deeds}
use Rattle.rules.specs.Safety.{RightKept, Safe}
use Rattle.law.specs.Runs.{Run}

-- the safety law, over every run
abbrev pub EveryRunSafe : Type 0
EveryRunSafe = (h : History) (s : Section) → Run h s → Safe (deeds h) s

-- never have both stations the right, and while a paper of one is live the other lacks it
abbrev pub EveryRunOneRight : Type 0
EveryRunOneRight = (h : History) (s : Section) → Run h s → RightKept (deeds h) s
