-- Some paper of the tray is the station's.
use Rattle.std.proofs.Common.{rules}
use borrow.Author.Tests.{tests}
use Rattle.std.proofs.lemmas.Iterator.Consumers.{YieldsList-from_first}
use Rattle.std.proofs.lemmas.Iterator.Search.{any_from_yields_List}
use Rattle.cabinets.specs.Tray.{same_station}
use Rattle.section.proofs.tray.has_live.Goals as goal

pub returns : goal.returns
returns c = any_from_yields_List (λ p. same_station p.station c.args.of) _ _ _ c.any.ensures.ran (YieldsList-from_first (λ p. p) (λ rest. rest) _ c.iter.ensures.items) (λ p b q k. search (rules, tests))
