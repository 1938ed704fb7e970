-- That the printer keeps the laws of a line.
use Rattle.std.proofs.Common.{sym, subst, inl, inr, arith}
use Rattle.std.specs.Prelude.{List, [], ◌∷◌, drop, refl, slice_get}
use Rattle.line.specs.declared.message.Message.{Message}
use Rattle.line.specs.Keeping.{heard_by, marked_by}
use Rattle.line.specs.Laws.{Laws}
use Rattle.line.specs.Meaning.{MayHear, Within, waits}
use Rattle.line.specs.Printer.{printer_drops, printer_hears, printer_meaning, printer_mends}

-- the oldest message may be heard
may_hear_first : (xs : List Message) → MayHear xs (slice_get xs 0)
may_hear_first [] = refl
may_hear_first (x ∷ xs) = inl refl

-- the others waited before
rest_within : (xs : List Message) → Within (drop 1 xs) xs
rest_within [] y i = i
rest_within (x ∷ xs) y i = inr i

pub printer_laws : Laws printer_meaning printer_hears printer_drops printer_mends
printer_laws = record {
  some = λ p. omega arith;
  heard = λ p at r p' h.
      heard_by at (printer_meaning p) (printer_meaning p') r _ h.1
      (subst (MayHear (waits at (printer_meaning p))) (sym h.0) (may_hear_first (waits at (printer_meaning p))))
      (rest_within (waits at (printer_meaning p)));
  dropped = λ p p' e. marked_by _ (printer_meaning p) (printer_meaning p') e;
  mended = λ p p' e. marked_by _ (printer_meaning p) (printer_meaning p') e;
}
