-- How a line shows its laws: a hearing that sets one list, and a drop or a mend that sets the mark.
use Rattle.std.specs.Prelude.{◌≡◌, Bool, List, Option, refl}
use Rattle.std.proofs.Common.{sym, ap, subst, ◌∙◌}
use Rattle.vocabulary.specs.declared.station.Station.{Station}
use Rattle.vocabulary.specs.declared.station.Station.TheVariants.{A, B}
use Rattle.line.specs.declared.message.Message.{Message}
use Rattle.line.specs.Meaning.{Heard, In, Marked, MayHear, Meaning, Within, waits, with_up, with_waits}

-- the list that was set is the one that waits
pub waits_set : (at : Station) (xs : List Message) (m : Meaning) → waits at (with_waits at xs m) ≡ xs
waits_set A xs m = refl
waits_set B xs m = refl

-- a hearing that answers what waited and leaves a list of what waited
pub heard_by : (at : Station) (m m' : Meaning) (r : Option Message) (xs : List Message) → m' ≡ with_waits at xs m → MayHear (waits at m) r → Within xs (waits at m) → Heard at m r m'
heard_by at m m' r xs e may within =
    let left : waits at m' ≡ xs = ap (waits at) e ∙ waits_set at xs m in
    record { answer = may; left = λ x i. within x (subst (In x) left i); rest = e ∙ ap (λ l. with_waits at l m) (sym left) }

-- a drop or a mend that alters only the mark
pub marked_by : (b : Bool) (m m' : Meaning) → m' ≡ with_up b m → Marked b m m'
marked_by b m m' e = record {
  mark_is = ap (λ x. x.up) e;
  left_a = λ x i. subst (λ l. In x l) (ap (λ y. y.for_a) e) i;
  left_b = λ x i. subst (λ l. In x l) (ap (λ y. y.for_b) e) i;
  most_is = ap (λ x. x.most) e;
}
