-- That the telephone keeps the laws of a line.
use Rattle.std.proofs.Common.{sym, ap, subst, inl, arith}
use Rattle.std.specs.Option.{option_to_list}
use Rattle.std.specs.Prelude.{Some, None, Option, refl}
use Rattle.vocabulary.specs.declared.station.Station.{Station}
use Rattle.vocabulary.specs.declared.station.Station.TheVariants.{A, B}
use Rattle.line.specs.declared.message.Message.{Message}
use Rattle.line.specs.declared.telephone.Telephone.{Telephone}
use Rattle.line.specs.Keeping.{heard_by, marked_by}
use Rattle.line.specs.Laws.{Laws}
use Rattle.line.specs.Meaning.{In, MayHear, waits}
use Rattle.line.specs.Telephone.{message_for, telephone_drops, telephone_hears, telephone_meaning, telephone_mends}

-- the one message that waits may be heard
may_hear_it : (o : Option Message) → MayHear (option_to_list o) o
may_hear_it None = refl
may_hear_it (Some x) = inl refl

may_hear_for : (at : Station) (t : Telephone) → MayHear (waits at (telephone_meaning t)) (message_for at t)
may_hear_for A t = may_hear_it t.messages.a
may_hear_for B t = may_hear_it t.messages.b

pub telephone_laws : Laws telephone_meaning telephone_hears telephone_drops telephone_mends
telephone_laws = record {
  some = λ t. omega arith;
  heard = λ t at r t' h.
      heard_by at (telephone_meaning t) (telephone_meaning t') r _ h.1 (subst (MayHear (waits at (telephone_meaning t))) (sym h.0) (may_hear_for at t)) (λ x i. absurd i);
  dropped = λ t t' e. record {
    mark_is = ap (λ m. m.up) e;
    left_a = λ x i. absurd (subst (λ l. In x l) (ap (λ m. m.for_a) e) i);
    left_b = λ x i. absurd (subst (λ l. In x l) (ap (λ m. m.for_b) e) i);
    most_is = ap (λ m. m.most) e;
  };
  mended = λ t t' e. marked_by _ (telephone_meaning t) (telephone_meaning t') e;
}
