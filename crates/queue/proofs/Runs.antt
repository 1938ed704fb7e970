-- What an iterator gives, call by call.
use Rattle.std.proofs.Common.{length, ap}
use Rattle.std.specs.Iterator.{YieldsFirst}
use Rattle.std.specs.Iterator.Runs.{YieldsInOrder}
use Rattle.std.proofs.iter.runs.Sources.{from_front, as_is}

pub in_order : {X : Type 0} → YieldsInOrder (YieldsFirst {A = X} (λ rest. rest)) (λ rest. rest)
in_order p s = as_is p p.from (from_front (YieldsFirst (λ rest. rest)) (λ x. x) (λ rest. rest) (λ s t h. ap length h.0) (λ s x t h. h) p s)
