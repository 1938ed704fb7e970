-- One message on an empty line.
use Rattle.std.proofs.Common.{◌≡◌, ℕ, ◌<◌, ◌≤◌, Bool, true, List, [], ◌∷◌, ◌++◌, length, Some, None, Option, ap, ◌∙◌, subst, ⊎_elim, arith}
use Rattle.std.proofs.lemmas.Bool.{and_from, lt-ltb}
use Rattle.vocabulary.specs.declared.station.Station.{Station}
use Rattle.line.specs.Keeping.{waits_set}
use Rattle.line.specs.Meaning.{In, MayHear, Meaning, can_post, posting, waits}
use Rattle.line.specs.declared.line.Line.{Ghosts}
use Rattle.line.specs.declared.message.Message.{Message}

-- the only message that waits is the one that is heard
sole_heard : (x : Message) (xs : List Message) (r : Option Message) → xs ≡ x ∷ [] → MayHear xs r → r ≡ Some x
sole_heard x xs None e h = let z : ◌≡◌ {A = ℕ} 0 1 = cc in absurd (omega arith)
sole_heard x xs (Some y) e h = ⊎_elim (λ p. ap Some p) (λ none. absurd none) (subst (In y) e h)

-- a message posted where none waits waits alone
sole_waits : (to : Station) (x : Message) (m : Meaning) → m.up ≡ true → waits to m ≡ [] → 1 ≤ m.most → waits to (posting to x m).1 ≡ x ∷ []
sole_waits to x m up none some =
    let room : length (waits to m) < m.most = omega (arith, ap length none) in
    let can : can_post to m ≡ true = and_from _ _ up (lt-ltb (length (waits to m)) m.most room) in
    rw can (waits_set to (waits to m ++ x ∷ []) m ∙ ap (λ l. l ++ x ∷ []) none)

-- over any line that is up and has nothing waiting at a station, a message posted there is the one that is heard there
pub heard_alone : {L : Type 0} (line : Ghosts L) (to : Station) (x : Message) (l l' l'' : L) (b : Bool) (r : Option Message) → line.hears l' to r l'' → (b, line.meaning l') ≡ posting to x (line.meaning l) → (line.meaning l).up ≡ true → waits to (line.meaning l) ≡ [] → r ≡ Some x
heard_alone line to x l l' l'' b r hears posted up none =
    sole_heard x _ r (ap (λ p. waits to p.1) posted ∙ sole_waits to x (line.meaning l) up none (line.laws.some l)) (line.laws.heard l' to r l'' hears).answer
