-- The papers that the history tells of are those in the tray, and each act keeps that so.
use Rattle.std.proofs.Common.{◌≡◌, ℕ, ◌+◌, ◌≤◌, Bool, true, false, cond, not, eqb, ◌⊎◌, List, [], ◌∷◌, ◌++◌, map, Some, None, Option, sym, refl, ap, ◌∙◌, inl, inr, ⊎_elim, arith}
use Rattle.std.proofs.lemmas.List.{append-nil, map_push}
use Rattle.std.proofs.lemmas.Bool.{and_parts, cases_Bool, eq-eqb, eqb-true}
use Rattle.std.proofs.lemmas.Bool.Decides.{nat_tests}
use Rattle.vocabulary.specs.declared.station.Station.{Station}
use Rattle.rules.specs.History.{Name, name, of_station, one_more_if, same_name, those, times}
use Rattle.rules.specs.Safety.{In, name_of}
use Rattle.cabinets.specs.Tray.{departed_at, same_station}
use Rattle.cabinets.specs.declared.paper.Paper.{Paper}
use Rattle.rules.proofs.Basics.{in_front, in_last, in_split, one_more_swap, one_more_up, same_refl, same_true, tally}
use Rattle.rules.proofs.Numbers.{is_of}

same_name_refl : (k : Name) → same_name k k ≡ true
same_name_refl k = rw (same_refl k.station, eq-eqb k.serial k.serial refl) refl

pub same_name_true : (j k : Name) → same_name j k ≡ true → j ≡ k
same_name_true j k e =
    let b = and_parts (same_station j.station k.station) (eqb j.serial k.serial) e in
    let s : j.station ≡ k.station = same_true j.station k.station b.0 in
    let n : j.serial ≡ k.serial = eqb-true j.serial k.serial b.1 in
    ap (λ x. name x j.serial) s ∙ ap (λ m. name k.station m) n

same_name_sym : (j k : Name) → same_name j k ≡ same_name k j
same_name_sym j k = ⊎_elim
    (λ e. let s : j ≡ k = same_name_true j k e in rw s refl)
    (λ e. ⊎_elim (λ f. let s : k ≡ j = same_name_true k j f in rw s refl) (λ f. e ∙ sym f) (cases_Bool (same_name k j)))
    (cases_Bool (same_name j k))

-- a name in a list, and how often
pub times_push : (k j : Name) (ks : List Name) → times k (ks ++ j ∷ []) ≡ one_more_if (same_name j k) (times k ks)
times_push k j [] = refl
times_push k j (i ∷ is) = rw (times_push k j is) (one_more_swap (same_name i k) (same_name j k) (times k is))

times_in : (k : Name) (ks : List Name) → In k ks → 1 ≤ times k ks
times_in k [] i = absurd i
times_in k (j ∷ js) (inl e) = let s : same_name j k ≡ true = rw e (same_name_refl j) in rw s (omega arith)
times_in k (j ∷ js) (inr i) = one_more_up (same_name j k) 1 (times k js) (times_in k js i)

times_those : (p : Name → Bool) (k : Name) (ks : List Name) → times k (those p ks) ≤ times k ks
times_those p k [] = omega arith
times_those p k (j ∷ js) = keep (p j) (times_those p k js)
  where
    both : (c : Bool) (m n : ℕ) → m ≤ n → one_more_if c m ≤ one_more_if c n
    both true m n l = omega arith
    both false m n l = l

    keep : (b : Bool) → times k (those p js) ≤ times k js → times k (cond b (j ∷ those p js) (those p js)) ≤ one_more_if (same_name j k) (times k js)
    keep true l = both (same_name j k) _ _ l
    keep false l = one_more_up (same_name j k) _ _ l

in_those : (p : Name → Bool) (k : Name) (ks : List Name) → In k (those p ks) → In k ks × (p k ≡ true)
in_those p k [] i = absurd i
in_those p k (j ∷ js) i = ⊎_elim
    (λ e. kept e (λ l. in_those p k js l) (rw e at i))
    (λ e. let r = in_those p k js (rw e at i) in (inr r.0, r.1))
    (cases_Bool (p j))
  where
    kept : p j ≡ true → (In k (those p js) → In k js × (p k ≡ true)) → (k ≡ j) ⊎ In k (those p js) → In k (j ∷ js) × (p k ≡ true)
    kept e more (inl f) = (inl f, rw f e)
    kept e more (inr l) = (inr (more l).0, (more l).1)

those_push : (p : Name → Bool) (ks : List Name) (j : Name) → those p (ks ++ j ∷ []) ≡ those p ks ++ cond (p j) (j ∷ []) []
those_push p [] j = refl
those_push p (k ∷ ks) j = rw (those_push p ks j) (push (p k))
  where
    push : (b : Bool) → cond b (k ∷ (those p ks ++ cond (p j) (j ∷ []) [])) (those p ks ++ cond (p j) (j ∷ []) []) ≡ cond b (k ∷ those p ks) (those p ks) ++ cond (p j) (j ∷ []) []
    push true = refl
    push false = refl

-- closing a name takes it out of the live ones
those_closed : (j : Name) (g : Name → ℕ) (ks : List Name) → those (λ k. eqb (one_more_if (same_name j k) (g k)) 0) ks ≡ those (λ k. not (same_name j k)) (those (λ k. eqb (g k) 0) ks)
those_closed j g [] = refl
those_closed j g (k ∷ ks) = rw (those_closed j g ks) (pick (same_name j k) refl (eqb (g k) 0) refl)
  where
    never : (n : ℕ) → eqb (n + 1) 0 ≡ false
    never n = grind (arith, nat_tests)

    pick : (b : Bool) → same_name j k ≡ b → (c : Bool) → eqb (g k) 0 ≡ c → cond (eqb (one_more_if (same_name j k) (g k)) 0) (k ∷ those (λ i. not (same_name j i)) (those (λ i. eqb (g i) 0) ks)) (those (λ i. not (same_name j i)) (those (λ i. eqb (g i) 0) ks)) ≡ those (λ i. not (same_name j i)) (cond (eqb (g k) 0) (k ∷ those (λ i. eqb (g i) 0) ks) (those (λ i. eqb (g i) 0) ks))
    pick true e true f = rw (e, f, never (g k)) (rw e refl)
    pick true e false f = rw (e, f, never (g k)) refl
    pick false e true f = rw (e, f) (rw e refl)
    pick false e false f = rw (e, f) refl

without_none : (j : Name) (ks : List Name) → times j ks ≡ 0 → those (λ k. not (same_name j k)) ks ≡ ks
without_none j [] e = refl
without_none j (k ∷ ks) e = go (same_name k j) refl e (λ f. without_none j ks f)
  where
    go : (b : Bool) → same_name k j ≡ b → one_more_if b (times j ks) ≡ 0 → (times j ks ≡ 0 → those (λ i. not (same_name j i)) ks ≡ ks) → cond (not (same_name j k)) (k ∷ those (λ i. not (same_name j i)) ks) (those (λ i. not (same_name j i)) ks) ≡ k ∷ ks
    go true s f more = absurd (omega arith)
    go false s f more = let t : same_name j k ≡ false = same_name_sym j k ∙ s in rw (t, more f) refl

-- the names of a tray
in_names : (p : Paper) (ps : List Paper) → In p ps → In (name_of p) (map name_of ps)
in_names p [] i = absurd i
in_names p (q ∷ qs) (inl e) = inl (ap name_of e)
in_names p (q ∷ qs) (inr i) = inr (in_names p qs i)

pub named : (k : Name) (ps : List Paper) → In k (map name_of ps) → (p : Paper) × In p ps × (name_of p ≡ k)
named k [] i = absurd i
named k (q ∷ qs) (inl e) = (q, inl refl, sym e)
named k (q ∷ qs) (inr i) = let r = named k qs i in (r.0, inr r.1, r.2)

pub names_of_station : (x : Station) (ps : List Paper) → of_station x (map name_of ps) ≡ tally (is_of x) ps
names_of_station x [] = refl
names_of_station x (p ∷ ps) = ap (one_more_if (same_station p.station x)) (names_of_station x ps)

-- what the history tells, and the tray
pub record Ledger (made : List Name) (closed : Name → ℕ) (departure : Name → Option ℕ) (tray : List Paper) : Type 0 where
  pub live_is : map name_of tray ≡ those (λ k. eqb (closed k) 0) made
  pub departed_is : (p : Paper) → In p tray → p.departed ≡ departure (name_of p)
  pub once : (k : Name) → times k made ≤ 1
  pub at_most : (k : Name) → closed k ≤ times k made
  pub unmade : (k : Name) → times k made ≡ 0 → departure k ≡ None

module _ {mades : List Name} {closed : Name → ℕ} {dep : Name → Option ℕ} {tray : List Paper} (l : Ledger mades closed dep tray) where
  -- a paper in the tray was made, and not closed
  in_tray : (p : Paper) → In p tray → (1 ≤ times (name_of p) mades) × (closed (name_of p) ≡ 0)
  in_tray p i =
      let j = in_those (λ k. eqb (closed k) 0) (name_of p) mades (rw l.live_is at (in_names p tray i)) in
      (times_in (name_of p) mades j.0, eqb-true (closed (name_of p)) 0 j.1)

  -- and stands there once
  one_in_tray : (k : Name) → times k (map name_of tray) ≤ 1
  one_in_tray k = rw l.live_is (omega (arith, times_those (λ i. eqb (closed i) 0) k mades, l.once k))

  -- a paper made under a name that none had
  pub making_kept : (p : Paper) → p.departed ≡ None → times (name_of p) mades ≡ 0 → Ledger (mades ++ name_of p ∷ []) closed dep (tray ++ p ∷ [])
  making_kept p d new = record {
    live_is = map_push name_of tray p ∙ ap (λ ks. ks ++ name_of p ∷ []) l.live_is ∙ sym (those_push (λ k. eqb (closed k) 0) mades (name_of p) ∙ rw (eq-eqb (closed (name_of p)) 0 (omega (arith, l.at_most (name_of p)))) refl);
    departed_is = λ q i. ⊎_elim (λ j. l.departed_is q j) (λ e. rw e (d ∙ sym (l.unmade (name_of p) new))) (in_split q p tray i);
    once = λ k. rw (times_push k (name_of p) mades) (first k (same_name (name_of p) k) refl);
    at_most = λ k. rw (times_push k (name_of p) mades) (one_more_up (same_name (name_of p) k) (closed k) (times k mades) (l.at_most k));
    unmade = λ k e. l.unmade k (none (same_name (name_of p) k) (times k mades) (rw (times_push k (name_of p) mades) at e));
  }
    where
      first : (k : Name) (b : Bool) → same_name (name_of p) k ≡ b → one_more_if b (times k mades) ≤ 1
      first k true e = omega (arith, ap (λ j. times j mades) (sym (same_name_true (name_of p) k e)))
      first k false e = l.once k

      none : (b : Bool) (n : ℕ) → one_more_if b n ≡ 0 → n ≡ 0
      none true n e = absurd (omega arith)
      none false n e = e

  -- the name of the youngest, and of the oldest, stands nowhere else
  last_alone : (front : List Paper) (last : Paper) → tray ≡ front ++ last ∷ [] → times (name_of last) (map name_of front) ≡ 0
  last_alone front last e =
      let m : times (name_of last) (map name_of tray) ≡ one_more_if (same_name (name_of last) (name_of last)) (times (name_of last) (map name_of front)) = ap (λ ps. times (name_of last) (map name_of ps)) e ∙ ap (times (name_of last)) (map_push name_of front last) ∙ times_push (name_of last) (name_of last) (map name_of front) in
      let n : times (name_of last) (map name_of tray) ≡ times (name_of last) (map name_of front) + 1 = rw (same_name_refl (name_of last)) at m in
      omega (arith, one_in_tray (name_of last))

  first_alone : (first : Paper) (rest : List Paper) → tray ≡ first ∷ rest → times (name_of first) (map name_of rest) ≡ 0
  first_alone first rest e =
      let m : times (name_of first) (map name_of tray) ≡ times (name_of first) (map name_of rest) + 1 = ap (λ ps. times (name_of first) (map name_of ps)) e ∙ rw (same_name_refl (name_of first)) refl in
      omega (arith, one_in_tray (name_of first))

  -- the youngest paper departs
  pub sending_kept : (front : List Paper) (last : Paper) (minute : ℕ) → tray ≡ front ++ last ∷ [] → Ledger mades closed (λ k. cond (same_name (name_of last) k) (Some minute) (dep k)) (front ++ departed_at minute last ∷ [])
  sending_kept front last minute e = record {
    live_is = map_push name_of front (departed_at minute last) ∙ sym (map_push name_of front last) ∙ ap (map name_of) (sym e) ∙ l.live_is;
    departed_is = λ q i. ⊎_elim (λ j. rw (other q j) (l.departed_is q (rw e (in_front q last front j)))) (λ f. rw f (rw (same_name_refl (name_of last)) refl)) (in_split q (departed_at minute last) front i);
    once = l.once;
    at_most = l.at_most;
    unmade = λ k n. not_made k (same_name (name_of last) k) refl n;
  }
    where
      last_in : In last tray
      last_in = rw e (in_last last front)

      other : (q : Paper) → In q front → same_name (name_of last) (name_of q) ≡ false
      other q j = ⊎_elim (λ s. absurd (omega (arith, times_in (name_of q) (map name_of front) (in_names q front j), ap (λ k. times k (map name_of front)) (same_name_true (name_of last) (name_of q) s), last_alone front last e))) (λ s. s) (cases_Bool (same_name (name_of last) (name_of q)))

      not_made : (k : Name) (b : Bool) → same_name (name_of last) k ≡ b → times k mades ≡ 0 → cond b (Some minute) (dep k) ≡ None
      not_made k true s n = absurd (omega (arith, (in_tray last last_in).0, ap (λ j. times j mades) (same_name_true (name_of last) k s)))
      not_made k false s n = l.unmade k n

  -- a paper is closed, and leaves the tray
  module _ (p : Paper) (p-in : In p tray) (tray' : List Paper) (fewer : (q : Paper) → In q tray' → In q tray) (left : those (λ k. not (same_name (name_of p) k)) (map name_of tray) ≡ map name_of tray') where
    closing_kept : Ledger mades (λ k. one_more_if (same_name (name_of p) k) (closed k)) dep tray'
    closing_kept = record {
      live_is = sym (those_closed (name_of p) closed mades ∙ ap (those (λ k. not (same_name (name_of p) k))) (sym l.live_is) ∙ left);
      departed_is = λ q i. l.departed_is q (fewer q i);
      once = l.once;
      at_most = λ k. first k (same_name (name_of p) k) refl;
      unmade = l.unmade;
    }
      where
        first : (k : Name) (b : Bool) → same_name (name_of p) k ≡ b → one_more_if b (closed k) ≤ times k mades
        first k true s = omega (arith, (in_tray p p-in).0, (in_tray p p-in).1, ap (λ j. times j mades) (same_name_true (name_of p) k s), ap closed (same_name_true (name_of p) k s))
        first k false s = l.at_most k

  pub close_last : (front : List Paper) (last : Paper) → tray ≡ front ++ last ∷ [] → Ledger mades (λ k. one_more_if (same_name (name_of last) k) (closed k)) dep front
  close_last front last e = closing_kept last (rw e (in_last last front)) front (λ q i. rw e (in_front q last front i)) (ap (λ ps. those (λ k. not (same_name (name_of last) k)) (map name_of ps)) e ∙ gone)
    where
      gone : those (λ k. not (same_name (name_of last) k)) (map name_of (front ++ last ∷ [])) ≡ map name_of front
      gone =
          ap (those (λ k. not (same_name (name_of last) k))) (map_push name_of front last)
          ∙ those_push (λ k. not (same_name (name_of last) k)) (map name_of front) (name_of last)
          ∙ ap (λ b. those (λ k. not (same_name (name_of last) k)) (map name_of front) ++ cond (not b) (name_of last ∷ []) []) (same_name_refl (name_of last))
          ∙ append-nil (those (λ k. not (same_name (name_of last) k)) (map name_of front))
          ∙ without_none (name_of last) (map name_of front) (last_alone front last e)

  pub close_first : (first : Paper) (rest : List Paper) → tray ≡ first ∷ rest → Ledger mades (λ k. one_more_if (same_name (name_of first) k) (closed k)) dep rest
  close_first first rest e = closing_kept first (rw e (inl refl)) rest (λ q i. rw e (inr i)) (ap (λ ps. those (λ k. not (same_name (name_of first) k)) (map name_of ps)) e ∙ gone)
    where
      gone : those (λ k. not (same_name (name_of first) k)) (map name_of (first ∷ rest)) ≡ map name_of rest
      gone =
          ap (λ b. cond (not b) (name_of first ∷ those (λ k. not (same_name (name_of first) k)) (map name_of rest)) (those (λ k. not (same_name (name_of first) k)) (map name_of rest))) (same_name_refl (name_of first))
          ∙ without_none (name_of first) (map name_of rest) (first_alone first rest e)
