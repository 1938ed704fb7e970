-- An act over any line: from what the line, the desk and the tray did to what the rules say.
use Rattle.std.proofs.Common.{◌≡◌, ℕ, min, Bool, true, false, not, ◌&&◌, ltb, [], ◌∷◌, ◌++◌, is_some, Some, None, Ok, Err, Option, Result, sym, refl, ap, ◌∙◌, subst, ⊎_elim, arith}
use Rattle.std.proofs.lemmas.Bool.{and_left, and_parts, cases_Bool, true≢false}
use Rattle.line.specs.declared.line.Line.{Ghosts as Line}
use Rattle.line.specs.Meaning.{Meaning, can_post, waits, with_waits}
use Rattle.line.specs.declared.message.Message.{Message}
use Rattle.queue.specs.Model.{items, room_of}
use Rattle.queue.specs.declared.Queue.{Queue}
use Rattle.vocabulary.specs.Stations.{opposite}
use Rattle.vocabulary.specs.declared.fault.CallFault.{CallFault}
use Rattle.vocabulary.specs.declared.fault.CallFault.TheVariants as fault
use Rattle.vocabulary.specs.declared.station.Station.{Station}
use Rattle.vocabulary.specs.declared.station.Station.TheVariants.{A, B}
use Rattle.cabinets.specs.Effects.{answer_of, here_after, inbox_after, posts, tray_after}
use Rattle.cabinets.specs.Outcome.{left, outcome_of, section_after}
use Rattle.cabinets.specs.Refusals.{refusal}
use Rattle.cabinets.specs.Section.{View, cabinet, seen}
use Rattle.cabinets.specs.Tests.{tests}
use Rattle.cabinets.specs.declared.cabinet.Cabinet.{Cabinet}
use Rattle.cabinets.specs.declared.call.Act.{Act}
use Rattle.cabinets.specs.declared.call.Call.TheVariants as call
use Rattle.cabinets.specs.declared.paper.Paper.{Paper}
use Rattle.section.specs.Called.{Listened, chosen, is_hear, takes, with_message}
use Rattle.section.specs.State.{OnlyLine, settled, state}
use Rattle.section.specs.Work.{desk, with_came, working}
use Rattle.section.specs.declared.Section.{Section}
use Rattle.section.specs.declared.desk.Desk.{Desk}
use Rattle.section.specs.declared.desk.Done.{Done}
use Rattle.section.proofs.Works.{act_done, act_not_posted, act_refused, done_on_time, hearing_done, inbox_left, inbox_stays, own, passed_post, passed_quiet, posted_is, quiet_hearing, quiet_is, says_unheard, was_done, was_refused, work_is}

with_same : (x : Station) (l : Meaning) → l ≡ with_waits x (waits x l) l
with_same A l = refl
with_same B l = refl

left_chosen : (x : Station) (came : Option Message) (l : Meaning) → left x (chosen came l) ≡ waits x l
left_chosen A came l = refl
left_chosen B came l = refl

module _ {L : Type 0} (line : Line L) where
  -- the same section, as the rules see it
  state_same : (s s₁ : Section L) (q : Queue Paper) → OnlyLine s s₁ → s₁.line.now ≡ s.line.now → state line s₁ q ≡ state line s q
  state_same s s₁ q o e = λ i. record { track = o.same_track i; at_a = o.same_a i; at_b = o.same_b i; tray = items q; size = min (o.same_size i) (room_of q); line = line.meaning (e i) }

  -- a section over a line that was listened to, as the code tells it: its cabinet, its desk, and whether the line was tried
  module _ (s s₁ : Section L) (q : Queue Paper) (x : Station) (minute : ℕ) (a : Act) (came : Option Message) (o : OnlyLine s s₁) (k : Cabinet) (ek : k ≡ cabinet x (state line s q)) (d₀ : Desk) (ed : d₀ ≡ desk x minute (seen x (state line s q)) s.size None) (t : Bool) (et : t ≡ (is_hear a && not (ltb minute k.clock))) (h : Listened line t x came s.line.now s₁.line.now) where
    abbrev v : View
    v = seen x (state line s q)

    abbrev after : Cabinet
    after = here_after x minute a came (items q) (cabinet x (state line s q))

    abbrev said : Option Message
    said = posts minute a (cabinet x (state line s q)) after

    tried_is : t ≡ (is_hear a && not (ltb minute (cabinet x (state line s q)).clock))
    tried_is = et ∙ ap (λ c. is_hear a && not (ltb minute c.clock)) ek

    unheard : t ≡ false → (came ≡ None) × (s₁.line.now ≡ s.line.now)
    unheard e = rw e at h

    unheard_act : is_hear a ≡ false → t ≡ false
    unheard_act e = tried_is ∙ and_left (is_hear a) _ e

    same_work : working (with_came came d₀) a (min d₀.size (room_of q)) k (items q) ≡ working (desk x minute v s.size came) a (min s.size (room_of q)) (cabinet x (state line s q)) (items q)
    same_work = λ i. working (with_came came (ed i)) a (min (ed i).size (room_of q)) (ek i) (items q)

    some_none : (g : CallFault) → Some g ≡ None → ⊥
    some_none g e = let z : ◌≡◌ {A = ℕ} 0 1 = cc in omega arith

    abbrev Work : Result Done CallFault → Cabinet → Queue Paper → Type 0
    Work r c' q' = (r, (c', items q')) ≡ working (with_came came d₀) a (min d₀.size (room_of q)) k (items q)

    did : (d : Done) (c' : Cabinet) (q' : Queue Paper) → Work (Ok d) c' q' → (refusal (own x minute a v) ≡ None) × (d ≡ record { answer = answer_of minute a came v; message = said }) × (c' ≡ after) × (items q' ≡ tray_after x minute a v)
    did d c' q' w = was_done (refusal (own x minute a v)) _ d _ _ c' _ _ (items q') (w ∙ same_work ∙ work_is x minute a came v s.size)

    -- refused at the desk: the line was not tried
    pub refused_act : (f : CallFault) (c' : Cabinet) (q' : Queue Paper) → Work (Err f) c' q' → q' ≡ q → record { answer = Err f; after = state line s₁ q' } ≡ outcome_of (Some (call.Act x minute a)) (chosen came (line.meaning s₁.line.now)) (state line s q)
    refused_act f c' q' w e =
        let r = was_refused (refusal (own x minute a v)) _ f _ _ c' _ _ (items q') (w ∙ same_work ∙ work_is x minute a came v s.size) in
        let u : t ≡ false = ⊎_elim (λ y. absurd (some_none f (sym r.0 ∙ hearing_done x minute a v (sym tried_is ∙ y)))) (λ n. n) (cases_Bool t) in
        let n : state line s₁ q' ≡ state line s q = ap (state line s₁) e ∙ state_same s s₁ q o (unheard u).1 in
        ap (λ z. record { answer = Err f; after = z }) n ∙ act_refused x minute a came (state line s q) f (chosen came (line.meaning s₁.line.now)) r.0

    module _ (d : Done) (c' : Cabinet) (q' : Queue Paper) (w : Work (Ok d) c' q') (s₂ : Section L) where
      message_is : d.message ≡ said
      message_is = ap (λ y. y.message) (did d c' q' w).1

      -- refused by the line
      pub unposted_act : false ≡ takes (opposite x) d.message (line.meaning s₁.line.now) → state line s₂ q' ≡ state line s₁ q' → q' ≡ q → record { answer = Err fault.Line; after = state line s₂ q' } ≡ outcome_of (Some (call.Act x minute a)) (chosen came (line.meaning s₂.line.now)) (state line s q)
      unposted_act down e eq = go d.message refl down
        where
          go : (y : Option Message) → d.message ≡ y → false ≡ takes (opposite x) y (line.meaning s₁.line.now) → record { answer = Err fault.Line; after = state line s₂ q' } ≡ outcome_of (Some (call.Act x minute a)) (chosen came (line.meaning s₂.line.now)) (state line s q)
          go None y n = let z : ◌≡◌ {A = ℕ} 0 1 = cc in absurd (omega arith)
          go (Some y) p n =
              let i : Some y ≡ said = sym p ∙ message_is in
              let u = unheard (unheard_act (says_unheard x minute a came v y i)) in
              let l : can_post (opposite x) (line.meaning s.line.now) ≡ false = ap (λ z. can_post (opposite x) (line.meaning z)) (sym u.1) ∙ sym n in
              let same : state line s₂ q' ≡ state line s q = e ∙ ap (state line s₁) eq ∙ state_same s s₁ q o u.1 in
              ap (λ z. record { answer = Err fault.Line; after = z }) same ∙ act_not_posted x minute a came (state line s q) y (chosen came (line.meaning s₂.line.now)) (did d c' q' w).0 i l

      -- carried out
      module _ (room : room_of q' ≡ room_of q) (ok : true ≡ takes (opposite x) d.message (line.meaning s₁.line.now)) (e : state line s₂ q' ≡ settled x c' (items q') (with_message (opposite x) d.message (line.meaning s₁.line.now)) (state line s₁ q')) where
        -- the line afterwards
        line_is : line.meaning s₂.line.now ≡ with_message (opposite x) d.message (line.meaning s₁.line.now)
        line_is = ap (λ y. y.line) e ∙ settled_line x
          where
            settled_line : (y : Station) → (settled y c' (items q') (with_message (opposite x) d.message (line.meaning s₁.line.now)) (state line s₁ q')).line ≡ with_message (opposite x) d.message (line.meaning s₁.line.now)
            settled_line A = refl
            settled_line B = refl

        -- the rest, as it was before
        settled_same : (y : Station) (l : Meaning) → settled y c' (items q') l (state line s₁ q') ≡ settled y after (tray_after x minute a v) l (state line s q)
        settled_same A l = λ i. record { track = o.same_track i; at_a = (did d c' q' w).2 i; at_b = o.same_b i; tray = (did d c' q' w).3 i; size = min (o.same_size i) (room i); line = l }
        settled_same B l = λ i. record { track = o.same_track i; at_a = o.same_a i; at_b = (did d c' q' w).2 i; tray = (did d c' q' w).3 i; size = min (o.same_size i) (room i); line = l }

        abbrev l₂ : Meaning
        l₂ = line.meaning s₂.line.now

        finish : refusal (tests x minute a v) ≡ None → section_after (call.Act x minute a) (chosen came l₂) (state line s q) ≡ settled x after (tray_after x minute a v) l₂ (state line s q) → record { answer = Ok d.answer; after = state line s₂ q' } ≡ outcome_of (Some (call.Act x minute a)) (chosen came l₂) (state line s q)
        finish none sa =
            let st : state line s₂ q' ≡ section_after (call.Act x minute a) (chosen came l₂) (state line s q) = e ∙ ap (λ l. settled x c' (items q') l (state line s₁ q')) (sym line_is) ∙ settled_same x l₂ ∙ sym sa in
            let an : d.answer ≡ answer_of minute a came v = ap (λ y. y.answer) (did d c' q' w).1 in
            (λ i. record { answer = Ok (an i); after = st i }) ∙ act_done x minute a came (state line s q) (chosen came l₂) none

        -- nothing was said: the line is as the hearing left it, or as it was
        quiet_line : d.message ≡ None → l₂ ≡ with_waits x (inbox_after a (waits x l₂) (waits x (line.meaning s.line.now))) (line.meaning s.line.now)
        quiet_line n = ⊎_elim heard_it not_heard (cases_Bool t)
          where
            same : l₂ ≡ line.meaning s₁.line.now
            same = line_is ∙ ap (λ y. with_message (opposite x) y (line.meaning s₁.line.now)) n

            heard_it : t ≡ true → l₂ ≡ with_waits x (inbox_after a (waits x l₂) (waits x (line.meaning s.line.now))) (line.meaning s.line.now)
            heard_it y =
                let hh : line.hears s.line.now x came s₁.line.now = rw y at h in
                let ha : is_hear a ≡ true = (and_parts (is_hear a) _ (sym tried_is ∙ y)).0 in
                same ∙ (line.laws.heard s.line.now x came s₁.line.now hh).rest ∙ ap (λ l. with_waits x l (line.meaning s.line.now)) (sym (inbox_left a (waits x l₂) (waits x (line.meaning s.line.now)) ha ∙ ap (waits x) same))

            not_heard : t ≡ false → l₂ ≡ with_waits x (inbox_after a (waits x l₂) (waits x (line.meaning s.line.now))) (line.meaning s.line.now)
            not_heard y =
                let plain : is_hear a ≡ false = ⊎_elim (λ z. absurd (true≢false (sym (done_on_time x minute a v z (did d c' q' w).0) ∙ sym tried_is ∙ y))) (λ z. z) (cases_Bool (is_hear a)) in
                same ∙ ap line.meaning (unheard y).1 ∙ with_same x (line.meaning s.line.now) ∙ ap (λ l. with_waits x l (line.meaning s.line.now)) (sym (inbox_stays a (waits x l₂) (waits x (line.meaning s.line.now)) plain))

        pub done_act : record { answer = Ok d.answer; after = state line s₂ q' } ≡ outcome_of (Some (call.Act x minute a)) (chosen came l₂) (state line s q)
        done_act = go d.message refl
          where
            go : (y : Option Message) → d.message ≡ y → record { answer = Ok d.answer; after = state line s₂ q' } ≡ outcome_of (Some (call.Act x minute a)) (chosen came l₂) (state line s q)
            go None p =
                let i : None ≡ said = sym p ∙ message_is in
                finish (passed_quiet x minute a came (state line s q) (did d c' q' w).0 i) (quiet_is x minute a (chosen came l₂) (state line s q) l₂ i (quiet_line p ∙ ap (λ l. with_waits x (inbox_after a l (waits x (line.meaning s.line.now))) (line.meaning s.line.now)) (sym (left_chosen x came l₂))))
            go (Some y) p =
                let i : Some y ≡ said = sym p ∙ message_is in
                let u = unheard (unheard_act (says_unheard x minute a came v y i)) in
                let c : can_post (opposite x) (line.meaning s.line.now) ≡ true = ap (λ z. can_post (opposite x) (line.meaning z)) (sym u.1) ∙ sym (ok ∙ ap (λ z. takes (opposite x) z (line.meaning s₁.line.now)) p) in
                let l : l₂ ≡ with_waits (opposite x) (waits (opposite x) (line.meaning s.line.now) ++ y ∷ []) (line.meaning s.line.now) = line_is ∙ ap (λ z. with_message (opposite x) z (line.meaning s₁.line.now)) p ∙ ap (λ z. with_message (opposite x) (Some y) (line.meaning z)) u.1 in
                finish (passed_post x minute a came (state line s q) y (did d c' q' w).0 i c) (posted_is x minute a y (chosen came l₂) (state line s q) l₂ i l)

        -- a hearing carried out tried the line once
        pub heard_once : (d.message ≡ None → s₂.line.now ≡ s₁.line.now) → (is_hear a && true) ≡ true → line.hears s.line.now x came s₂.line.now
        heard_once quiet y =
            let ha : is_hear a ≡ true = (and_parts (is_hear a) true y).0 in
            let ti : t ≡ true = tried_is ∙ done_on_time x minute a v ha (did d c' q' w).0 in
            let hh : line.hears s.line.now x came s₁.line.now = rw ti at h in
            subst (λ l. line.hears s.line.now x came l) (sym (quiet (message_is ∙ quiet_hearing x minute a came v ha))) hh

-- only a message can be refused
pub not_taken : (to : Station) (y : Option Message) (l : Meaning) → false ≡ takes to y l → is_some y ≡ true
not_taken to None l e = let z : ◌≡◌ {A = ℕ} 0 1 = cc in absurd (omega arith)
not_taken to (Some m) l e = refl
