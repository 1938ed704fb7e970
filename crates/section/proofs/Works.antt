-- That a station's work, and what it then posts or hears, is what the rules say of its act.
use Rattle.std.proofs.Common.{◌≡◌, ℕ, Bool, true, false, cond, not, ◌&&◌, ltb, List, [], ◌∷◌, ◌++◌, Some, None, Ok, Err, Option, sym, refl, ap, ◌∙◌, arith}
use Rattle.std.proofs.lemmas.Bool.{not-true}
use Rattle.line.specs.Meaning.{Meaning, can_post, waits, with_waits}
use Rattle.line.specs.declared.message.Message.{Message}
use Rattle.vocabulary.specs.Stations.{opposite}
use Rattle.vocabulary.specs.declared.fault.CallFault.{CallFault}
use Rattle.vocabulary.specs.declared.fault.CallFault.TheVariants as fault
use Rattle.vocabulary.specs.declared.number.Serial.{Serial}
use Rattle.vocabulary.specs.declared.station.Station.{Station}
use Rattle.vocabulary.specs.declared.station.Station.TheVariants.{A, B}
use Rattle.cabinets.specs.Acts.{done}
use Rattle.cabinets.specs.Effects.{answer_of, came_kind, came_number, here_after, inbox_after, posts, tray_after}
use Rattle.cabinets.specs.Outcome.{Choice, judged, left, outcome_of, section_after}
use Rattle.cabinets.specs.Refusals.{Test, refusal, refuse}
use Rattle.cabinets.specs.Section.{Section as Situation, View, seen}
use Rattle.cabinets.specs.Tests.{accept_tests, arrive_tests, ask_tests, cannot_post, declare_dead_tests, hear_tests, in_hand_tests, issue_tests, release_tests, report_tests, resume_tests, set_back_tests, sight_of, tests}
use Rattle.cabinets.specs.Tray.{has_live, oldest, youngest}
use Rattle.cabinets.specs.declared.cabinet.Cabinet.{Cabinet}
use Rattle.cabinets.specs.declared.call.Act.{Act}
use Rattle.cabinets.specs.declared.call.Act.TheVariants as act
use Rattle.cabinets.specs.declared.call.Call.TheVariants as call
use Rattle.cabinets.specs.declared.paper.Paper.{Paper}
use Rattle.section.specs.Called.{is_hear}
use Rattle.section.specs.State.{settled}
use Rattle.section.specs.Work.{Worked, changing, desk, handling, putting, saying, taking, telling, working}
use Rattle.section.specs.declared.desk.Done.{Done}

-- an act's tests but for that of the line
abbrev pub own : Station → ℕ → Act → View → List (Test CallFault)
own x minute (act.Ask train) v = ask_tests minute v.here (sight_of x v)
own x minute act.Accept v = accept_tests x minute v.here (sight_of x v)
own x minute (act.Issue train nature pass) v = issue_tests x minute train nature pass v.here (sight_of x v)
own x minute act.Depart v = in_hand_tests x minute v.here (youngest v.tray)
own x minute act.Cancel v = in_hand_tests x minute v.here (youngest v.tray)
own x minute (act.Arrive serial) v = arrive_tests x minute serial.0 v.here (oldest v.tray) (has_live x v.tray)
own x minute (act.SetBack serial) v = set_back_tests x minute serial.0 v.here (youngest v.tray)
own x minute act.Report v = report_tests minute v.here
own x minute act.Release v = release_tests x minute v.here (sight_of x v)
own x minute act.Hear v = hear_tests minute v.here
own x minute act.DeclareDead v = declare_dead_tests minute v.here v.up
own x minute act.Resume v = resume_tests minute v.here v.up

-- the test of the line, for a message that is to be posted
abbrev pub last_test : Option Message → View → List (Test CallFault)
last_test None v = []
last_test (Some m) v = refuse fault.Line (cannot_post v) ∷ []

abbrev after : Station → ℕ → Act → Option Message → View → Cabinet
after x minute a came v = here_after x minute a came v.tray v.here

abbrev post : Station → ℕ → Act → Option Message → View → Option Message
post x minute a came v = posts minute a v.here (after x minute a came v)

tests_are : (x : Station) (minute : ℕ) (a : Act) (came : Option Message) (v : View) → tests x minute a v ≡ own x minute a v ++ last_test (post x minute a came v) v
unfolding tests
tests_are x minute (act.Ask train) came v = refl
tests_are x minute act.Accept came v = refl
tests_are x minute (act.Issue train nature pass) came v = refl
tests_are x minute act.Depart came v = refl
tests_are x minute act.Cancel came v = refl
tests_are x minute (act.Arrive serial) came v = refl
tests_are x minute (act.SetBack serial) came v = refl
tests_are x minute act.Report came v = refl
tests_are x minute act.Release came v = refl
tests_are x minute act.Hear came v = refl
tests_are x minute act.DeclareDead came v = refl
tests_are x minute act.Resume came v = refl

-- work done or refused
abbrev pub told : Option CallFault → Done → Cabinet → List Paper → Cabinet → List Paper → Worked
told None d c ps c₀ ps₀ = (Ok d, (c, ps))
told (Some f) d c ps c₀ ps₀ = (Err f, (c₀, ps₀))

say : (o : Option CallFault) (f : Message → ℕ) (m : Message) (c c₀ : Cabinet) (ps : List Paper) → saying f (done o m c c₀).0 (done o m c c₀).1 ps ≡ told o (record { answer = f m; message = Some m }) c ps c₀ ps
say None f m c c₀ ps = refl
say (Some e) f m c c₀ ps = refl

put : (o : Option CallFault) (p : Paper) (c c₀ : Cabinet) (ps : List Paper) → putting (done o p c c₀).0 (done o p c c₀).1 ps ≡ told o (record { answer = p.serial.0; message = None }) c (ps ++ p ∷ []) c₀ ps
put None p c c₀ ps = refl
put (Some e) p c c₀ ps = refl

handle : (o : Option CallFault) (n : Serial) (c c₀ : Cabinet) (ps qs : List Paper) → handling (done o n c c₀).0 (done o n c c₀).1 ps qs ≡ told o (record { answer = n.0; message = None }) c qs c₀ ps
handle None n c c₀ ps qs = refl
handle (Some e) n c c₀ ps qs = refl

take_in : (o : Option CallFault) (n : ℕ) (c c₀ : Cabinet) (ps qs : List Paper) → taking (done o n c c₀).0 (done o n c c₀).1 ps qs ≡ told o (record { answer = n; message = None }) c qs c₀ ps
take_in None n c c₀ ps qs = refl
take_in (Some e) n c c₀ ps qs = refl

tell : (o : Option CallFault) (came : Option Message) (c c₀ : Cabinet) (ps : List Paper) → telling (done o (came_kind came) c c₀).0 (done o (came_kind came) c c₀).1 ps ≡ told o (record { answer = came_number came; message = None }) c ps c₀ ps
tell None None c c₀ ps = refl
tell None (Some m) c c₀ ps = refl
tell (Some e) came c c₀ ps = refl

change : (o : Option CallFault) (c c₀ : Cabinet) (ps : List Paper) → changing (done {R = Unit {0}} o tt c c₀).0 (done {R = Unit {0}} o tt c c₀).1 ps ≡ told o (record { answer = 0; message = None }) c ps c₀ ps
change None c c₀ ps = refl
change (Some e) c c₀ ps = refl

-- what an act's work is
pub work_is : (x : Station) (minute : ℕ) (a : Act) (came : Option Message) (v : View) (size : ℕ) → working (desk x minute v size came) a v.size v.here v.tray ≡ told (refusal (own x minute a v)) (record { answer = answer_of minute a came v; message = post x minute a came v }) (after x minute a came v) (tray_after x minute a v) v.here v.tray
work_is x minute (act.Ask train) came v size = say (refusal (own x minute (act.Ask train) v)) (λ m. m.count) _ _ v.here v.tray
work_is x minute act.Accept came v size = say (refusal (own x minute act.Accept v)) (λ m. m.«record».0) _ _ v.here v.tray
work_is x minute (act.Issue train nature pass) came v size = put (refusal (own x minute (act.Issue train nature pass) v)) _ _ v.here v.tray
work_is x minute act.Depart came v size = handle (refusal (own x minute act.Depart v)) _ _ v.here v.tray _
work_is x minute act.Cancel came v size = handle (refusal (own x minute act.Cancel v)) _ _ v.here v.tray _
work_is x minute (act.Arrive serial) came v size = take_in (refusal (own x minute (act.Arrive serial) v)) _ _ v.here v.tray _
work_is x minute (act.SetBack serial) came v size = handle (refusal (own x minute (act.SetBack serial) v)) _ _ v.here v.tray _
work_is x minute act.Report came v size = say (refusal (own x minute act.Report v)) (λ m. m.«record».0) _ _ v.here v.tray
work_is x minute act.Release came v size = say (refusal (own x minute act.Release v)) (λ m. m.«record».0) _ _ v.here v.tray
work_is x minute act.Hear came v size = tell (refusal (own x minute act.Hear v)) came _ v.here v.tray
work_is x minute act.DeclareDead came v size = change (refusal (own x minute act.DeclareDead v)) _ v.here v.tray
work_is x minute act.Resume came v size = change (refusal (own x minute act.Resume v)) _ v.here v.tray

-- work that was done, and work that was refused
pub was_done : (o : Option CallFault) (d d' : Done) (c c₀ c' : Cabinet) (ps ps₀ ps' : List Paper) → (Ok d', (c', ps')) ≡ told o d c ps c₀ ps₀ → (o ≡ None) × (d' ≡ d) × (c' ≡ c) × (ps' ≡ ps)
was_done None d d' c c₀ c' ps ps₀ ps' e = let a : Ok d' ≡ Ok d = ap (λ w. w.0) e in (refl, cc, ap (λ w. w.1.0) e, ap (λ w. w.1.1) e)
was_done (Some f) d d' c c₀ c' ps ps₀ ps' e = let a : Ok d' ≡ Err f = ap (λ w. w.0) e in let z : ◌≡◌ {A = ℕ} 0 1 = cc in absurd (omega arith)

pub was_refused : (o : Option CallFault) (d : Done) (f : CallFault) (c c₀ c' : Cabinet) (ps ps₀ ps' : List Paper) → (Err f, (c', ps')) ≡ told o d c ps c₀ ps₀ → (o ≡ Some f) × (c' ≡ c₀) × (ps' ≡ ps₀)
was_refused None d f c c₀ c' ps ps₀ ps' e = let a : Err f ≡ Ok d = ap (λ w. w.0) e in let z : ◌≡◌ {A = ℕ} 0 1 = cc in absurd (omega arith)
was_refused (Some g) d f c c₀ c' ps ps₀ ps' e = let a : Err f ≡ Err g = ap (λ w. w.0) e in (cc, ap (λ w. w.1.0) e, ap (λ w. w.1.1) e)

-- refusals of tests put together
first_refused : (ts us : List (Test CallFault)) (f : CallFault) → refusal ts ≡ Some f → refusal (ts ++ us) ≡ Some f
first_refused [] us f e = let z : ◌≡◌ {A = ℕ} 0 1 = cc in absurd (omega arith)
first_refused (refuse g true ∷ ts) us f e = e
first_refused (refuse g false ∷ ts) us f e = first_refused ts us f e

then_refused : (ts us : List (Test CallFault)) → refusal ts ≡ None → refusal (ts ++ us) ≡ refusal us
then_refused [] us e = refl
then_refused (refuse g true ∷ ts) us e = let z : ◌≡◌ {A = ℕ} 0 1 = cc in absurd (omega arith)
then_refused (refuse g false ∷ ts) us e = then_refused ts us e

module _ (x : Station) (minute : ℕ) (a : Act) (came : Option Message) (s : Situation) where
  abbrev v : View
  v = seen x s

  abbrev tried_refusal : Option CallFault
  tried_refusal = refusal (tests x minute a v)

  all_refused : (f : CallFault) → refusal (own x minute a v) ≡ Some f → tried_refusal ≡ Some f
  all_refused f e = ap refusal (tests_are x minute a came v) ∙ first_refused (own x minute a v) (last_test (post x minute a came v) v) f e

  all_passed : refusal (own x minute a v) ≡ None → tried_refusal ≡ refusal (last_test (post x minute a came v) v)
  all_passed e = ap refusal (tests_are x minute a came v) ∙ then_refused (own x minute a v) (last_test (post x minute a came v) v) e

  -- refused at the desk
  pub act_refused : (f : CallFault) (ch : Choice) → refusal (own x minute a v) ≡ Some f → record { answer = Err f; after = s } ≡ outcome_of (Some (call.Act x minute a)) ch s
  act_refused f ch e = sym (ap (λ o. judged o (answer_of minute a ch.came v) (section_after (call.Act x minute a) ch s) s) (all_refused f e))

  -- refused by the line
  pub act_not_posted : (m : Message) (ch : Choice) → refusal (own x minute a v) ≡ None → Some m ≡ post x minute a came v → can_post (opposite x) s.line ≡ false → record { answer = Err fault.Line; after = s } ≡ outcome_of (Some (call.Act x minute a)) ch s
  act_not_posted m ch e p n =
      let l : refusal (last_test (Some m) v) ≡ Some fault.Line = rw n refl in
      let r : tried_refusal ≡ Some fault.Line = all_passed e ∙ ap (λ o. refusal (last_test o v)) (sym p) ∙ l in
      sym (ap (λ o. judged o (answer_of minute a ch.came v) (section_after (call.Act x minute a) ch s) s) r)

  -- carried out
  pub act_done : (ch : Choice) → tried_refusal ≡ None → record { answer = Ok (answer_of minute a ch.came v); after = section_after (call.Act x minute a) ch s } ≡ outcome_of (Some (call.Act x minute a)) ch s
  act_done ch e = sym (ap (λ o. judged o (answer_of minute a ch.came v) (section_after (call.Act x minute a) ch s) s) e)

  pub passed_post : (m : Message) → refusal (own x minute a v) ≡ None → Some m ≡ post x minute a came v → can_post (opposite x) s.line ≡ true → tried_refusal ≡ None
  passed_post m e p y =
      let l : refusal (last_test (Some m) v) ≡ None = rw y refl in
      all_passed e ∙ ap (λ o. refusal (last_test o v)) (sym p) ∙ l

  pub passed_quiet : refusal (own x minute a v) ≡ None → None ≡ post x minute a came v → tried_refusal ≡ None
  passed_quiet e p = all_passed e ∙ ap (λ o. refusal (last_test o v)) (sym p)

-- only a hearing looks at what came, and it posts nothing
pub says_unheard : (x : Station) (minute : ℕ) (a : Act) (came : Option Message) (v : View) (m : Message) → Some m ≡ post x minute a came v → is_hear a ≡ false
says_unheard x minute (act.Ask train) came v m e = refl
says_unheard x minute act.Accept came v m e = refl
says_unheard x minute (act.Issue train nature pass) came v m e = refl
says_unheard x minute act.Depart came v m e = refl
says_unheard x minute act.Cancel came v m e = refl
says_unheard x minute (act.Arrive serial) came v m e = refl
says_unheard x minute (act.SetBack serial) came v m e = refl
says_unheard x minute act.Report came v m e = refl
says_unheard x minute act.Release came v m e = refl
says_unheard x minute act.Hear came v m e = let z : ◌≡◌ {A = ℕ} 0 1 = cc in absurd (omega arith)
says_unheard x minute act.DeclareDead came v m e = refl
says_unheard x minute act.Resume came v m e = refl

-- what waits here stays, but for a hearing
pub inbox_stays : (a : Act) (rest inbox : List Message) → is_hear a ≡ false → inbox_after a rest inbox ≡ inbox
inbox_stays (act.Ask train) rest inbox e = refl
inbox_stays act.Accept rest inbox e = refl
inbox_stays (act.Issue train nature pass) rest inbox e = refl
inbox_stays act.Depart rest inbox e = refl
inbox_stays act.Cancel rest inbox e = refl
inbox_stays (act.Arrive serial) rest inbox e = refl
inbox_stays (act.SetBack serial) rest inbox e = refl
inbox_stays act.Report rest inbox e = refl
inbox_stays act.Release rest inbox e = refl
inbox_stays act.Hear rest inbox e = let z : ◌≡◌ {A = ℕ} 0 1 = cc in absurd (omega arith)
inbox_stays act.DeclareDead rest inbox e = refl
inbox_stays act.Resume rest inbox e = refl

-- a hearing that is on time is carried out
pub hearing_done : (x : Station) (minute : ℕ) (a : Act) (v : View) → (is_hear a && not (ltb minute v.here.clock)) ≡ true → refusal (own x minute a v) ≡ None
hearing_done x minute act.Hear v e = let l : ltb minute v.here.clock ≡ false = not-true _ e in rw l refl
hearing_done x minute (act.Ask train) v e = let z : ◌≡◌ {A = ℕ} 0 1 = cc in absurd (omega arith)
hearing_done x minute act.Accept v e = let z : ◌≡◌ {A = ℕ} 0 1 = cc in absurd (omega arith)
hearing_done x minute (act.Issue train nature pass) v e = let z : ◌≡◌ {A = ℕ} 0 1 = cc in absurd (omega arith)
hearing_done x minute act.Depart v e = let z : ◌≡◌ {A = ℕ} 0 1 = cc in absurd (omega arith)
hearing_done x minute act.Cancel v e = let z : ◌≡◌ {A = ℕ} 0 1 = cc in absurd (omega arith)
hearing_done x minute (act.Arrive serial) v e = let z : ◌≡◌ {A = ℕ} 0 1 = cc in absurd (omega arith)
hearing_done x minute (act.SetBack serial) v e = let z : ◌≡◌ {A = ℕ} 0 1 = cc in absurd (omega arith)
hearing_done x minute act.Report v e = let z : ◌≡◌ {A = ℕ} 0 1 = cc in absurd (omega arith)
hearing_done x minute act.Release v e = let z : ◌≡◌ {A = ℕ} 0 1 = cc in absurd (omega arith)
hearing_done x minute act.DeclareDead v e = let z : ◌≡◌ {A = ℕ} 0 1 = cc in absurd (omega arith)
hearing_done x minute act.Resume v e = let z : ◌≡◌ {A = ℕ} 0 1 = cc in absurd (omega arith)

-- and one that is carried out was on time
pub done_on_time : (x : Station) (minute : ℕ) (a : Act) (v : View) → is_hear a ≡ true → refusal (own x minute a v) ≡ None → (is_hear a && not (ltb minute v.here.clock)) ≡ true
done_on_time x minute act.Hear v h e = go (ltb minute v.here.clock) e
  where
    go : (b : Bool) → cond b (Some fault.Clock) None ≡ None → not b ≡ true
    go false f = refl
    go true f = let z : ◌≡◌ {A = ℕ} 0 1 = cc in absurd (omega arith)
done_on_time x minute (act.Ask train) v h e = let z : ◌≡◌ {A = ℕ} 0 1 = cc in absurd (omega arith)
done_on_time x minute act.Accept v h e = let z : ◌≡◌ {A = ℕ} 0 1 = cc in absurd (omega arith)
done_on_time x minute (act.Issue train nature pass) v h e = let z : ◌≡◌ {A = ℕ} 0 1 = cc in absurd (omega arith)
done_on_time x minute act.Depart v h e = let z : ◌≡◌ {A = ℕ} 0 1 = cc in absurd (omega arith)
done_on_time x minute act.Cancel v h e = let z : ◌≡◌ {A = ℕ} 0 1 = cc in absurd (omega arith)
done_on_time x minute (act.Arrive serial) v h e = let z : ◌≡◌ {A = ℕ} 0 1 = cc in absurd (omega arith)
done_on_time x minute (act.SetBack serial) v h e = let z : ◌≡◌ {A = ℕ} 0 1 = cc in absurd (omega arith)
done_on_time x minute act.Report v h e = let z : ◌≡◌ {A = ℕ} 0 1 = cc in absurd (omega arith)
done_on_time x minute act.Release v h e = let z : ◌≡◌ {A = ℕ} 0 1 = cc in absurd (omega arith)
done_on_time x minute act.DeclareDead v h e = let z : ◌≡◌ {A = ℕ} 0 1 = cc in absurd (omega arith)
done_on_time x minute act.Resume v h e = let z : ◌≡◌ {A = ℕ} 0 1 = cc in absurd (omega arith)

-- the section after an act that posted, and after one that did not
pub posted_is : (x : Station) (minute : ℕ) (a : Act) (m : Message) (ch : Choice) (s : Situation) (l : Meaning) → Some m ≡ post x minute a ch.came (seen x s) → l ≡ with_waits (opposite x) (waits (opposite x) s.line ++ m ∷ []) s.line → section_after (call.Act x minute a) ch s ≡ settled x (after x minute a ch.came (seen x s)) (tray_after x minute a (seen x s)) l s
posted_is A minute a m ch s l p e =
    let i = inbox_stays a ch.left_a s.line.for_a (says_unheard A minute a ch.came (seen A s) m p) in
    rw (i, sym p, e) refl
posted_is B minute a m ch s l p e =
    let i = inbox_stays a ch.left_b s.line.for_b (says_unheard B minute a ch.came (seen B s) m p) in
    rw (i, sym p, e) refl

pub quiet_is : (x : Station) (minute : ℕ) (a : Act) (ch : Choice) (s : Situation) (l : Meaning) → None ≡ post x minute a ch.came (seen x s) → l ≡ with_waits x (inbox_after a (left x ch) (waits x s.line)) s.line → section_after (call.Act x minute a) ch s ≡ settled x (after x minute a ch.came (seen x s)) (tray_after x minute a (seen x s)) l s
quiet_is A minute a ch s l p e = rw (sym p, e) refl
quiet_is B minute a ch s l p e = rw (sym p, e) refl

-- a hearing leaves what the line leaves, and says nothing
pub inbox_left : (a : Act) (rest inbox : List Message) → is_hear a ≡ true → inbox_after a rest inbox ≡ rest
inbox_left (act.Ask train) rest inbox e = let z : ◌≡◌ {A = ℕ} 0 1 = cc in absurd (omega arith)
inbox_left act.Accept rest inbox e = let z : ◌≡◌ {A = ℕ} 0 1 = cc in absurd (omega arith)
inbox_left (act.Issue train nature pass) rest inbox e = let z : ◌≡◌ {A = ℕ} 0 1 = cc in absurd (omega arith)
inbox_left act.Depart rest inbox e = let z : ◌≡◌ {A = ℕ} 0 1 = cc in absurd (omega arith)
inbox_left act.Cancel rest inbox e = let z : ◌≡◌ {A = ℕ} 0 1 = cc in absurd (omega arith)
inbox_left (act.Arrive serial) rest inbox e = let z : ◌≡◌ {A = ℕ} 0 1 = cc in absurd (omega arith)
inbox_left (act.SetBack serial) rest inbox e = let z : ◌≡◌ {A = ℕ} 0 1 = cc in absurd (omega arith)
inbox_left act.Report rest inbox e = let z : ◌≡◌ {A = ℕ} 0 1 = cc in absurd (omega arith)
inbox_left act.Release rest inbox e = let z : ◌≡◌ {A = ℕ} 0 1 = cc in absurd (omega arith)
inbox_left act.Hear rest inbox e = refl
inbox_left act.DeclareDead rest inbox e = let z : ◌≡◌ {A = ℕ} 0 1 = cc in absurd (omega arith)
inbox_left act.Resume rest inbox e = let z : ◌≡◌ {A = ℕ} 0 1 = cc in absurd (omega arith)

pub quiet_hearing : (x : Station) (minute : ℕ) (a : Act) (came : Option Message) (v : View) → is_hear a ≡ true → post x minute a came v ≡ None
quiet_hearing x minute (act.Ask train) came v e = let z : ◌≡◌ {A = ℕ} 0 1 = cc in absurd (omega arith)
quiet_hearing x minute act.Accept came v e = let z : ◌≡◌ {A = ℕ} 0 1 = cc in absurd (omega arith)
quiet_hearing x minute (act.Issue train nature pass) came v e = let z : ◌≡◌ {A = ℕ} 0 1 = cc in absurd (omega arith)
quiet_hearing x minute act.Depart came v e = let z : ◌≡◌ {A = ℕ} 0 1 = cc in absurd (omega arith)
quiet_hearing x minute act.Cancel came v e = let z : ◌≡◌ {A = ℕ} 0 1 = cc in absurd (omega arith)
quiet_hearing x minute (act.Arrive serial) came v e = let z : ◌≡◌ {A = ℕ} 0 1 = cc in absurd (omega arith)
quiet_hearing x minute (act.SetBack serial) came v e = let z : ◌≡◌ {A = ℕ} 0 1 = cc in absurd (omega arith)
quiet_hearing x minute act.Report came v e = let z : ◌≡◌ {A = ℕ} 0 1 = cc in absurd (omega arith)
quiet_hearing x minute act.Release came v e = let z : ◌≡◌ {A = ℕ} 0 1 = cc in absurd (omega arith)
quiet_hearing x minute act.Hear came v e = refl
quiet_hearing x minute act.DeclareDead came v e = let z : ◌≡◌ {A = ℕ} 0 1 = cc in absurd (omega arith)
quiet_hearing x minute act.Resume came v e = let z : ◌≡◌ {A = ℕ} 0 1 = cc in absurd (omega arith)
