-- The trials, by computing.
use Rattle.std.proofs.Common.{ℕ, List, [], ◌∷◌, Some, None, Option, refl, inl}
use Rattle.line.specs.Meaning.{MayHear}
use Rattle.line.specs.declared.message.Message.{Message}
use Rattle.vocabulary.specs.declared.fields.CallFields.{CallFields}
use Rattle.vocabulary.specs.declared.station.Station.{Station}
use Rattle.vocabulary.specs.declared.station.Station.TheVariants.{A, B}
use Rattle.cabinets.specs.Calls.{call_from}
use Rattle.cabinets.specs.declared.call.Act.{Act}
use Rattle.cabinets.specs.declared.call.Call.{Call}
use Rattle.cabinets.specs.declared.call.Act.TheVariants.{Hear as hear}
use Rattle.cabinets.specs.declared.call.Call.TheVariants.{Act as act, DropLine as drop_line, MendLine as mend_line}
use Rattle.rules.specs.Runs.{KeepsMeaning, MayChoose, Run, just_made, then_called}
use Rattle.cabinets.specs.Section.{Section}
use Rattle.cabinets.specs.Tests.{tests as cabinets_tests}
use Rattle.rules.specs.Tests.{tests}
use Rattle.rules.specs.Trials.{BenchTrials, NotEmpty, Played, first_of, play, telephone_chooses, trial_making, TrialsAreRuns}

first_waits : (ms : List Message) → MayHear ms (first_of ms)
first_waits [] = refl
first_waits (m ∷ ms) = inl refl

hearing_keeps : (x : Station) (s : Section) (minute : ℕ) → MayChoose x hear (telephone_chooses (Some (act x minute hear)) s) s
hearing_keeps A s minute = record { answer = first_waits s.line.for_a; left = λ m i. absurd i; rest = refl }
hearing_keeps B s minute = record { answer = first_waits s.line.for_b; left = λ m i. absurd i; rest = refl }

act_keeps : (x : Station) (s : Section) (minute : ℕ) (a : Act) → MayChoose x a (telephone_chooses (Some (act x minute a)) s) s
act_keeps x s minute hear = hearing_keeps x s minute
act_keeps x s minute a = tt

pub telephone_keeps : (o : Option Call) (s : Section) → KeepsMeaning o (telephone_chooses o s) s
telephone_keeps None s = tt
telephone_keeps (Some (act x minute a)) s = λ e. act_keeps x s minute a
telephone_keeps (Some drop_line) s = record { mark_is = refl; left_a = λ m i. absurd i; left_b = λ m i. absurd i; most_is = refl }
telephone_keeps (Some mend_line) s = record { mark_is = refl; left_a = λ m i. i; left_b = λ m i. i; most_is = refl }

played_runs : (fs : List CallFields) (p : Played) → Run p.history p.section → Run (play fs p).history (play fs p).section
played_runs [] p run = run
played_runs (f ∷ fs) p run = played_runs fs _ (then_called run f (telephone_chooses (call_from f) p.section) (telephone_keeps (call_from f) p.section))

trials_are_runs : TrialsAreRuns
trials_are_runs fs = played_runs fs _ (just_made trial_making refl)

pub bench_trials : BenchTrials
unfolding call_from tests cabinets_tests
bench_trials = record { ten = refl; eleven = refl; fresh_a = refl; fresh_b = refl; dead_working = refl; dead_rescue = refl; new_day = (refl, refl); lost_a = refl; lost_b = refl }

pub not_empty : NotEmpty
unfolding call_from tests cabinets_tests
not_empty = record { runs = trials_are_runs; two_live = refl; departures = (refl, refl, refl); crossed = (refl, refl); came_back = (refl, refl, refl); lost = (refl, refl) }
