-- The trials of the cabinets, by computing.
use Rattle.std.proofs.Common.{List, [], ◌∷◌, refl}
use Rattle.vocabulary.specs.declared.fields.CallFields.{CallFields}
use Rattle.cabinets.specs.Calls.{call_from}
use Rattle.cabinets.specs.Tests.{tests}
use Rattle.rules.specs.Trials.{Played, telephone_chooses, trial_making}
use Rattle.rules.proofs.Trials.{telephone_keeps}
use Rattle.law.specs.Runs.{Run, just_made, then_called}
use Rattle.law.specs.Trials.{BenchTrials, NotEmpty, TrialsAreRuns, play}

played_runs : (fs : List CallFields) (p : Played) → Run p.history p.section → Run (play fs p).history (play fs p).section
played_runs [] p run = run
played_runs (f ∷ fs) p run = played_runs fs _ (then_called run f (telephone_chooses (call_from f) p.section) (telephone_keeps (call_from f) p.section))

trials_are_runs : TrialsAreRuns
trials_are_runs fs = played_runs fs _ (just_made trial_making refl)

pub bench_trials : BenchTrials
unfolding call_from tests
bench_trials = record { ten = refl; eleven = refl; fresh_a = refl; fresh_b = refl; dead_working = refl; dead_rescue = refl; new_day = (refl, refl); lost_a = refl; lost_b = refl }

pub not_empty : NotEmpty
unfolding call_from tests
not_empty = record { runs = trials_are_runs; two_live = refl; departures = (refl, refl, refl); crossed = (refl, refl); came_back = (refl, refl, refl); lost = (refl, refl) }
