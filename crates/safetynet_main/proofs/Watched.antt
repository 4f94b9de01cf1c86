-- Rules that fit are ones that so many nodes can keep, and what was read may begin.
use Rattle.std.proofs.Common.{◌≡◌, ℕ, ◌≤◌, ◌<◌, ◌*◌, true, List, length, Option, Some, None, arith}
use Rattle.std.specs.Prelude.{Bool, false, if◌then◌else◌, All, IfSome, IfOk, Result, Ok, Err}
use Rattle.std.proofs.lemmas.Bool.Decides.{nat_tests}
use Rattle.sn_base.specs.Config.{config_fits}
use Rattle.sn_base.specs.declared.config.Config.{Config}
use Rattle.sn_base.specs.Image.{ImageData}
use Rattle.sn_base.specs.Rules.{AreRules, kill_fits}
use Rattle.sn_base.specs.declared.event.Event.{Event}
use Rattle.sn_base.specs.declared.limits.TheConstants.{EVENTS}
use Rattle.consistent_cuts.specs.Runs.{AllFit}
use Rattle.option_values.specs.Runs.{run_rules_fit}
use Rattle.option_values.specs.declared.places.Places.{Places}
use Rattle.option_values.specs.declared.run.RunRules.{RunRules}
use Rattle.command_words.specs.Request.{watch_fits}
use Rattle.command_words.specs.declared.request.ReplayReport.{ReplayReport}
use Rattle.command_words.specs.declared.request.ReplayReport.TheVariants as replayed
use Rattle.call_files.proofs.Watched.{watched_is}
use Rattle.rolling_recovery.specs.Controls.{control_fits}
use Rattle.rolling_recovery.specs.declared.controls.Control.{Control}
use Rattle.call_files.specs.Rolled.{MayRoll}
use Rattle.monitor_run.specs.Run.{Run}
use Rattle.monitor_run.specs.NodeRunShown.{MayBegin as MayRun}
use Rattle.monitor_run.specs.Shown.{MayBegin as MayMonitor}
use Rattle.sn_base.specs.declared.report.RunReport.{RunReport}
use Rattle.turn_orders.specs.declared.order.Order.{Order}
use Rattle.command_words.specs.Request.{scope_fits}
use Rattle.command_words.specs.declared.request.RunScope.{RunScope}
use Rattle.command_words.specs.declared.request.RunScope.TheVariants as asked_scope
use Rattle.safetynet_main.specs.Call.{are_there, replay_job, ordered_job, run_of, monitor_of, IsRead}
use Rattle.safetynet_main.specs.declared.job.Job.{Job}
use Rattle.safetynet_main.specs.declared.job.Job.TheVariants.{States as StatesJob}
use Rattle.call_status.specs.declared.status.Status.{Status}
use Rattle.call_status.specs.declared.status.Status.TheVariants.{BadPlaces}

states-may_begin : (there : Bool) (config : Config) (only : Option Places) (watch : Option ℕ) (image : ImageData) (events : List Event) →
    config_fits config ≡ true → AllFit config.nodes events → length events ≤ EVENTS → watch_fits watch ≡ true →
    IfOk (let r : Result Job Status =
    if there then Ok (StatesJob (record { program = image; config = config; watch = watch; only = only; script = events }))
    else Err (BadPlaces (length events)) in r) IsRead
states-may_begin true config only watch image events fits all few watched =
    record { run = record { fits = fits; events_fit = all }; few = few; watched = watched_is watch watched }
states-may_begin false config only watch image events fits all few watched = tt

pub replay_may_begin : (config : Config) (report : ReplayReport) (watch : Option ℕ) (image : ImageData) (events : List Event) →
    config_fits config ≡ true → AllFit config.nodes events → length events ≤ EVENTS → watch_fits watch ≡ true →
    IfOk (replay_job config report watch image events) IsRead
replay_may_begin config replayed.Events watch image events fits all few watched =
    record { run = record { fits = fits; events_fit = all }; few = few; watched = watched_is watch watched }
replay_may_begin config replayed.Trace watch image events fits all few watched =
    record { run = record { fits = fits; events_fit = all }; few = few; watched = watched_is watch watched }
replay_may_begin config replayed.Statistics watch image events fits all few watched =
    record { run = record { fits = fits; events_fit = all }; few = few; watched = watched_is watch watched }
replay_may_begin config replayed.Accesses watch image events fits all few watched =
    record { run = record { fits = fits; events_fit = all }; few = few; watched = watched_is watch watched }
replay_may_begin config (replayed.States only) watch image events fits all few watched =
    states-may_begin (are_there only (length events)) config only watch image events fits all few watched

pub roll_may_begin : (config : Config) (watch : Option ℕ) (image : ImageData) (events : List Event) (controls : List Control) →
    config_fits config ≡ true → AllFit config.nodes events → length events ≤ EVENTS →
    All (λ call. control_fits config.nodes call ≡ true) controls → length controls ≤ EVENTS → watch_fits watch ≡ true →
    MayRoll (record { program = image; config = config; watch = watch; script = events; controls = controls })
roll_may_begin config watch image events controls fits all few fit short watched = record {
  run = record { fits = fits; events_fit = all };
  few = few;
  fit = fit;
  short = short;
  watched = watched_is watch watched;
}

kill-is : (nodes : ℕ) (kill : Option (ℕ × ℕ)) → kill_fits nodes kill ≡ true → IfSome kill (λ rule. rule.0 < 2 * nodes)
kill-is nodes None e = tt
kill-is nodes (Some rule) e = grind (arith, nat_tests)

kill-of_rules : (nodes : ℕ) (rules : RunRules) → run_rules_fit nodes rules ≡ true → kill_fits nodes rules.rules.kill ≡ true
kill-of_rules nodes rules e = grind arith

pub rules_are : (config : Config) (rules : RunRules) → config_fits config ≡ true → run_rules_fit config.nodes rules ≡ true →
    AreRules rules.rules config.nodes
rules_are config rules fits ruled = record {
  some = grind (arith, nat_tests);
  few = grind (arith, nat_tests);
  interval = grind (arith, nat_tests);
  wait = grind (arith, nat_tests);
  kill = kill-is config.nodes rules.rules.kill (kill-of_rules config.nodes rules ruled);
}

pub budget_is : (nodes : ℕ) (rules : RunRules) → run_rules_fit nodes rules ≡ true → rules.budget ≤ 1000000
budget_is nodes rules ruled = grind (arith, nat_tests)

pub run_may_begin : (config : Config) (rules : RunRules) (report : RunReport) (watch : Option ℕ) (image : ImageData) →
    config_fits config ≡ true → run_rules_fit config.nodes rules ≡ true → watch_fits watch ≡ true →
    MayRun (run_of config rules report watch image)
run_may_begin config rules report watch image fits ruled watched = record {
  fits = fits;
  ruled = rules_are config rules fits ruled;
  few = budget_is config.nodes rules ruled;
  watched = watched_is watch watched;
}

pub monitor_may_begin : (config : Config) (rules : RunRules) (watch : Option ℕ) (image : ImageData) →
    config_fits config ≡ true → run_rules_fit config.nodes rules ≡ true → watch_fits watch ≡ true →
    MayMonitor (monitor_of config rules watch image)
monitor_may_begin config rules watch image fits ruled watched = record {
  fits = fits;
  ruled = rules_are config rules fits ruled;
  few = budget_is config.nodes rules ruled;
  watched = watched_is watch watched;
}

-- a run in an order may begin that is read, and so may one for each seed of a range
pub ordered_may_begin : (order : Order) (scope : RunScope) (r : Run) → MayRun r → scope_fits scope ≡ true → IsRead (ordered_job scope order r)
ordered_may_begin order asked_scope.One r may fits = may
ordered_may_begin order asked_scope.Counted r may fits = may
ordered_may_begin order (asked_scope.Seeds seeds counted) r may fits = record {
  fits = may.fits;
  ruled = may.ruled;
  few = may.few;
  watched = may.watched;
  some = grind (arith, nat_tests);
  most = grind (arith, nat_tests);
}
