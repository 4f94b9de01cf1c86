use Rattle.std.proofs.Common.{◌≡◌, ◌++◌, drop}
use Rattle.run_journals.specs.Journal.{events_of}
use Rattle.seed_runs.proofs.play.events_in.Given as goal

abbrev pub invariant-entries : goal.invariant-entries
invariant-entries l = l.events.items ++ events_of (drop l.entry-index l.journal) ≡ events_of l.journal
