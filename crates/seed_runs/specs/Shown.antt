-- What the sinks show of a run with its statistics, and of the runs of a range of seeds.
use Rattle.std.specs.Prelude.{◌≡◌, ℕ, ◌+◌, ◌<◌, ◌≤◌, true, List, [], Some}
use Rattle.sn_base.specs.Config.{config_fits}
use Rattle.sn_base.specs.Rules.{AreRules}
use Rattle.sn_base.specs.declared.limits.TheConstants.{EVENTS}
use Rattle.sn_io.specs.Outside.{followed_by}
use Rattle.sn_probe.specs.Probes.{Meter}
use Rattle.sink_pieces.specs.Pieces.{Ends, after, Breaks}
use Rattle.script_replay.specs.Played.{IsWatchable}
use Rattle.script_replay.specs.Shown.{IsLawful}
use Rattle.run_journals.specs.declared.entry.JournalEntry.{JournalEntry}
use Rattle.run_journals.specs.Journal.{events_of, state_of}
use Rattle.ordered_run.specs.Ending.{Ending}
use Rattle.ordered_run.specs.Run.{Run}
use Rattle.ordered_run.specs.Endings.{ending_of}
use Rattle.ordered_run.specs.Pieces.{begins}
use Rattle.ordered_run.specs.NodeRunShown.{IsJournal, IsReplayedSo, KnowAll, output_by}
use Rattle.turn_orders.specs.declared.order.Order.{Order}
use Rattle.ordered_run.specs.Ordered.{ordered_journal, ordered_end}
use Rattle.seed_runs.specs.declared.job.SeedRuns.{SeedRuns}
use Rattle.option_values.specs.declared.seeds.TheConstants.{MOST_SEEDS}
use Rattle.seed_runs.specs.Pieces.{counted_pieces, run_of, seeds_pieces, seeds_in, pieces_due}

-- a range that may be run: its sizes fit, its rules are ones for so many nodes, a run has at most a million events and watches a word
-- of memory, and there is a seed at least and a million at most
pub record MayBegin (r : SeedRuns) : Type 0 where
  pub fits : config_fits r.config ≡ true
  pub ruled : AreRules r.rules r.config.nodes
  pub few : r.budget ≤ EVENTS
  pub watched : IsWatchable r.watch
  pub some : r.first ≤ r.last
  pub most : r.last < r.first + MOST_SEEDS

-- what is so of a run in an order, whatever is put of it: its journal is one of its workers, whose events were due and fit the machine,
-- and no longer than its budget; it has an end; at every moment the recovery point was a consistent cut; what is released is the
-- output of its committed trace; and a replay of its events puts that and the same summary
pub record IsLawfulRun (order : Order) (r : Run) (probes : List Meter) : Type 0 where
  pub journal_is : IsJournal r (ordered_journal order (begins r))
  pub ending : Ending
  pub ended : ordered_end order (begins r) ≡ Some ending
  pub lawful : IsLawful r.program r.config (events_of (ordered_journal order (begins r)))
  pub output : (state_of (begins r) (ordered_journal order (begins r))).released ≡ output_by r (ordered_journal order (begins r))
  pub replayed : IsReplayedSo r probes (ordered_journal order (begins r))

-- a run came to its end with the order's journal, and all is put, and its statistics after it
pub record IsDoneCounted (order : Order) (r : Run) (probes : List Meter) (ending : Ending) (before behind : Ends) (told : List Meter) : Type 0 where
  pub ended : ordered_end order (begins r) ≡ Some ending
  pub put : behind ≡ after before (counted_pieces r probes (ordered_journal order (begins r)))
  pub output : behind.console ≡ followed_by before.console (output_by r (ordered_journal order (begins r)))
  pub lawful : IsLawfulRun order r probes
  pub know : KnowAll r (ordered_journal order (begins r)) probes told

-- it came to its end so, and a sink broke
pub record IsBrokenCounted (order : Order) (r : Run) (probes : List Meter) (before behind : Ends) (told : List Meter) : Type 0 where
  pub broken : Breaks (counted_pieces r probes (ordered_journal order (begins r))) before behind
  pub lawful : IsLawfulRun order r probes
  pub know : KnowAll r (ordered_journal order (begins r)) probes told

-- the same of a run with this journal, which ends so
pub record IsLawfulWith (r : Run) (journal : List JournalEntry) (probes : List Meter) (ending : Ending) : Type 0 where
  pub journal_is : IsJournal r journal
  pub ended : ending_of (begins r) journal ≡ Some ending
  pub lawful : IsLawful r.program r.config (events_of journal)
  pub output : (state_of (begins r) journal).released ≡ output_by r journal
  pub replayed : IsReplayedSo r probes journal

-- a run came to its end with this journal, and all is put, and its statistics after it
pub record IsCountedWith (r : Run) (journal : List JournalEntry) (probes : List Meter) (ending : Ending) (before behind : Ends) (told : List Meter) : Type 0 where
  pub put : behind ≡ after before (counted_pieces r probes journal)
  pub output : behind.console ≡ followed_by before.console (output_by r journal)
  pub lawful : IsLawfulWith r journal probes ending
  pub know : KnowAll r journal probes told

-- it came to its end so, and a sink broke
pub record IsCountedInPart (r : Run) (journal : List JournalEntry) (probes : List Meter) (before behind : Ends) (told : List Meter) : Type 0 where
  pub ending : Ending
  pub broken : Breaks (counted_pieces r probes journal) before behind
  pub lawful : IsLawfulWith r journal probes ending
  pub know : KnowAll r journal probes told

-- the same of a run by threads: with some journal
abbrev pub IsCountedByThreads : Run → List Meter → Ending → Ends → Ends → List Meter → Type 0
IsCountedByThreads r probes ending before behind told =
    (journal : List JournalEntry) × IsCountedWith r journal probes ending before behind told

abbrev pub IsBrokenByThreads : Run → List Meter → Ends → Ends → List Meter → Type 0
IsBrokenByThreads r probes before behind told =
    (journal : List JournalEntry) × IsCountedInPart r journal probes before behind told

-- the run of each seed is lawful so in its order
abbrev pub AreLawful : SeedRuns → Type 0
AreLawful r = (seed : ℕ) → IsLawfulRun r.order (run_of r seed) []

-- the blocks of all seeds are put
pub record AreShown (r : SeedRuns) (before behind : Ends) : Type 0 where
  pub put : behind ≡ after before (pieces_due r)
  pub lawful : AreLawful r

-- a sink broke in one of them
pub record AreBrokenOff (r : SeedRuns) (before behind : Ends) : Type 0 where
  pub broken : Breaks (pieces_due r) before behind
  pub lawful : AreLawful r

-- memory was wanted for the run of a seed, before which there are so many in the range: their blocks are put whole, and nothing else
pub record AreLeftOff (r : SeedRuns) (before behind : Ends) : Type 0 where
  pub done : ℕ
  pub few : done < seeds_in r
  pub put : behind ≡ after before (seeds_pieces r r.first done)
  pub lawful : AreLawful r
