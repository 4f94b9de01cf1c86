-- A watched run before its first turn.
use Rattle.std.proofs.Common.{◌≡◌, ℕ, ◌+◌, ◌<◌, ◌≤◌, true, false, List, [], ◌∷◌, length, Vec, Global, vec_capacity, refl, sym, ap, ◌∙◌, arith}
use Rattle.std.proofs.lemmas.Bool.Decides.{nat_tests}
use Rattle.std.proofs.lemmas.List.Elements.{All-nil}
use Rattle.std.specs.Prelude.{Option, Some, None}
use Rattle.sn_base.specs.Config.{config_fits}
use Rattle.sn_base.specs.declared.event.Answer.{Answer}
use Rattle.rand_pcg.specs.Lcg.{Lcg}
use Rattle.sn_model.specs.Machine.{State, start_of}
use Rattle.sn_machine.specs.Machine.{MachineData}
use Rattle.due_events.specs.Numbers.{Numbers, first_numbers}
use Rattle.sn_driver.specs.Driver.{DriverData}
use Rattle.run_journals.specs.declared.entry.JournalEntry.{JournalEntry}
use Rattle.run_journals.specs.Journal.{IsDue, state_of, answers_of, numbers_of, draws_of}
use Rattle.node_run.specs.Shared.{LockedData, began_with}
use Rattle.node_run.specs.Invariant.{FollowsJournal}
use Rattle.sn_monitor.specs.Cut.{snap_of, snap_now}
use Rattle.sn_monitor.specs.Goes as one
use Rattle.script_replay.specs.Played.{IsWatchable}
use Rattle.snap_board.specs.Watching.{BoardId}
use Rattle.sn_monitor.specs.Monitored.{first_monitored}
use Rattle.monitor_run.specs.declared.marks.Mark.{Mark}
use Rattle.monitor_run.specs.Seen.{published_by, mark_of}
use Rattle.monitor_run.specs.Shown.{watched_word}
use Rattle.monitor_run.specs.Stands.{Stands}
use Rattle.monitor_run.proofs.Rounds.{rounds-none}

-- the word that the snapshots have is one of memory
pub word-watched : (watch : Option ℕ) → IsWatchable watch → one.IsWatchable (watched_word watch)
word-watched None h = record { low = omega arith; high = omega arith; aligned = refl }
word-watched (Some address) h = record { low = h.low; high = h.high; aligned = h.aligned }

module _ (m : MachineData) (driver : DriverData) (watch seed budget : ℕ) (applied : m.applied ≡ 0) (start : m.state ≡ start_of m.image m.config.nodes) (nodes : driver.nodes ≡ m.config.nodes) (numbers : driver.numbers ≡ first_numbers) (room : budget + 1 ≤ m.spare) (few : budget ≤ 1000000) (sizes : config_fits m.config ≡ true) where
  abbrev first : List JournalEntry → List Answer → LockedData
  first journal answers = record {
    machine = m;
    driver = driver;
    seed = seed;
    budget = budget;
    journal = journal;
    answers = answers;
    passed = [];
    free = 0;
    stopped = false;
  }

  kept-first : FollowsJournal (first [] [])
  unfolding IsDue state_of answers_of numbers_of draws_of
  kept-first = record {
    state = start;
    answers = refl;
    numbers = numbers;
    due = refl;
    workers = All-nil (λ (e : JournalEntry). e.worker < m.config.nodes);
    fit = λ ruled. tt;
    applied = applied;
    few = omega arith;
    passed = record { rest = m.state.released; whole = refl };
  }

  kept-start : (journal : List JournalEntry) (answers : List Answer) → journal ≡ [] → answers ≡ [] → FollowsJournal (first journal answers)
  kept-start journal answers no_entry no_answer = rw (no_entry, no_answer) kept-first

  published-first : snap_now m watch ∷ [] ≡ published_by (began_with (first [] [])) watch []
  unfolding published_by
  published-first = ap (λ (s : State). snap_of m.image m.config watch s ∷ []) start

  some : 0 < m.config.nodes
  some = grind (arith, nat_tests, sizes)

  pub stands-first : (board : BoardId) (generators : Vec Lcg Global) (journal : Vec JournalEntry Global) (answers : Vec Answer Global) (published : Vec Mark Global) →
      journal.items ≡ [] → answers.items ≡ [] → published.items ≡ mark_of (snap_now m watch) ∷ [] → budget ≤ vec_capacity journal →
      budget ≤ vec_capacity answers → budget + 1 ≤ vec_capacity published → Stands (first_monitored m driver watch board) (record {
        generators = generators;
        journal = journal;
        answers = answers;
        published = published;
        seed = seed;
        budget = budget;
      })
  stands-first board generators journal answers published no_entry no_answer noted journal_room answers_room marks_room =
      let none : length journal.items ≡ 0 = ap (λ (l : List JournalEntry). length l) no_entry in
      let unanswered : length answers.items ≡ 0 = ap (λ (l : List Answer). length l) no_answer in
      let one : length published.items ≡ 1 = ap (λ (l : List Mark). length l) noted in
      let done : driver.numbers.done ≡ 0 = ap (λ (x : Numbers). x.done) numbers in record {
        follows = kept-start journal.items answers.items no_entry no_answer;
        answered = unanswered ∙ sym none;
        room = record { nodes = nodes; budget = few; spare = omega (arith, room, none); done = omega (arith, done) };
        some = some;
        rounds = rounds-none m.config.nodes journal.items none;
        published = published-first ∙ ap (λ (l : List JournalEntry). published_by (began_with (first [] [])) watch l) (sym no_entry);
        marks = noted;
        few = omega (arith, one);
        journal_room = journal_room;
        answers_room = answers_room;
        marks_room = marks_room;
      }
