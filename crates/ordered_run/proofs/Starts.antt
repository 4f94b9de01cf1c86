-- A run in an order before its first turn.
use Rattle.std.proofs.Common.{◌≡◌, ℕ, ◌+◌, ◌<◌, ◌≤◌, true, false, List, [], length, Vec, Global, vec_capacity, refl, sym, ap, subst, ◌∙◌, arith}
use Rattle.std.proofs.lemmas.Bool.Decides.{nat_tests}
use Rattle.std.proofs.lemmas.List.Elements.{All-nil}
use Rattle.sn_base.specs.declared.limits.TheConstants.{EVENTS}
use Rattle.sn_base.specs.Config.{config_fits}
use Rattle.sn_base.specs.declared.event.Answer.{Answer}
use Rattle.rand_pcg.specs.Lcg.{Lcg}
use Rattle.sn_model.specs.Machine.{start_of}
use Rattle.sn_machine.specs.Machine.{MachineData}
use Rattle.due_events.specs.Numbers.{Numbers, first_numbers}
use Rattle.sn_driver.specs.Driver.{DriverData}
use Rattle.run_journals.specs.declared.entry.JournalEntry.{JournalEntry}
use Rattle.run_journals.specs.Journal.{IsDue, state_of, answers_of, numbers_of, draws_of}
use Rattle.node_run.specs.Shared.{LockedData}
use Rattle.node_run.specs.Invariant.{FollowsJournal}
use Rattle.turn_orders.specs.Scheduled.{SchedulerData}
use Rattle.turn_orders.specs.Drawn.{AreDrawn}
use Rattle.ordered_run.specs.declared.course.Course.{Course}
use Rattle.ordered_run.specs.Stands.{Stands, IsReady}
use Rattle.ordered_run.proofs.Orders.{ordered-none}

module _ (m : MachineData) (driver : DriverData) (scheduler : SchedulerData) (generators : Vec Lcg Global) (journal : Vec JournalEntry Global) (answers : Vec Answer Global) (seed budget : ℕ) (no_entry : journal.items ≡ []) (no_answer : answers.items ≡ []) (nodes : driver.nodes ≡ m.config.nodes) where
  abbrev first : List JournalEntry → List Answer → LockedData
  first entries said = record {
    machine = m;
    driver = driver;
    seed = seed;
    budget = budget;
    journal = entries;
    answers = said;
    passed = [];
    free = 0;
    stopped = false;
  }

  abbrev begun : Course
  begun = record {
    machine = m;
    driver = driver;
    scheduler = scheduler;
    generators = generators;
    journal = journal;
    answers = answers;
    seed = seed;
    budget = budget;
  }

  none : length journal.items ≡ 0
  none = ap (λ (l : List JournalEntry). length l) no_entry

  module _ (applied : m.applied ≡ 0) (start : m.state ≡ start_of m.image m.config.nodes) (numbers : driver.numbers ≡ first_numbers) (room : budget + 1 ≤ m.spare) (few : budget ≤ EVENTS) (sizes : config_fits m.config ≡ true) where
    kept-first : FollowsJournal (first [] [])
    unfolding IsDue state_of answers_of numbers_of draws_of
    kept-first = record {
      state = start;
      answers = refl;
      numbers = numbers;
      due = refl;
      workers = All-nil (λ (e : JournalEntry). e.worker < m.config.nodes);
      fit = λ ruled. tt;
      applied = applied;
      few = omega arith;
      passed = record { rest = m.state.released; whole = refl };
    }

    kept-start : (entries : List JournalEntry) (said : List Answer) → entries ≡ [] → said ≡ [] → FollowsJournal (first entries said)
    kept-start entries said no_entries none_said = rw (no_entries, none_said) kept-first

    pub stands-first : budget ≤ vec_capacity journal → budget ≤ vec_capacity answers → Stands begun
    stands-first journal_room answers_room =
        let unanswered : length answers.items ≡ 0 = ap (λ (l : List Answer). length l) no_answer in
        let done : driver.numbers.done ≡ 0 = ap (λ (x : Numbers). x.done) numbers in record {
          follows = kept-start journal.items answers.items no_entry no_answer;
          answered = unanswered ∙ sym none;
          room = record { nodes = nodes; budget = few; spare = omega (arith, room, none); done = omega (arith, done) };
          some = grind (arith, nat_tests, sizes);
          ordered = ordered-none scheduler.order _ journal.items no_entry;
          journal_room = journal_room;
          answers_room = answers_room;
        }

  pub ready-first : scheduler.seed ≡ seed → scheduler.workers ≡ m.config.nodes → scheduler.had ≡ 0 →
      AreDrawn seed [] generators.items → length generators.items ≡ m.config.nodes → IsReady begun
  ready-first seeded workers had drawn drawers = record {
    seed = seeded;
    workers = workers;
    had = had ∙ sym none;
    drawn = subst (λ (l : List JournalEntry). AreDrawn seed l generators.items) (sym no_entry) drawn;
    drawers = drawers;
  }
