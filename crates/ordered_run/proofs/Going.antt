-- A turn keeps what a run in an order keeps.
use Rattle.std.proofs.Common.{◌≡◌, ℕ, ◌+◌, ◌<◌, ◌≤◌, Bool, nat_le, List, [], ◌∷◌, ◌++◌, length, Vec, Global, Some, vec_capacity}
use Rattle.std.proofs.Common.{refl, sym, ap, subst, ◌∙◌, arith, length-append}
use Rattle.std.proofs.lemmas.Bool.Decides.{nat_tests}
use Rattle.sn_base.specs.declared.config.Config.{Config}
use Rattle.sn_base.specs.declared.event.Event.{Event}
use Rattle.sn_base.specs.declared.event.Answer.{Answer}
use Rattle.sn_model.specs.Machine.{State}
use Rattle.sn_machine.specs.Machine.{MachineData}
use Rattle.sn_consistency.specs.Committed.{Begins}
use Rattle.rand_pcg.specs.Lcg.{Lcg}
use Rattle.due_events.specs.Numbers.{Numbers}
use Rattle.due_events.specs.Due.{due_of}
use Rattle.sn_driver.specs.Driver.{DriverData}
use Rattle.run_journals.specs.declared.entry.JournalEntry.{JournalEntry}
use Rattle.run_journals.specs.Journal.{Began, entry_of, next_pick, numbers_of}
use Rattle.run_journals.proofs.Released.{released-grows}
use Rattle.node_run.specs.Finish.{Finish}
use Rattle.node_run.specs.Shared.{Did, refusal_of}
use Rattle.node_run.specs.Invariant.{FollowsJournal, HasRoomForRest}
use Rattle.node_run.proofs.Goes.{turn-keeps, turn-room, turn-begun}
use Rattle.turn_orders.specs.declared.order.Order.{Order}
use Rattle.turn_orders.specs.Orders.{worker_of}
use Rattle.turn_orders.specs.Scheduled.{SchedulerData}
use Rattle.turn_orders.specs.Drawn.{AreDrawn}
use Rattle.ordered_run.specs.declared.course.Course.{Course}
use Rattle.ordered_run.specs.Ordered.{next_worker, due_after, journal_after}
use Rattle.ordered_run.specs.Stands.{Stands, IsReady, IsInOrder, IsNext, IsRefused, shared_as, its_start}
use Rattle.ordered_run.proofs.Orders.{ordered-snoc}

-- the same run, after a turn that left this machine, this driver, this scheduler and these lists
module _ (c : Course) (machine : MachineData) (driver : DriverData) (scheduler : SchedulerData) (generators : Vec Lcg Global)
    (journal : Vec JournalEntry Global) (answers : Vec Answer Global) (worker pick : ℕ) (spent : Bool) (event : Event) (answer : Answer)
    (did : Did c.driver c.machine worker pick spent event answer driver machine) (s : Stands c) (r : IsReady c)
    (longer : journal.items ≡ c.journal.items ++ entry_of worker event ∷ []) (more : answers.items ≡ c.answers.items ++ answer ∷ [])
    (picked : pick ≡ next_pick c.seed c.journal.items worker)
    (whose : worker ≡ worker_of c.scheduler.order c.scheduler.seed c.scheduler.workers c.scheduler.had) (below : worker < c.scheduler.workers)
    (gone : scheduler ≡ record c.scheduler { had = c.scheduler.had + 1 }) (counted : spent ≡ nat_le c.budget (length c.journal.items))
    (journal_room : vec_capacity c.journal ≤ vec_capacity journal) (answers_room : vec_capacity c.answers ≤ vec_capacity answers) where
  abbrev turned : Course
  turned = record {
    machine = machine;
    driver = driver;
    scheduler = scheduler;
    generators = generators;
    journal = journal;
    answers = answers;
    seed = c.seed;
    budget = c.budget;
  }

  abbrev began : Began
  began = its_start c

  there : worker < c.machine.config.nodes
  there = omega (arith, below, r.workers)

  left : length c.journal.items < c.budget
  left = let open_ = sym counted ∙ did.unspent in grind (arith, nat_tests, open_)

  follows : FollowsJournal (shared_as turned)
  follows =
      turn-keeps (shared_as c) worker event answer machine driver pick spent [] 0 journal.items answers.items longer more picked did
      s.follows there (record { rest = machine.state.released; whole = refl }) left

  room : HasRoomForRest (shared_as turned)
  room =
      turn-room (shared_as c) worker event answer machine driver pick spent [] 0 journal.items answers.items longer more picked did s.room left

  begun : its_start turned ≡ began
  begun =
      turn-begun (shared_as c) worker event answer machine driver pick spent [] 0 journal.items answers.items longer more picked did began refl

  in_order : scheduler.order ≡ c.scheduler.order
  in_order = ap (λ (d : SchedulerData). d.order) gone

  its-turn : worker ≡ next_worker c.scheduler.order began c.journal.items
  its-turn =
      whose ∙ ap (λ (n : ℕ). worker_of c.scheduler.order n c.scheduler.workers c.scheduler.had) r.seed
      ∙ ap (λ (n : ℕ). worker_of c.scheduler.order c.seed n c.scheduler.had) r.workers
      ∙ ap (λ (n : ℕ). worker_of c.scheduler.order c.seed c.machine.config.nodes n) r.had

  due : due_after began c.journal.items worker ≡ Some event
  due =
      ap (λ (x : State). due_of began.rules began.image began.config x (numbers_of began c.journal.items) worker
      (next_pick c.seed c.journal.items worker)) (sym s.follows.state)
      ∙ ap (λ (x : Numbers). due_of began.rules began.image began.config c.machine.state x worker (next_pick c.seed c.journal.items worker))
      (sym s.follows.numbers)
      ∙ ap (λ (n : ℕ). due_of began.rules began.image began.config c.machine.state c.driver.numbers worker n) (sym picked)
      ∙ did.due

  ordered : IsInOrder turned
  ordered =
      ordered-snoc c.scheduler.order began c.journal.items journal.items worker event s.ordered its-turn due longer
      ∙ ap (λ (o : Order). journal_after o began (length journal.items)) (sym in_order)
      ∙ ap (λ (b : Began). journal_after scheduler.order b (length journal.items)) (sym begun)

  nodes-are : machine.config.nodes ≡ c.machine.config.nodes
  nodes-are = ap (λ (k : Config). k.nodes) did.later.config

  one-longer : length journal.items ≡ length c.journal.items + 1
  one-longer = ap (λ (l : List JournalEntry). length l) longer ∙ length-append c.journal.items (entry_of worker event ∷ [])

  stands-next : Stands turned
  stands-next = record {
    follows = follows;
    answered = ap (λ (l : List Answer). length l) more ∙ length-append c.answers.items (answer ∷ []) ∙ ap (λ (k : ℕ). k + 1) s.answered
        ∙ sym one-longer;
    room = room;
    some = let a = s.some in omega (arith, a, nodes-are);
    ordered = ordered;
    journal_room = let a = s.journal_room in omega (arith, a, journal_room);
    answers_room = let a = s.answers_room in omega (arith, a, answers_room);
  }

  ready-next : AreDrawn c.seed (c.journal.items ++ entry_of worker event ∷ []) generators.items →
      length generators.items ≡ length c.generators.items → IsReady turned
  ready-next drawn count = record {
    seed = ap (λ (d : SchedulerData). d.seed) gone ∙ r.seed;
    workers = ap (λ (d : SchedulerData). d.workers) gone ∙ r.workers ∙ sym nodes-are;
    had = ap (λ (d : SchedulerData). d.had) gone ∙ ap (λ (n : ℕ). n + 1) r.had ∙ sym one-longer;
    drawn = subst (λ (l : List JournalEntry). AreDrawn c.seed l generators.items) (sym longer) drawn;
    drawers = count ∙ r.drawers ∙ sym nodes-are;
  }

  pub turn-next : AreDrawn c.seed (c.journal.items ++ entry_of worker event ∷ []) generators.items →
      length generators.items ≡ length c.generators.items → IsNext c turned
  turn-next drawn count = record {
    stands = stands-next;
    ready = ready-next drawn count;
    more = one-longer;
    grows = subst (λ (m : MachineData). Begins c.machine.state.released m.state.released) (sym did.applied.left)
        (released-grows c.machine.image c.machine.config c.machine.state event);
    same = record { start = begun; order = in_order };
  }

-- the same run, after a turn that was refused
module _ (c : Course) (machine : MachineData) (driver : DriverData) (scheduler : SchedulerData) (generators : Vec Lcg Global) (same_driver : driver ≡ c.driver) (same_machine : machine ≡ c.machine) (gone : scheduler ≡ record c.scheduler { had = c.scheduler.had + 1 }) where
  abbrev refused_turn : MachineData → DriverData → Course
  refused_turn m d = record {
    machine = m;
    driver = d;
    scheduler = scheduler;
    generators = generators;
    journal = c.journal;
    answers = c.answers;
    seed = c.seed;
    budget = c.budget;
  }

  kept_order : scheduler.order ≡ c.scheduler.order
  kept_order = ap (λ (d : SchedulerData). d.order) gone

  stands-same : Stands c → Stands (refused_turn c.machine c.driver)
  stands-same s = record {
    follows = s.follows;
    answered = s.answered;
    room = s.room;
    some = s.some;
    ordered = s.ordered ∙ ap (λ (o : Order). journal_after o (its_start c) (length c.journal.items)) (sym kept_order);
    journal_room = s.journal_room;
    answers_room = s.answers_room;
  }

  begun_so : its_start (refused_turn machine driver) ≡ its_start c
  begun_so =
      ap (λ (m : MachineData). its_start (refused_turn m driver)) same_machine
      ∙ ap (λ (d : DriverData). its_start (refused_turn c.machine d)) same_driver

  pub turn-refused : Stands c → (spent : Bool) (found : Finish) → spent ≡ nat_le c.budget (length c.journal.items) →
      refusal_of c.driver c.machine spent ≡ Some found → IsRefused c (refused_turn machine driver) found
  turn-refused s spent found counted is = record {
    stands = subst (λ (m : MachineData). Stands (refused_turn m driver)) (sym same_machine)
        (subst (λ (d : DriverData). Stands (refused_turn c.machine d)) (sym same_driver) (stands-same s));
    machine = same_machine;
    refusal = ap (λ (m : MachineData). refusal_of driver m (nat_le c.budget (length c.journal.items))) same_machine
        ∙ ap (λ (d : DriverData). refusal_of d c.machine (nat_le c.budget (length c.journal.items))) same_driver
        ∙ ap (λ (b : Bool). refusal_of c.driver c.machine b) (sym counted) ∙ is;
    same = record { start = begun_so; order = kept_order };
  }
