-- A turn keeps what a watched run keeps.
use Rattle.std.proofs.Common.{◌≡◌, ℕ, ◌+◌, ◌%◌, ◌<◌, ◌≤◌, Bool, true, false, nat_le, List, [], ◌∷◌, ◌++◌, length, map, Vec, Global}
use Rattle.std.proofs.Common.{vec_capacity, refl, sym, ap, subst, ◌∙◌, arith, length-append, append-nil}
use Rattle.std.proofs.lemmas.List.{map-append}
use Rattle.std.proofs.lemmas.Nat.{mod_below}
use Rattle.std.proofs.lemmas.Bool.Decides.{nat_tests}
use Rattle.sn_base.specs.declared.config.Config.{Config}
use Rattle.sn_base.specs.declared.event.Event.{Event}
use Rattle.sn_base.specs.declared.event.Answer.{Answer}
use Rattle.sn_model.specs.Machine.{State}
use Rattle.sn_model.specs.MachineEvents.{is_validated}
use Rattle.sn_model.specs.Step.{step_of}
use Rattle.sn_machine.specs.Machine.{MachineData, next_of}
use Rattle.sn_driver.specs.declared.turn.Turn.TheVariants as turn
use Rattle.rand_pcg.specs.Lcg.{Lcg}
use Rattle.run_journals.specs.declared.entry.JournalEntry.{JournalEntry}
use Rattle.run_journals.specs.Journal.{Began, entry_of, next_pick, state_of}
use Rattle.node_run.specs.Shared.{Did}
use Rattle.node_run.specs.Invariant.{FollowsJournal, HasRoomForRest}
use Rattle.node_run.proofs.Goes.{turn-keeps, turn-room, turn-begun}
use Rattle.snap_board.specs.Snap.{SnapData}
use Rattle.snap_board.specs.Fronts.{EndsIn}
use Rattle.sn_monitor.specs.Cut.{snap_of, snap_now}
use Rattle.sn_monitor.specs.Monitored.{MonitoredData, IsTurn}
use Rattle.sn_monitor.specs.declared.monitored.Published.{Published}
use Rattle.sn_monitor.specs.declared.monitored.Published.TheVariants.{Nothing, New}
use Rattle.monitor_run.specs.declared.turns.Turns.{Turns}
use Rattle.monitor_run.specs.declared.marks.Mark.{Mark}
use Rattle.monitor_run.specs.Seen.{published_by, mark_of}
use Rattle.monitor_run.specs.Stands.{Stands, shared_as, its_start}
use Rattle.monitor_run.proofs.Published.{added, published-snoc}
use Rattle.monitor_run.proofs.Rounds.{rounds-snoc}

-- the same run, after a turn that left this machine, this driver and these lists
module _ (m n : MonitoredData) (t : Turns) (generators : Vec Lcg Global) (journal : Vec JournalEntry Global)
    (answers : Vec Answer Global) (worker pick : ℕ) (spent : Bool) (event : Event) (answer : Answer)
    (did : Did m.driver m.machine worker pick spent event answer n.driver n.machine) (watch : n.watch ≡ m.watch) (s : Stands m t)
    (longer : journal.items ≡ t.journal.items ++ entry_of worker event ∷ []) (more : answers.items ≡ t.answers.items ++ answer ∷ [])
    (picked : pick ≡ next_pick t.seed t.journal.items worker) (whose : worker ≡ length t.journal.items % m.machine.config.nodes)
    (counted : spent ≡ nat_le t.budget (length t.journal.items)) (journal_room : vec_capacity t.journal ≤ vec_capacity journal) (answers_room : vec_capacity t.answers ≤ vec_capacity answers) where
  abbrev turned : Vec Mark Global → Turns
  turned published = record {
    generators = generators;
    journal = journal;
    answers = answers;
    published = published;
    seed = t.seed;
    budget = t.budget;
  }

  there : worker < m.machine.config.nodes
  there = subst (λ (w : ℕ). w < m.machine.config.nodes) (sym whose) (mod_below (length t.journal.items) m.machine.config.nodes s.some)

  left : length t.journal.items < t.budget
  left = let open_ = sym counted ∙ did.unspent in grind (arith, nat_tests, open_)

  pub follows : (published : Vec Mark Global) → FollowsJournal (shared_as n (turned published))
  follows published =
      turn-keeps (shared_as m t) worker event answer n.machine n.driver pick spent [] 0 journal.items answers.items longer more picked did
      s.follows there (record { rest = n.machine.state.released; whole = refl }) left

  pub room : (published : Vec Mark Global) → HasRoomForRest (shared_as n (turned published))
  room published =
      turn-room (shared_as m t) worker event answer n.machine n.driver pick spent [] 0 journal.items answers.items longer more picked did
      s.room left

  pub begun : (published : Vec Mark Global) → its_start n (turned published) ≡ its_start m t
  begun published =
      turn-begun (shared_as m t) worker event answer n.machine n.driver pick spent [] 0 journal.items answers.items longer more picked did
      (its_start m t) refl

  abbrev began : Began
  began = its_start m t

  state-is : n.machine.state ≡ (step_of began.image began.config (state_of began t.journal.items) event).state
  state-is = ap (λ (x : MachineData). x.state) did.applied.left
      ∙ ap (λ (x : State). (step_of began.image began.config x event).state) s.follows.state

  answer-is : answer ≡ (step_of began.image began.config (state_of began t.journal.items) event).answer
  answer-is = did.applied.answer ∙ ap (λ (x : State). (step_of began.image began.config x event).answer) s.follows.state

  snap-is : snap_now n.machine n.watch ≡ snap_of began.image began.config m.watch
      (step_of began.image began.config (state_of began t.journal.items) event).state
  snap-is = ap (λ (x : MachineData). snap_now x n.watch) did.applied.left
      ∙ ap (λ (w : ℕ). snap_of began.image began.config w (next_of m.machine event).state) watch
      ∙ ap (λ (x : State). snap_of began.image began.config m.watch (step_of began.image began.config x event).state) s.follows.state

  -- what is published after the turn
  adds : (b : Bool) (snaps : List SnapData) → is_validated answer ≡ b → snaps ≡ m.published ++ added b (snap_now n.machine n.watch) →
      (published : Vec Mark Global) → snaps ≡ published_by (its_start n (turned published)) n.watch journal.items
  adds b snaps is grown published =
      grown ∙ ap (λ (l : List SnapData). l ++ added b (snap_now n.machine n.watch)) s.published
      ∙ ap (λ (x : SnapData). published_by began m.watch t.journal.items ++ added b x) snap-is
      ∙ ap (λ (v : Bool). published_by began m.watch t.journal.items ++ added v (snap_of began.image began.config m.watch
      (step_of began.image began.config (state_of began t.journal.items) event).state)) (sym is ∙ ap is_validated answer-is)
      ∙ sym (published-snoc began m.watch t.journal.items worker event)
      ∙ ap (λ (l : List JournalEntry). published_by began m.watch l) (sym longer)
      ∙ ap (λ (w : ℕ). published_by began w journal.items) (sym watch)
      ∙ ap (λ (b : Began). published_by b n.watch journal.items) (sym (begun published))

  nodes-are : n.machine.config.nodes ≡ m.machine.config.nodes
  nodes-are = ap (λ (c : Config). c.nodes) did.later.config

  one-longer : length journal.items ≡ length t.journal.items + 1
  one-longer = ap (λ (l : List JournalEntry). length l) longer ∙ length-append t.journal.items (entry_of worker event ∷ [])

  stands : (published : Vec Mark Global) → n.published ≡ published_by (its_start n (turned published)) n.watch journal.items →
      published.items ≡ map mark_of n.published → length published.items ≤ length t.published.items + 1 →
      vec_capacity t.published ≤ vec_capacity published → Stands n (turned published)
  stands published is marks few room_for = record {
    follows = follows published;
    answered = ap (λ (l : List Answer). length l) more ∙ length-append t.answers.items (answer ∷ []) ∙ ap (λ (k : ℕ). k + 1) s.answered
        ∙ sym one-longer;
    room = room published;
    some = let a = s.some in omega (arith, a, nodes-are);
    rounds = rounds-snoc m.machine.config.nodes n.machine.config.nodes t.journal.items journal.items worker event nodes-are longer whose s.rounds;
    published = is;
    marks = marks;
    few = let a = s.few in omega (arith, a, few, one-longer);
    journal_room = let a = s.journal_room in omega (arith, a, journal_room);
    answers_room = let a = s.answers_room in omega (arith, a, answers_room);
    marks_room = let a = s.marks_room in omega (arith, a, room_for);
  }

  -- nothing was validated
  pub stands-same : (said : Published) → said ≡ Nothing → IsTurn m worker pick (turn.Did event answer) said n →
      Stands n (turned t.published)
  stands-same said is h =
      let took = subst (λ (x : Published). IsTurn m worker pick (turn.Did event answer) x n) is h in
      stands t.published
      (adds false n.published took.publishes.0 (took.publishes.1 ∙ sym (append-nil m.published)) t.published)
      (s.marks ∙ ap (map mark_of) (sym took.publishes.1)) (omega arith) (omega arith)

  -- a snapshot was published, and noted
  pub stands-more : (said : Published) → said ≡ New → IsTurn m worker pick (turn.Did event answer) said n → (published : Vec Mark Global) →
      ((x : SnapData) → EndsIn n.published x → published.items ≡ t.published.items ++ mark_of x ∷ []) →
      vec_capacity t.published ≤ vec_capacity published → Stands n (turned published)
  stands-more said is h published noted room_for =
      let took = subst (λ (x : Published). IsTurn m worker pick (turn.Did event answer) x n) is h in
      let snap = snap_now n.machine n.watch in
      let last = noted snap (record { before = m.published; is = took.publishes.1 }) in
      let grown = ap (λ (l : List Mark). length l) last ∙ length-append t.published.items (mark_of snap ∷ []) in
      stands published (adds true n.published took.publishes.0 took.publishes.1 published)
      (last ∙ ap (λ (l : List Mark). l ++ mark_of snap ∷ []) s.marks ∙ sym (map-append mark_of m.published (snap ∷ []))
      ∙ ap (map mark_of) (sym took.publishes.1))
      (omega (arith, grown)) room_for
