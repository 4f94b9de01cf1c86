-- A turn keeps what the lock keeps.
use Rattle.std.proofs.Common.{◌≡◌, ℕ, ◌+◌, ◌-◌, ◌<◌, Bool, List, [], ◌∷◌, ◌++◌, length, Some, sym, ap, subst, ◌∙◌, arith, length-append}
use Rattle.std.proofs.lemmas.List.Elements.{All-push}
use Rattle.sn_base.specs.declared.event.Event.{Event}
use Rattle.sn_base.specs.declared.event.Answer.{Answer}
use Rattle.sn_model.specs.Machine.{State}
use Rattle.sn_model.specs.Step.{step_of}
use Rattle.run_journals.specs.ConsistentCutsRuns.{AllFit}
use Rattle.run_journals.specs.Machine.{MachineData, IsApplied, next_of}
use Rattle.run_journals.specs.Numbers.{Numbers, numbers_after}
use Rattle.run_journals.specs.Due.{due_of}
use Rattle.sn_driver.specs.Driver.{DriverData}
use Rattle.sn_driver.specs.Turns.{due_at}
use Rattle.sn_console.specs.Handed.{IsFirstOf}
use Rattle.sn_console.proofs.FirstOf.{IsFirstOf-trans}
use Rattle.run_journals.specs.declared.entry.JournalEntry.{JournalEntry}
use Rattle.run_journals.specs.Journal.{Began, entry_of, events_of, next_pick, state_of, answers_of, numbers_of}
use Rattle.run_journals.proofs.Folds.{events_of-snoc, state_of-snoc, answers_of-snoc, numbers_of-snoc}
use Rattle.run_journals.proofs.Dues.{IsDue-snoc}
use Rattle.run_journals.proofs.Released.{released-grows}
use Rattle.shared_machine.specs.Shared.{LockedData, began_with, Did}
use Rattle.shared_machine.specs.Invariant.{FollowsJournal, HasRoomForRest}
use Rattle.shared_machine.proofs.Fits.{due-fits, all_fit-push}

-- the locked value after a turn that left this machine and this driver
abbrev pub after_turn : LockedData → ℕ → Event → Answer → MachineData → DriverData → List ℕ → ℕ → LockedData
after_turn s worker event answer machine driver passes frees = record s {
  machine = machine;
  driver = driver;
  journal = s.journal ++ entry_of worker event ∷ [];
  answers = s.answers ++ answer ∷ [];
  passed = passes;
  free = frees;
}

module _ (s : LockedData) (worker : ℕ) (event : Event) (answer : Answer) (passes : List ℕ) (frees : ℕ) where
  abbrev machine_next : MachineData
  machine_next = record s.machine {
    state = (next_of s.machine event).state;
    sent = (next_of s.machine event).sent;
    applied = s.machine.applied + 1;
    spare = s.machine.spare - 1;
  }

  abbrev driver_next : DriverData
  driver_next = record s.driver { numbers = numbers_after s.driver.numbers event answer }

  abbrev b : Began
  b = began_with s

  abbrev step_at : State → Answer
  step_at x = (step_of b.image b.config x event).answer

  keeps : FollowsJournal s → worker < s.machine.config.nodes → due_at s.driver s.machine worker (next_pick s.seed s.journal worker) ≡ Some event →
      answer ≡ (next_of s.machine event).answer →
      IsFirstOf passes machine_next.state.released → length s.journal < s.budget →
      FollowsJournal (after_turn s worker event answer machine_next driver_next passes frees)
  keeps kept there due said first left =
      let grown = length-append s.journal (entry_of worker event ∷ []) in
      let answered : answer ≡ step_at (state_of b s.journal) = said ∙ ap step_at kept.state in record {
        state = ap (λ (x : State). (step_of b.image b.config x event).state) kept.state ∙ sym (state_of-snoc b s.journal worker event);
        answers = ap (λ (l : List Answer). l ++ answer ∷ []) kept.answers ∙ ap (λ (a : Answer). answers_of b s.journal ++ a ∷ []) answered
            ∙ sym (answers_of-snoc b s.journal worker event);
        numbers =
            ap (λ (x : Numbers). numbers_after x event answer) kept.numbers
            ∙ ap (λ (a : Answer). numbers_after (numbers_of b s.journal) event a) answered
            ∙ sym (numbers_of-snoc b s.journal worker event);
        due = IsDue-snoc b s.journal worker event kept.due
            (ap (λ (x : State). due_of b.rules b.image b.config x (numbers_of b s.journal) worker (next_pick s.seed s.journal worker))
            (sym kept.state)
            ∙ ap (λ (x : Numbers). due_of b.rules b.image b.config s.machine.state x worker (next_pick s.seed s.journal worker))
            (sym kept.numbers)
            ∙ due);
        workers =
            All-push (λ (e : JournalEntry). e.worker < s.machine.config.nodes) s.journal (entry_of worker event) kept.workers there;
        fit = λ ruled. subst (AllFit s.machine.config.nodes) (sym (events_of-snoc s.journal (entry_of worker event)))
            (all_fit-push s.machine.config.nodes (events_of s.journal) event (kept.fit ruled)
            (due-fits s.driver.rules s.machine.image s.machine.config s.machine.state s.driver.numbers worker
            (next_pick s.seed s.journal worker) event ruled there due));
        applied = omega (arith, grown, kept.applied);
        few = omega (arith, grown, left);
        passed = first;
      }

  pub kept-next : (machine : MachineData) (driver : DriverData) (spent : Bool) → FollowsJournal s → worker < s.machine.config.nodes →
      Did s.driver s.machine worker (next_pick s.seed s.journal worker) spent event answer driver machine →
      IsFirstOf passes machine.state.released →
      length s.journal < s.budget → FollowsJournal (after_turn s worker event answer machine driver passes frees)
  kept-next machine driver spent kept there did first left =
      let here = keeps kept there did.due did.applied.answer
      (subst (λ (m : MachineData). IsFirstOf passes m.state.released) did.applied.left first) left in
      subst (λ (m : MachineData). FollowsJournal (after_turn s worker event answer m driver passes frees)) (sym did.applied.left)
      (subst (λ (d : DriverData). FollowsJournal (after_turn s worker event answer machine_next d passes frees)) (sym did.counted) here)

  pub room-next : (machine : MachineData) (driver : DriverData) (spent : Bool) → HasRoomForRest s → length s.journal < s.budget →
      Did s.driver s.machine worker (next_pick s.seed s.journal worker) spent event answer driver machine →
      HasRoomForRest (after_turn s worker event answer machine driver passes frees)
  room-next machine driver spent room more did =
      let grown = length-append s.journal (entry_of worker event ∷ []) in
      let spare : machine.spare ≡ s.machine.spare - 1 = ap (λ (m : MachineData). m.spare) did.applied.left in
      record {
        nodes = did.later.nodes ∙ room.nodes ∙ ap (λ c. c.nodes) (sym did.later.config);
        budget = room.budget;
        spare = omega (arith, grown, spare, room.spare, more);
        done = omega (arith, grown, did.later.done, room.done);
      }

-- what was passed on is still the first of what is released
pub passed-next : (m after : MachineData) (event : Event) (answer : Answer) (passes : List ℕ) → IsApplied m after event answer →
    IsFirstOf passes m.state.released → IsFirstOf passes after.state.released
passed-next m after event answer passes applied first =
    let grown = released-grows m.image m.config m.state event in
    let there : IsFirstOf passes (next_of m event).state.released =
    IsFirstOf-trans passes m.state.released (next_of m event).state.released first (record { rest = grown.more; whole = sym grown.is }) in
    subst (λ (t : MachineData). IsFirstOf passes t.state.released) (sym applied.left) there

-- the same, where the new lists are known by what they are
module _ (s : LockedData) (worker : ℕ) (event : Event) (answer : Answer) (machine : MachineData) (driver : DriverData) (pick : ℕ)
    (spent : Bool) (passes : List ℕ) (frees : ℕ) (journal : List JournalEntry) (answers : List Answer)
    (longer : journal ≡ s.journal ++ entry_of worker event ∷ []) (more : answers ≡ s.answers ++ answer ∷ [])
    (picked : pick ≡ next_pick s.seed s.journal worker) (did : Did s.driver s.machine worker pick spent event answer driver machine) where
  abbrev turned : LockedData
  turned = record s { machine = machine; driver = driver; journal = journal; answers = answers; passed = passes; free = frees }

  by_pick : Did s.driver s.machine worker (next_pick s.seed s.journal worker) spent event answer driver machine
  by_pick = subst (λ (p : ℕ). Did s.driver s.machine worker p spent event answer driver machine) picked did

  pub turn-keeps : FollowsJournal s → worker < s.machine.config.nodes → IsFirstOf passes machine.state.released → length s.journal < s.budget →
      FollowsJournal turned
  turn-keeps kept there first left =
      subst (λ (l : List JournalEntry). FollowsJournal (record turned { journal = l })) (sym longer)
      (subst (λ (l : List Answer). FollowsJournal (record turned { journal = s.journal ++ entry_of worker event ∷ []; answers = l })) (sym more)
      (kept-next s worker event answer passes frees machine driver spent kept there by_pick first left))

  pub turn-room : HasRoomForRest s → length s.journal < s.budget → HasRoomForRest turned
  turn-room room left =
      subst (λ (l : List JournalEntry). HasRoomForRest (record turned { journal = l })) (sym longer)
      (subst (λ (l : List Answer). HasRoomForRest (record turned { journal = s.journal ++ entry_of worker event ∷ []; answers = l })) (sym more)
      (room-next s worker event answer passes frees machine driver spent room left by_pick))

  pub turn-lengths : length s.answers ≡ length s.journal → length answers ≡ length journal
  turn-lengths same =
      ap (λ (l : List Answer). length l) more ∙ length-append s.answers (answer ∷ []) ∙ ap (λ (n : ℕ). n + 1) same
      ∙ sym (length-append s.journal (entry_of worker event ∷ [])) ∙ sym (ap (λ (l : List JournalEntry). length l) longer)

  pub turn-count : (total grown : ℕ) → length s.journal ≡ total → grown ≡ total + 1 → length journal ≡ grown
  turn-count total grown was is =
      ap (λ (l : List JournalEntry). length l) longer ∙ length-append s.journal (entry_of worker event ∷ []) ∙ ap (λ (n : ℕ). n + 1) was ∙ sym is

  pub turn-sizes : machine.config ≡ s.machine.config
  turn-sizes = did.later.config

  pub turn-begun : (began : Began) → began_with s ≡ began → began_with turned ≡ began
  turn-begun began same =
      ap (λ (m : MachineData). began_with (record turned { machine = m })) did.applied.left
      ∙ ap (λ (d : DriverData). began_with (record s { driver = d })) did.counted ∙ same
