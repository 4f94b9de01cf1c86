-- What the lock keeps at the run's start.
use Rattle.std.proofs.Common.{◌≡◌, ℕ, ◌<◌, List, [], length, refl, ap, arith}
use Rattle.std.proofs.lemmas.List.Elements.{All-nil}
use Rattle.sn_base.specs.declared.event.Answer.{Answer}
use Rattle.run_journals.specs.Numbers.{Numbers}
use Rattle.run_journals.specs.declared.entry.JournalEntry.{JournalEntry}
use Rattle.run_journals.specs.Journal.{IsDue, state_of, answers_of, numbers_of, draws_of}
use Rattle.shared_machine.specs.declared.picker.Picker.{Picker}
use Rattle.shared_machine.specs.Shared.{SharedData, LockedData, first_locked}
use Rattle.shared_machine.specs.Invariant.{FollowsJournal, HasRoomForRest, CanBegin}

module _ (s : SharedData) (pickers : List Picker) (free : ℕ) (ready : CanBegin s pickers) where
  pub kept-first : FollowsJournal (first_locked free s)
  unfolding IsDue state_of answers_of numbers_of draws_of
  kept-first = record {
    state = ready.state;
    answers = refl;
    numbers = ready.numbers;
    due = refl;
    workers = All-nil (λ (e : JournalEntry). e.worker < s.machine.config.nodes);
    fit = λ ruled. tt;
    applied = ready.applied;
    few = omega arith;
    passed = record { rest = s.machine.state.released; whole = refl };
  }

  pub room-first : HasRoomForRest (first_locked free s)
  room-first =
      let done : s.driver.numbers.done ≡ 0 = ap (λ (x : Numbers). x.done) ready.numbers in
      record { nodes = ready.nodes; budget = ready.budget; spare = omega (arith, ready.spare); done = omega (arith, done) }

  -- the same, where the lists are known to be empty
  module _ (journal : List JournalEntry) (answers : List Answer) (passes : List ℕ) where
    abbrev begun : LockedData
    begun = record (first_locked free s) { journal = journal; answers = answers; passed = passes }

    pub kept-start : journal ≡ [] → answers ≡ [] → passes ≡ [] → FollowsJournal begun
    kept-start no_entry no_answer no_byte = rw (no_entry, no_answer, no_byte) kept-first

    pub room-start : journal ≡ [] → HasRoomForRest begun
    room-start no_entry =
        let none : length journal ≡ 0 = ap (λ (l : List JournalEntry). length l) no_entry in let first = room-first in
        record {
          nodes = first.nodes;
          budget = first.budget;
          spare = omega (arith, none, first.spare);
          done = omega (arith, none, first.done);
        }
