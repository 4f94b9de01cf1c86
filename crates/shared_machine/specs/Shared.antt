-- The machine that workers share, as a value: before its run and during it.
use Rattle.std.specs.Prelude.{◌≡◌, ℕ, ◌+◌, ◌≤◌, min, Bool, false, nat_le, if◌then◌else◌, List, [], ◌∷◌, ◌++◌, length, Option, Some, None}
use Rattle.sn_base.specs.declared.event.Event.{Event}
use Rattle.sn_base.specs.declared.event.Answer.{Answer}
use Rattle.sn_base.specs.declared.event.Answer.TheVariants.{Validated}
use Rattle.run_journals.specs.Machine.{MachineData, IsApplied}
use Rattle.run_journals.specs.Numbers.{numbers_after}
use Rattle.run_journals.specs.Due.{is_over}
use Rattle.sn_driver.specs.Driver.{DriverData}
use Rattle.sn_driver.specs.Turns.{due_at, IsLater}
use Rattle.sn_console.specs.Handed.{IsFirstOf}
use Rattle.run_journals.specs.declared.entry.JournalEntry.{JournalEntry}
use Rattle.run_journals.specs.Journal.{Began, entry_of, next_pick}
use Rattle.shared_machine.specs.declared.finish.Finish.{Finish}
use Rattle.shared_machine.specs.declared.finish.Finish.TheVariants.{Over, CutOff, Budget, Stopped}

-- a machine at its start and a driver without a turn, the run's seed, and how many events it does at most
pub record SharedData : Type 0 where
  pub machine : MachineData
  pub driver : DriverData
  pub seed : ℕ
  pub budget : ℕ

abbrev pub begins_with : SharedData → Began
begins_with s = record { image = s.machine.image; config = s.machine.config; rules = s.driver.rules; seed = s.seed; budget = s.budget }

-- the same during the run: the journal so far and what each of its events was answered, the bytes that were passed on to the
-- console, for how many more its ring is known to have room, and whether a stop stands
pub record LockedData : Type 0 where
  pub machine : MachineData
  pub driver : DriverData
  pub seed : ℕ
  pub budget : ℕ
  pub journal : List JournalEntry
  pub answers : List Answer
  pub passed : List ℕ
  pub free : ℕ
  pub stopped : Bool

abbrev pub began_with : LockedData → Began
began_with s = record { image = s.machine.image; config = s.machine.config; rules = s.driver.rules; seed = s.seed; budget = s.budget }

-- the run's start, with a ring that is known to have so much room
abbrev pub first_locked : ℕ → SharedData → LockedData
first_locked free s =
    record {
      machine = s.machine;
      driver = s.driver;
      seed = s.seed;
      budget = s.budget;
      journal = [];
      answers = [];
      passed = [];
      free = free;
      stopped = false;
    }

-- why no turn is had any more: the first of these that applies

abbrev pub cut_off_or_spent : Option (ℕ × ℕ) → Bool → Option Finish
cut_off_or_spent (Some nodes) spent = Some (CutOff nodes.0 nodes.1)
cut_off_or_spent None spent = if spent then Some Budget else None

-- by a driver and its machine, and whether the budget is spent
abbrev pub refusal_of : DriverData → MachineData → Bool → Option Finish
refusal_of driver m spent = if is_over m.image m.config m.state then Some Over else cut_off_or_spent driver.numbers.cut_off spent

abbrev pub finish_of : LockedData → Option Finish
finish_of s = if s.stopped then Some Stopped else refusal_of s.driver s.machine (nat_le s.budget (length s.journal))

-- a driver's turn that did an event
pub record Did (driver : DriverData) (m : MachineData) (worker pick : ℕ) (spent : Bool) (event : Event) (answer : Answer) (went : DriverData) (after : MachineData) : Type 0 where
  pub unrefused : refusal_of driver m spent ≡ None
  pub unspent : spent ≡ false
  pub due : due_at driver m worker pick ≡ Some event
  pub applied : IsApplied m after event answer
  pub counted : went ≡ record driver { numbers = numbers_after driver.numbers event answer }
  pub later : IsLater driver m went after

-- of what is released, the next bytes are passed on: all of them, or at least as many as the ring was known to have room for; and room
-- that is known is lost only to them
pub record PassesOn (released passed : List ℕ) (free : ℕ) (passes : List ℕ) (frees : ℕ) : Type 0 where
  pub next : IsFirstOf passed passes
  pub first : IsFirstOf passes released
  pub least : min (length released) (length passed + free) ≤ length passes
  pub known : length passed + free ≤ length passes + frees

-- so it is where something is validated; no other answer touches the ring
abbrev pub Passes : Answer → List ℕ → List ℕ → ℕ → List ℕ → ℕ → Type 0
Passes (Validated k) released passed free passes frees = PassesOn released passed free passes frees
Passes _ released passed free passes frees = (passes ≡ passed) × (frees ≡ free)

-- a turn: the event that was due for the worker with its next pick was applied and counted, and stands in the journal as the
-- last
pub record IsTurn (s : LockedData) (worker : ℕ) (event : Event) (answer : Answer) (t : LockedData) : Type 0 where
  pub due : due_at s.driver s.machine worker (next_pick s.seed s.journal worker) ≡ Some event
  pub applied : IsApplied s.machine t.machine event answer
  pub passes : Passes answer t.machine.state.released s.passed s.free t.passed t.free
  pub left : t ≡ record s {
    machine = t.machine;
    driver = record s.driver { numbers = numbers_after s.driver.numbers event answer };
    journal = s.journal ++ entry_of worker event ∷ [];
    answers = s.answers ++ answer ∷ [];
    passed = t.passed;
    free = t.free;
  }
