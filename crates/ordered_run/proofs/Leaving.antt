-- Where a run in an order ends, and what it leaves.
use Rattle.std.proofs.Common.{◌≡◌, ℕ, Bool, true, false, not, ◌&&◌, nat_le, if◌then◌else◌, List, [], length, Option, Some, None, refl, sym, subst, ◌∙◌, true≢false}
use Rattle.sn_base.specs.Config.{config_fits}
use Rattle.sn_base.specs.Image.{ImageData}
use Rattle.sn_base.specs.declared.config.Config.{Config}
use Rattle.sn_machine.specs.Machine.{MachineData, machine_with_room}
use Rattle.run_journals.specs.declared.entry.JournalEntry.{JournalEntry}
use Rattle.run_journals.specs.Journal.{events_of}
use Rattle.run_statistics.specs.declared.count.Count.{Count}
use Rattle.run_statistics.specs.Counted.{Counts}
use Rattle.sn_console.specs.Handed.{IsHandedOn, IsBegun}
use Rattle.due_events.specs.Due.{is_over}
use Rattle.node_run.specs.Finish.{Finish}
use Rattle.node_run.specs.Finish.TheVariants.{Over, CutOff, Budget, Stopped}
use Rattle.node_run.specs.Shared.{cut_off_or_spent}
use Rattle.node_run.specs.Finishes.{IsRunOf, Ends, finish_by}
use Rattle.node_run.proofs.Finishing.{run-of, finish-kept}
use Rattle.ordered_run.specs.declared.course.Course.{Course}
use Rattle.ordered_run.specs.Stands.{Stands, IsSameRun, EndsTurns, refusal_now, shared_as, its_start}

-- no refused turn says that a run was stopped
spent-unstopped : (spent : Bool) → (if spent then Some Budget else None) ≡ Some Stopped → ⊥
spent-unstopped true e = cc
spent-unstopped false e = cc

cut-unstopped : (cut : Option (ℕ × ℕ)) (spent : Bool) → cut_off_or_spent cut spent ≡ Some Stopped → ⊥
cut-unstopped (Some nodes) spent e = cc
cut-unstopped None spent e = spent-unstopped spent e

unstopped : (over : Bool) (cut : Option (ℕ × ℕ)) (spent : Bool) → (if over then Some Over else cut_off_or_spent cut spent) ≡ Some Stopped → ⊥
unstopped true cut spent e = cc
unstopped false cut spent e = cut-unstopped cut spent e

-- the same run, turn after turn
pub same-self : (c : Course) → IsSameRun c c
same-self c = record { start = refl; order = refl }

pub same-then : (a b d : Course) → IsSameRun a b → IsSameRun b d → IsSameRun a d
same-then a b d h k = record { start = k.start ∙ h.start; order = k.order ∙ h.order }

-- before the first turn a new count has the events of the journal
pub counts-first : (c : Course) (count : Count) (program : ImageData) (config : Config) (room : ℕ) → c.machine ≡ machine_with_room program config room →
    c.journal.items ≡ [] → config_fits config ≡ true →
    ((i : ImageData) (k : Config) (n : ℕ) → config_fits k ≡ true → Counts count (machine_with_room i k n) []) →
    Counts count c.machine (events_of c.journal.items)
counts-first c count program config room is none fits new =
    subst (λ (m : MachineData). Counts count m (events_of c.journal.items)) (sym is)
    (subst (λ (l : List JournalEntry). Counts count (machine_with_room program config room) (events_of l)) (sym none)
    (new program config room fits))

-- a count that was asked for, and that lacked no memory, is on
pub on-by : (asked on lacks : Bool) → lacks ≡ (asked && not on) → lacks ≡ false → asked ≡ true → on ≡ true
on-by true true lacks is none e = refl
on-by true false lacks is none e = absurd (true≢false (sym is ∙ none))
on-by false on lacks is none e = absurd cc

module _ (c d : Course) (before behind : Option (List ℕ)) (was is : ℕ) where
  pub ends-refused : (found : Finish) → refusal_now d ≡ Some found →
      IsHandedOn c.machine.state.released d.machine.state.released before behind → EndsTurns c d found before behind was is
  ends-refused Over e h = (h, e)
  ends-refused (CutOff a b) e h = (h, e)
  ends-refused Budget e h = (h, e)
  ends-refused Stopped e h =
      absurd (unstopped (is_over d.machine.image d.machine.config d.machine.state) d.driver.numbers.cut_off
      (nat_le d.budget (length d.journal.items)) e)

  module _ (stands : Stands d) (same : IsSameRun c d) (fresh : c.machine.state.released ≡ []) where
    whole : (found : Finish) → IsHandedOn c.machine.state.released d.machine.state.released before behind → refusal_now d ≡ Some found →
        IsHandedOn [] d.machine.state.released before behind × (finish_by (its_start c) d.journal.items ≡ Some found)
    whole found h e = (
      subst (λ (l : List ℕ). IsHandedOn l d.machine.state.released before behind) fresh h,
      finish-kept (shared_as d) (its_start c) d.journal.items found stands.follows same.start refl e,
    )

    pub leaves-ends : (found : Finish) → EndsTurns c d found before behind was is →
        Ends (its_start c) d.journal.items found d.machine.state.released before behind was is
    leaves-ends Over h = whole Over h.0 h.1
    leaves-ends (CutOff a b) h = whole (CutOff a b) h.0 h.1
    leaves-ends Budget h = whole Budget h.0 h.1
    leaves-ends Stopped h = (subst (λ (l : List ℕ). IsBegun l d.machine.state.released before behind) fresh h.0, h.1)

    pub leaves-run : IsRunOf (its_start c) d.machine d.journal.items d.answers.items
    leaves-run = run-of (shared_as d) (its_start c) d.machine d.journal.items d.answers.items stands.follows same.start refl refl refl
