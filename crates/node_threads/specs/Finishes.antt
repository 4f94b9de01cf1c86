-- What a run leaves, and why it ends.
use Rattle.std.specs.Prelude.{◌≡◌, ℕ, ◌<◌, ◌≤◌, nat_le, if◌then◌else◌, List, [], length, Option, Some, None, Result, Ok, Err}
use Rattle.std.specs.List.{All}
use Rattle.sn_base.specs.declared.event.Answer.{Answer}
use Rattle.sn_base.specs.Rules.{AreRules}
use Rattle.shared_machine.specs.ConsistentCutsRuns.{AllFit}
use Rattle.sn_io.specs.declared.outside.Failed.{Failed}
use Rattle.sn_io.specs.Outside.{Rose}
use Rattle.shared_machine.specs.Machine.{MachineData}
use Rattle.shared_machine.specs.Due.{is_over}
use Rattle.sn_console.specs.Handed.{IsHandedOn, IsBegun}
use Rattle.shared_machine.specs.JournalEntry.{JournalEntry}
use Rattle.shared_machine.specs.Journal.{Began, IsDue, events_of, state_of, answers_of, numbers_of}
use Rattle.shared_machine.specs.declared.finish.Finish.{Finish}
use Rattle.shared_machine.specs.declared.finish.Finish.TheVariants.{Over, Stopped}
use Rattle.shared_machine.specs.Shared.{cut_off_or_spent}

-- why a run with this journal has no turn any more: it is over, or, where it isn't, nodes were found cut off, or, where none
-- were, its budget is spent
abbrev pub finish_by : Began → List JournalEntry → Option Finish
finish_by began journal =
    if is_over began.image began.config (state_of began journal) then Some Over
    else cut_off_or_spent (numbers_of began journal).cut_off (nat_le began.budget (length journal))

-- a machine, with the journal and the answers of the run that made it, whose workers are its nodes', and whose events fit it, where
-- the rules are ones for its nodes
pub record IsRunOf (began : Began) (m : MachineData) (journal : List JournalEntry) (answers : List Answer) : Type 0 where
  pub image : m.image ≡ began.image
  pub config : m.config ≡ began.config
  pub state : m.state ≡ state_of began journal
  pub applied : m.applied ≡ length journal
  pub few : length journal ≤ began.budget
  pub answers_are : answers ≡ answers_of began journal
  pub due : IsDue began journal
  pub workers : All (λ e. e.worker < began.config.nodes) journal
  pub fit : AreRules began.rules began.config.nodes → AllFit began.config.nodes (events_of journal)

-- all of a text was written, or, where the sink failed, the first of it, and then its count of faults rose
abbrev pub Put : Result (Unit {0}) Failed → List ℕ → Option (List ℕ) → Option (List ℕ) → ℕ → ℕ → Type 0
Put (Ok done) text before after was is = IsHandedOn [] text before after × (was ≤ is)
Put (Err failed) text before after was is = IsBegun [] text before after × Rose was is

-- a run is stopped only where the console failed, which has the first of what is released then; else it has all of that, and the
-- finish is the one that the journal says
abbrev pub Ends : Began → List JournalEntry → Finish → List ℕ → Option (List ℕ) → Option (List ℕ) → ℕ → ℕ → Type 0
Ends began journal Stopped released before after was is = IsBegun [] released before after × Rose was is
Ends began journal finish released before after was is = IsHandedOn [] released before after × (finish_by began journal ≡ Some finish)
