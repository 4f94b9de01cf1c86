use Rattle.std.proofs.Common.{◌≡◌, ℕ, refl, sym, ap, subst, ◌∙◌, arith}
use Rattle.sn_base.specs.Config.{config_fits}
use Rattle.sn_base.specs.Rules.{AreRules}
use Rattle.sn_model.specs.Machine.{start_of}
use Rattle.sn_machine.specs.Machine.{MachineData}
use Rattle.sn_monitor.specs.Goes.{IsWatchable}
use Rattle.monitor_run.specs.Stands.{IsNew}
use Rattle.monitor_run.proofs.Beginnings.{word-watched}
use Rattle.monitor_run.proofs.starting.start.Goals as goal

pub begin-requires-clause-ruled : goal.begin-requires-clause-ruled
begin-requires-clause-ruled g c =
    subst (λ (m : MachineData). AreRules c.args.job.rules m.config.nodes) (sym c.in-Ok-machine_for.ensures) c.requires.ruled

pub begin-requires-clause-fresh : goal.begin-requires-clause-fresh
begin-requires-clause-fresh g c = (
  ap (λ (m : MachineData). m.applied) c.in-Ok-machine_for.ensures,
  subst (λ (m : MachineData). m.state ≡ start_of m.image m.config.nodes) (sym c.in-Ok-machine_for.ensures) refl,
)

pub begin-requires-clause-sizes : goal.begin-requires-clause-sizes
begin-requires-clause-sizes g c = ap (λ (m : MachineData). config_fits m.config) c.in-Ok-machine_for.ensures ∙ c.requires.fits

pub begin-requires-clause-room : goal.begin-requires-clause-room
begin-requires-clause-room g c =
    omega (arith, c.in-Ok.ensures.same.1, ap (λ (m : MachineData). m.spare) c.in-Ok-machine_for.ensures)

pub begin-requires-clause-new : goal.begin-requires-clause-new
begin-requires-clause-new g c =
    subst (λ (m : MachineData). IsNew m.config.nodes c.in-Ok.room.turns) (sym c.in-Ok-machine_for.ensures) c.in-Ok.ensures.new

pub begin-requires-clause-watched : goal.begin-requires-clause-watched
begin-requires-clause-watched g c =
    subst (λ (w : ℕ). IsWatchable w) (sym c.unwrap_or-watch.ensures) (word-watched c.args.job.watch c.requires.watched)
