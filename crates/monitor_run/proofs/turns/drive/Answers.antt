use Rattle.std.proofs.Common.{◌≡◌, Bool, false, Option, Some, None, is_some, refl, sym, ap, subst, ◌∙◌, true≢false, if◌then◌else◌}
use Rattle.sn_driver.specs.declared.turn.Turn.{Turn}
use Rattle.node_run.specs.Finish.TheVariants.{Budget}
use Rattle.node_run.specs.Finish.{Finish}
use Rattle.node_run.proofs.Refusals.{due-some, unspent}
use Rattle.sn_monitor.specs.Monitored.{IsTurn}
use Rattle.monitor_run.proofs.turns.drive.Goals.{else-spent-via-then-spent+else-is_some, else-spent-via-else-spent}
use Rattle.monitor_run.proofs.turns.drive.Goals as goal

pub returns-then-is_some-clause-err : goal.returns-then-is_some-clause-err
returns-then-is_some-clause-err g c = (
  refl,
  due-some c.args.monitored.now.driver c.args.monitored.now.machine c.args.worker c.args.pick c.args.spent
      (sym (ap is_some c.due.ensures) ∙ sym c.is_some.ensures ∙ c.if-is_some.true)
      ∙ ap (λ (b : Bool). let none : Option Finish = None in if b then Some Budget else none) c.if-spent.true,
)

pub returns-in-Did-clause-ok : goal.returns-in-Did-clause-ok
returns-in-Did-clause-ok g c =
    let turned = subst (λ (t : Turn). IsTurn c.args.monitored.now c.args.worker c.args.pick t c.turn-turn.result.1 c.turn-turn.new.self)
    c.in-Did.is c.turn-turn.ensures in
    let took = turned.took in
    let spent : c.args.spent ≡ false = elim c.else-spent.branch [
      | else-spent-via-then-spent+else-is_some w ↦ absurd
          (true≢false (ap is_some (sym took.0) ∙ sym (ap is_some w.due.ensures) ∙ sym w.is_some.ensures ∙ w.if-is_some.false))
      | else-spent-via-else-spent w ↦ w.if-spent.false
    ] in (
      record {
        unrefused = unspent c.args.monitored.now.driver c.args.monitored.now.machine c.args.worker c.args.pick c.args.spent _ took.0 spent;
        unspent = spent;
        due = took.0;
        applied = took.1;
        counted = took.2;
        later = turned.later;
      },
      turned,
    )
