use Rattle.std.proofs.Common.{◌≤◌, refl, sym, ◌∙◌, subst}
use Rattle.sn_monitor.specs.declared.monitored.Monitored.TheInside.{Inside}
use Rattle.sn_monitor.specs.Goes.{Goes, IsWatchable}
use Rattle.sn_monitor.specs.Monitored.{MonitoredData}
use Rattle.sn_monitor.proofs.Turns.{turn_goes, turn_rises, few_committed, shows_goes}
use Rattle.sn_monitor.proofs.monitored.Monitored.turn.Goals as goal
use Rattle.sn_monitor.proofs.monitored.Monitored.turn.Goals.{then-is_validation, else-is_validation}

pub publish-published-requires-clause-few : goal.publish-published-requires-clause-few
publish-published-requires-clause-few g c =
    let room = subst (λ (x : MonitoredData). 1 ≤ x.machine.spare) (sym c.self.view_is) c.requires.room in
    few_committed _ _ _ _ _ c.self.invariant.0 c.turn-turn.ensures.later room _ _ c.turn-turn.result
    c.turn-turn.ensures.took

pub publish-published-requires-clause-below : goal.publish-published-requires-clause-below
publish-published-requires-clause-below g c s ends =
    let room = subst (λ (x : MonitoredData). 1 ≤ x.machine.spare) (sym c.self.view_is) c.requires.room in
    turn_rises _ _ _ _ _ c.self.invariant.0 c.turn-turn.ensures.later room _ _ c.turn-turn.result
    c.turn-turn.ensures.took (sym c.is_validation.ensures ∙ c.if-is_validation.true) s ends

pub invariant_of-self : goal.invariant_of-self
invariant_of-self g c =
    let room = subst (λ (x : MonitoredData). 1 ≤ x.machine.spare) (sym c.self.view_is) c.requires.room in
    let goes = turn_goes _ _ _ _ _ c.self.invariant.0 c.turn-turn.ensures.later room _ _ c.turn-turn.result
    c.turn-turn.ensures.took in
    elim c.if-is_validation.branch [
      | then-is_validation w ↦
          subst (λ (i : Inside). Goes i.machine i.driver i.board.published × IsWatchable i.watch) (sym w.self-inside-is)
          (shows_goes _ _ _ _ _ _ goes refl w.publish-published.ensures.shows, c.self.invariant.1)
      | else-is_validation w ↦
          subst (λ (i : Inside). Goes i.machine i.driver i.board.published × IsWatchable i.watch) (sym w.self-inside-is) (goes, c.self.invariant.1)
    ]
