use Rattle.std.proofs.Common.{◌≡◌, ◌<◌, true, ◌∙◌, subst}
use Rattle.sn_base.specs.Nodes.{has_node}
use Rattle.rolling_recovery.specs.Rolling.{RollingData}
use Rattle.rolling_recovery.proofs.Invariant.{has-its-node}
use Rattle.rolling_recovery.proofs.rolling.Rolling.has_part.Goals as goal

pub returns-clause-here : goal.returns-clause-here
returns-clause-here c = λ e.
    subst (λ (r : RollingData). c.args.node < r.machine.config.nodes) c.self.view_is
    (has-its-node c.self.inside.machine c.self.inside.messages c.self.inside.restored c.self.inside.noted c.self.invariant c.args.node
    (subst (λ i. has_node c.self.inside.restored i ≡ true) (c.from.ensures ∙ c.number.ensures.same) e))
