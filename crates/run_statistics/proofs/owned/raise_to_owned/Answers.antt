use Rattle.std.proofs.Common.{ap, subst, ◌∙◌}
use Rattle.run_statistics.specs.Numbers.{with_greater}
use Rattle.run_statistics.specs.Owned.{owned_blocks, ReachesNodes}
use Rattle.run_statistics.proofs.Covering.{none-raised, one-raised}
use Rattle.run_statistics.proofs.owned.raise_to_owned.Goals as goal

pub returns-in-Nobody : goal.returns-in-Nobody
returns-in-Nobody c =
    none-raised (owned_blocks c.args.machine.now.state.fabric) c.args.machine.now.config.nodes c.args.reach.now c.args.most.now
    c.requires.covered c.in-Nobody.is

pub returns-in-One : goal.returns-in-One
returns-in-One c =
    c.raise_one.ensures
    ∙ ap (λ k. with_greater c.args.most.now c.in-One.node k)
    (c.requires.owned.owned c.in-One.node (subst (ReachesNodes c.args.machine.now.config.nodes) c.in-One.is c.requires.reach))
    ∙ one-raised (owned_blocks c.args.machine.now.state.fabric) c.args.machine.now.config.nodes c.args.reach.now c.args.most.now
    c.requires.covered c.in-One.node c.in-One.is c.requires.reach
