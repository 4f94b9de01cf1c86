use Rattle.std.proofs.Common.{List, [], ◌∷◌, ◌++◌, ap, ◌∙◌, add-one}
use Rattle.sn_fabric.specs.declared.node.NodeUnit.{NodeUnit}
use Rattle.sn_fabric.specs.Resumed.{unit_resumed, units_resumed}
use Rattle.sn_fabric.proofs.resuming.resumed_units.Goals as goal

pub nodes-preserved : goal.nodes-preserved
nodes-preserved c =
    rw add-one
    (c.in_ok-push.ensures.items
    ∙ ap (λ (xs : List NodeUnit). xs ++ c.in_ok-unit.unit ∷ []) c.nodes.invariant
    ∙ ap (λ (x : NodeUnit). units_resumed c.nodes.number c.args.config.now c.args.contents.now c.args.owners.now c.args.point ++ x ∷ [])
    (c.in_ok-unit.ensures ∙ ap (unit_resumed c.args.config.now c.args.contents.now c.args.owners.now c.args.point) c.numbered-node.ensures))
