use Rattle.std.proofs.Common.{◌≡◌, List, [], ◌∷◌, ◌++◌, ap, ◌∙◌, add-one}
use Rattle.sn_fabric.specs.declared.node.NodeUnit.{NodeUnit}
use Rattle.sn_fabric.specs.Start.{first_unit, units_below}
use Rattle.sn_fabric.proofs.start.first_units.Goals as goal

pub nodes-preserved : goal.nodes-preserved
nodes-preserved c =
    let n : c.unwrap-node.result ≡ c.nodes.number = rw c.unwrap-node.ensures at c.new.ensures.some in
    rw add-one
    (c.in_ok-push.ensures.items
    ∙ ap (λ (xs : List NodeUnit). xs ++ c.in_ok-unit.unit ∷ []) c.nodes.invariant
    ∙ ap (λ (x : NodeUnit). units_below c.nodes.number c.args.config.now ++ x ∷ [])
    (c.in_ok-unit.ensures ∙ ap (first_unit c.args.config.now) n))
