use Rattle.std.proofs.Common.{◌≡◌, Bool, true, false, List, refl, sym, ap, ◌∙◌}
use Rattle.std.proofs.Math.Bool.{beq}
use lib.Pointwise.{pointwise_decides}
use Rattle.route_plan.specs.Distances.{Switches}
use Rattle.route_plan.proofs.routes.Routes.is_round.Goals as goal

decides : (x y : Bool) → (beq x y ≡ true → x ≡ y) × (x ≡ y → beq x y ≡ true)
decides true true = (λ _. refl, λ _. refl)
decides true false = (λ e. sym e, λ e. sym e)
decides false true = (λ e. e, λ e. e)
decides false false = (λ _. refl, λ _. refl)

-- the routes were made for these dead switches
pub returns-clause-same : goal.returns-clause-same
returns-clause-same c = λ h.
    let e = (pointwise_decides decides c.dead.result c.args.dead).0 (sym c.eq.ensures ∙ h) in
    ap (λ (d : List Bool). let m : Switches = record { nodes = c.args.self.now.nodes; dead = d } in m)
    (sym e ∙ c.dead.ensures ∙ ap (λ (m : Switches). m.dead) (c.deref.ensures ∙ c.self.view_is))
