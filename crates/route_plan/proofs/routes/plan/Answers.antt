use Rattle.std.proofs.Common.{◌≡◌, None, sym, ap, ◌∙◌}
use Rattle.route_plan.specs.Routes.{first_cut_off}
use Rattle.route_plan.proofs.Whole.{whole}
use Rattle.route_plan.proofs.routes.plan.Goals as goal

none_found : (c : goal.In-Some) → first_cut_off (record { nodes = c.args.nodes; dead = c.args.dead }) ≡ None → c.first_cut_off.result ≡ None
none_found c e = c.first_cut_off.ensures ∙ (ap (λ m. first_cut_off m) c.find-distances.ensures ∙ e)

pub returns-in-Some-clause-all_living : goal.returns-in-Some-clause-all_living
returns-in-Some-clause-all_living c = λ e.
    let n = none_found c (whole (record { nodes = c.args.nodes; dead = c.args.dead })
    (record { some = c.requires.some; few = c.requires.few }) e) in
    cc (sym c.in-Some.is ∙ n)
