use Rattle.std.proofs.Common.{◌≡◌, sym, ap, ◌∙◌}
use Rattle.route_plan.specs.Routes.{first_cut_off}
use Rattle.route_plan.specs.Tables.{IsSized}
use Rattle.route_plan.proofs.Options.{none-is, is-none, if-some}
use Rattle.route_plan.proofs.Joined.{none-joined, joined-none, first-pair}
use Rattle.route_plan.proofs.Whole.{whole}
use Rattle.route_plan.proofs.routes.cut_off.Goals as goal

sized : (c : goal.After-first_cut_off) → IsSized (record { nodes = c.args.nodes; dead = c.args.dead })
sized c = record { some = c.requires.some; few = c.requires.few }

named : (c : goal.After-first_cut_off) → c.first_cut_off.result ≡ first_cut_off (record { nodes = c.args.nodes; dead = c.args.dead })
named c = c.first_cut_off.ensures ∙ ap (λ m. first_cut_off m) c.find.ensures

pub returns-clause-first : goal.returns-clause-first
returns-clause-first c =
    if-some c.first_cut_off.result _
    (λ p e. first-pair (record { nodes = c.args.nodes; dead = c.args.dead }) p.0 p.1 (sized c) (sym (named c) ∙ e))

pub returns-clause-none : goal.returns-clause-none
returns-clause-none c = (
  λ h. none-joined (record { nodes = c.args.nodes; dead = c.args.dead }) (sized c) (sym (named c) ∙ none-is c.first_cut_off.result h),
  λ j. is-none c.first_cut_off.result (named c ∙ joined-none (record { nodes = c.args.nodes; dead = c.args.dead }) (sized c) j),
)

pub returns-clause-all_living : goal.returns-clause-all_living
returns-clause-all_living c =
    λ e. is-none c.first_cut_off.result (named c ∙ whole (record { nodes = c.args.nodes; dead = c.args.dead }) (sized c) e)
