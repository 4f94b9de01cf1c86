use Rattle.std.proofs.Common.{◌≡◌, ◌<◌, refl, sym, ap, ◌∙◌}
use Rattle.route_plan.specs.Distances.{distance}
use Rattle.route_plan.specs.Routes.{next_of}
use Rattle.route_plan.proofs.Options.{none-is, is-none, if-some}
use Rattle.route_plan.proofs.Walks.{living-there, walk-from, next-step, none-arrived, arrived-none}
use Rattle.route_plan.proofs.Joined.{living-near}
use Rattle.route_plan.proofs.routes.Routes.next.Goals as goal

near : (c : goal.After-next) → distance c.args.self.now c.args.to c.args.at < 32
near c =
    living-near c.args.self.now c.args.to c.args.at (rw (← c.self.view_is) c.self.invariant.0)
    (rw (← c.self.view_is) c.self.invariant.1) c.requires.receiver c.requires.living

named : (c : goal.After-next) → c.next.result ≡ next_of c.args.self.now c.args.to c.args.at
named c =
    c.next.ensures ∙ (ap (λ m. next_of m c.args.to c.number.result) (c.deref.ensures ∙ c.self.view_is)
    ∙ ap (λ s. next_of c.args.self.now c.args.to s) c.number.ensures.same)

pub next-requires-clause-there : goal.next-requires-clause-there
next-requires-clause-there c =
    rw (c.number.ensures.same, c.deref.ensures, c.self.view_is) (living-there c.args.self.now c.args.at c.requires.living)

pub returns-clause-arrived : goal.returns-clause-arrived
returns-clause-arrived c = (
  λ h. none-arrived c.args.self.now c.args.to c.args.at (near c) (sym (named c) ∙ none-is c.next.result h),
  λ e. is-none c.next.result (named c ∙ arrived-none c.args.self.now c.args.to c.args.at c.requires.living e),
)

pub returns-clause-step : goal.returns-clause-step
returns-clause-step c = if-some c.next.result _ (λ x e. next-step c.args.self.now c.args.to c.args.at x (near c) (sym (named c) ∙ e))

pub returns-clause-shortest : goal.returns-clause-shortest
returns-clause-shortest c = walk-from c.args.self.now c.args.to (distance c.args.self.now c.args.to c.args.at) c.args.at refl (near c)
