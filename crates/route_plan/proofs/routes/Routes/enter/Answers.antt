use Rattle.std.proofs.Common.{◌≡◌, ◌+◌, ◌*◌, ap, ◌∙◌, arith}
use Rattle.route_plan.specs.Distances.{distance}
use Rattle.route_plan.proofs.Joined.{Entry, entry-first, entry-second}
use Rattle.route_plan.proofs.routes.Routes.enter.Goals as goal

at_a-first : (c : goal.Then-get) → c.get.result ≡ distance c.args.self.now c.args.to (2 * c.args.from)
at_a-first c =
    c.get.ensures.value ∙ (ap (λ m. distance m c.args.to c.number.result) (c.deref.ensures ∙ c.self.view_is)
    ∙ ap (λ s. distance c.args.self.now c.args.to s) (c.number.ensures.same ∙ c.a-a.ensures))

at_b-first : (c : goal.Then-get) → c.get-2.result ≡ distance c.args.self.now c.args.to (2 * c.args.from + 1)
at_b-first c =
    c.get-2.ensures.value ∙ (ap (λ m. distance m c.args.to c.number-2.result) (c.deref-2.ensures ∙ c.self.view_is)
    ∙ ap (λ s. distance c.args.self.now c.args.to s) (c.number-2.ensures.same ∙ c.b-b.ensures))

first : (c : goal.Then-get) → Entry c.args.self.now c.args.from c.args.to c.a-a.result
first c =
    rw c.a-a.ensures (entry-first c.args.self.now c.args.from c.args.to (rw (← c.self.view_is) c.self.invariant.0)
    (rw (← c.self.view_is) c.self.invariant.1) c.requires.sender c.requires.receiver
    (omega (arith, at_a-first c, at_b-first c, c.if-get.true)))

pub returns-then-get-clause-enter : goal.returns-then-get-clause-enter
returns-then-get-clause-enter c = (first c).enter

pub returns-then-get-clause-living : goal.returns-then-get-clause-living
returns-then-get-clause-living c = (first c).living

pub returns-then-get-clause-shortest : goal.returns-then-get-clause-shortest
returns-then-get-clause-shortest c = (first c).shortest

at_a-second : (c : goal.Else-get) → c.get.result ≡ distance c.args.self.now c.args.to (2 * c.args.from)
at_a-second c =
    c.get.ensures.value ∙ (ap (λ m. distance m c.args.to c.number.result) (c.deref.ensures ∙ c.self.view_is)
    ∙ ap (λ s. distance c.args.self.now c.args.to s) (c.number.ensures.same ∙ c.a-a.ensures))

at_b-second : (c : goal.Else-get) → c.get-2.result ≡ distance c.args.self.now c.args.to (2 * c.args.from + 1)
at_b-second c =
    c.get-2.ensures.value ∙ (ap (λ m. distance m c.args.to c.number-2.result) (c.deref-2.ensures ∙ c.self.view_is)
    ∙ ap (λ s. distance c.args.self.now c.args.to s) (c.number-2.ensures.same ∙ c.b-b.ensures))

second : (c : goal.Else-get) → Entry c.args.self.now c.args.from c.args.to c.b-b.result
second c =
    rw c.b-b.ensures (entry-second c.args.self.now c.args.from c.args.to (rw (← c.self.view_is) c.self.invariant.0)
    (rw (← c.self.view_is) c.self.invariant.1) c.requires.sender c.requires.receiver
    (omega (arith, at_a-second c, at_b-second c, c.if-get.false)))

pub returns-else-get-clause-enter : goal.returns-else-get-clause-enter
returns-else-get-clause-enter c = (second c).enter

pub returns-else-get-clause-living : goal.returns-else-get-clause-living
returns-else-get-clause-living c = (second c).living

pub returns-else-get-clause-shortest : goal.returns-else-get-clause-shortest
returns-else-get-clause-shortest c = (second c).shortest
