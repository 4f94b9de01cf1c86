use Rattle.std.proofs.Common.{◌≡◌, ap, ◌∙◌, arith}
use Rattle.route_plan.specs.Tables.{level}
use Rattle.route_plan.proofs.Levels.{level-grows, level-last, level-still, still-table}
use Rattle.route_plan.proofs.distances.distances_to.Goals as goal

pub levels-init : goal.levels-init
levels-init c = c.first_level-table.ensures

pub levels-preserved : goal.levels-preserved
levels-preserved c =
    λ s l. c.grow.ensures.grown s l
    ∙ level-grows _ _ c.levels.links s c.levels.table
    (record { some = c.requires.some; few = c.requires.few }) c.levels.invariant c.levels-test.true l

pub returns-then-not-grow : goal.returns-then-not-grow
returns-then-not-grow c = λ s l.
    let still = c.grow.ensures.still c.if-not-grow.true in
    still s l ∙ (c.levels.invariant s l ∙ level-still _ _ c.levels.links s (record { some = c.requires.some; few = c.requires.few })
    (still-table _ _ c.levels.links c.levels.table c.grow.new.table
    (record { some = c.requires.some; few = c.requires.few }) c.levels.invariant c.levels-test.true c.grow.ensures.grown still)
    (omega arith) l)

pub returns : goal.returns
returns c = λ s l.
    let e : c.levels.links ≡ 31 = omega arith in
    c.levels.invariant s l ∙ (ap (λ k. level (record { nodes = c.args.grid.now; dead = c.args.dead }) c.args.to k s) e
    ∙ level-last (record { nodes = c.args.grid.now; dead = c.args.dead }) c.args.to s)
