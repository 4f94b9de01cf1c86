use Rattle.std.proofs.Common.{◌≡◌, ℕ, ◌+◌, ◌%◌, ◌^◌, List, [], length, sym, ap, subst, ◌∙◌, arith}
use Rattle.rand_core.specs.Pcg32Seed.{pcg32_seed}
use Rattle.rand_pcg.specs.Lcg.{Lcg}
use Rattle.rand_pcg.specs.Pcg.{pcg32_of_seed}
use Rattle.turn_orders.specs.Drawn.{AreDrawn}
use Rattle.turn_orders.proofs.GeneratorLaws.{drawn-push}
use Rattle.turn_orders.proofs.draws.generators.Goals as goal

pub workers-preserved : goal.workers-preserved
workers-preserved c =
    let before = c.workers.generators.items in
    let worker : c.from-in-workers.result ≡ length before = omega (arith, c.from-in-workers.ensures, c.workers.invariant.1) in
    let is = c.seed_from_u64.ensures ∙ ap (λ (k : ℕ). pcg32_of_seed (pcg32_seed 16 ((c.args.seed + k) % 2 ^ 64))) worker in (
      subst (λ (l : List Lcg). AreDrawn c.args.seed [] l) (sym c.in_ok-push.ensures.items)
          (drawn-push c.args.seed before c.seed_from_u64.result c.workers.invariant.0 is),
      omega (arith, c.in_ok-push.ensures.len, c.workers.invariant.1),
    )
