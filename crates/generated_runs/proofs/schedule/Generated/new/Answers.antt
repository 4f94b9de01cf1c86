use Rattle.std.proofs.Common.{ap, ◌∙◌}
use Rattle.rand_core.specs.Pcg32Seed.{pcg32_seed}
use Rattle.rand_pcg.specs.Pcg.{pcg32_of_seed}
use Rattle.generated_runs.proofs.Running.{all_whole}
use Rattle.generated_runs.proofs.Replayed.{new_is}
use Rattle.generated_runs.proofs.schedule.Generated.new.Goals as goal

pub returns-clause-start : goal.returns-clause-start
returns-clause-start c =
    new_is c.args.size c.new-driver.result c.seed_from_u64-generator.result _ c.new-driver.ensures
    (c.seed_from_u64-generator.ensures ∙ ap (λ n. pcg32_of_seed (pcg32_seed 16 n)) c.from.ensures)

pub returns-clause-count : goal.returns-clause-count
returns-clause-count c = (all_whole c.args.size).count

pub returns-clause-fit : goal.returns-clause-fit
returns-clause-fit c = (all_whole c.args.size).fit
