use Rattle.std.proofs.Common.{ℕ, ◌+◌, ◌%◌, ◌^◌, ap, ◌∙◌}
use Rattle.rand_core.specs.Pcg32Seed.{pcg32_seed}
use Rattle.rand_pcg.specs.Lcg.{Lcg}
use Rattle.rand_pcg.specs.Pcg.{pcg32, pcg32_of_seed}
use Rattle.shared_machine.proofs.Pickers.{picker-first}
use Rattle.shared_machine.proofs.picker.Picker.new.Goals as goal

pub returns : goal.returns
returns c =
    picker-first c.args.seed c.args.worker _
    (c.next_word-pick.ensures ∙ ap (λ (g : Lcg). pcg32 g) c.seed_from_u64-generator.ensures
    ∙ ap (λ (w : ℕ). pcg32 (pcg32_of_seed (pcg32_seed 16 ((c.args.seed + w) % 2 ^ 64)))) c.from.ensures)
