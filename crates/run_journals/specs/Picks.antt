-- The numbers that a run's workers draw.
use Rattle.std.specs.Prelude.{ℕ, zero, suc, ◌+◌, ◌%◌, ◌^◌}
use Rattle.rand_core.specs.Pcg32Seed.{pcg32_seed}
use Rattle.rand_pcg.specs.Lcg.{Lcg}
use Rattle.rand_pcg.specs.Pcg.{pcg32, pcg32_of_seed}

-- a worker's generator at the start: of the run's seed and the worker's number
unfoldable pub first_generator : ℕ → ℕ → Lcg
first_generator seed worker = pcg32_of_seed (pcg32_seed 16 ((seed + worker) % 2 ^ 64))

-- after so many words
unfoldable pub after_words : Lcg → ℕ → Lcg
after_words generator zero = generator
after_words generator (suc words) = (pcg32 (after_words generator words)).1

-- it after so many picks
unfoldable pub generator_at : ℕ → ℕ → ℕ → Lcg
generator_at seed worker picks = after_words (first_generator seed worker) picks

-- the worker's pick at a place, from 0
unfoldable pub pick_of : ℕ → ℕ → ℕ → ℕ
pick_of seed worker place = (pcg32 (generator_at seed worker place)).0
