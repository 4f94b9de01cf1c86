-- What a scheduler has drawn, and whose turns it gives.
use Rattle.std.proofs.Common.{◌≡◌, ℕ, ◌+◌, ◌%◌, ◌^◌, ◌<◌, refl, sym, ap, ◌∙◌, arith}
use Rattle.std.proofs.lemmas.Nat.{mod_below}
use Rattle.rand_core.specs.Pcg32Seed.{pcg32_seed}
use Rattle.rand_pcg.specs.Lcg.{Lcg}
use Rattle.rand_pcg.specs.Pcg.{pcg32, pcg32_of_seed}
use Rattle.run_journals.specs.Picks.{first_generator, pick_of, generator_at}
use Rattle.run_journals.proofs.Draws.{generator_at-first, generator_at-next}
use Rattle.turn_orders.specs.declared.order.Order.{Order}
use Rattle.turn_orders.specs.declared.order.Order.TheVariants.{Round, Drawn}
use Rattle.turn_orders.specs.Orders.{scheduler, worker_of}
use Rattle.turn_orders.specs.Scheduled.{HasDrawn}

pub drawn-first : (order : Order) (seed : ℕ) (g : Lcg) → g ≡ pcg32_of_seed (pcg32_seed 16 ((seed + scheduler) % 2 ^ 64)) →
    HasDrawn order seed 0 g
drawn-first Round seed g is = tt
drawn-first Drawn seed g is = is ∙ sym (generator_at-first seed scheduler)

abbrev drawn_by : ℕ → Lcg → ℕ × Lcg
drawn_by word next = (word, next)

-- the word of a turn, and the generator after it
drawn-at : (seed turn word : ℕ) (g next : Lcg) → g ≡ generator_at seed scheduler turn → drawn_by word next ≡ pcg32 g →
    drawn_by word next ≡ drawn_by (pick_of seed scheduler turn) (generator_at seed scheduler (turn + 1))
drawn-at seed turn word g next is draws = draws ∙ ap (λ (x : Lcg). pcg32 x) is ∙ generator_at-next seed scheduler turn

pub word-drawn : (seed turn word : ℕ) (g next : Lcg) → g ≡ generator_at seed scheduler turn → drawn_by word next ≡ pcg32 g →
    word ≡ pick_of seed scheduler turn
word-drawn seed turn word g next is draws = ap (λ (d : ℕ × Lcg). d.0) (drawn-at seed turn word g next is draws)

pub next-drawn : (seed turn word : ℕ) (g next : Lcg) → g ≡ generator_at seed scheduler turn → drawn_by word next ≡ pcg32 g →
    next ≡ generator_at seed scheduler (turn + 1)
next-drawn seed turn word g next is draws = ap (λ (d : ℕ × Lcg). d.1) (drawn-at seed turn word g next is draws)

-- the numbers that seed generators
pub scheduler-seeded : (seed : ℕ) → first_generator seed scheduler ≡ pcg32_of_seed (pcg32_seed 16 ((seed + scheduler) % 2 ^ 64))
unfolding first_generator
scheduler-seeded seed = refl

pub same-apart : (seed worker : ℕ) → worker < 16 → (seed + scheduler) % 2 ^ 64 ≡ (seed + worker) % 2 ^ 64 → ⊥
same-apart seed worker few e = absurd (omega (arith, few, e))

pub other-apart : (seed other worker : ℕ) → seed < 2 ^ 62 → other < 2 ^ 62 → worker < 16 →
    (seed + scheduler) % 2 ^ 64 ≡ (other + worker) % 2 ^ 64 → ⊥
other-apart seed other worker low lower few e = absurd (omega (arith, low, lower, few, e))

pub worker-below : (order : Order) (seed workers turn : ℕ) → 0 < workers → worker_of order seed workers turn < workers
worker-below Round seed workers turn some = mod_below turn workers some
worker-below Drawn seed workers turn some = mod_below (pick_of seed scheduler turn) workers some
