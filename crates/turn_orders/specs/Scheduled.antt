-- A scheduler as a value.
use Rattle.std.specs.Prelude.{◌≡◌, ℕ}
use Rattle.rand_pcg.specs.Lcg.{Lcg}
use Rattle.run_journals.specs.Picks.{generator_at}
use Rattle.turn_orders.specs.declared.order.Order.{Order}
use Rattle.turn_orders.specs.declared.order.Order.TheVariants.{Round, Drawn}
use Rattle.turn_orders.specs.Orders.{scheduler}

-- the order, the run's seed, how many workers there are, and how many turns were had
pub record SchedulerData : Type 0 where
  pub order : Order
  pub seed : ℕ
  pub workers : ℕ
  pub had : ℕ

-- where workers are drawn, its generator has given a word a turn; in rounds it isn't used
abbrev pub HasDrawn : Order → ℕ → ℕ → Lcg → Type 0
HasDrawn Round seed had generator = Unit {0}
HasDrawn Drawn seed had generator = generator ≡ generator_at seed scheduler had
