-- How often something was measured, the sum of what was measured, and the greatest.
use Rattle.std.specs.Prelude.{ℕ, max, List, [], ◌∷◌}
use Rattle.run_statistics.specs.declared.spread.Spread.{Spread}
use Rattle.run_statistics.specs.Numbers.{bounded_sum}

abbrev pub no_spread : Spread
no_spread = record { count = 0; sum = 0; greatest = 0 }

abbrev pub spread_with : Spread → ℕ → Spread
spread_with x value = record { count = bounded_sum x.count 1; sum = bounded_sum x.sum value; greatest = max x.greatest value }

abbrev pub spread_with_all : Spread → List ℕ → Spread
spread_with_all x [] = x
spread_with_all x (value ∷ values) = spread_with_all (spread_with x value) values
