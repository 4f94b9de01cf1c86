-- The rules of a run in which the switch that dies alone is given.
use Rattle.std.proofs.Common.{◌≡◌, ℕ, refl, Option, Some, None}
use Rattle.std.specs.Prelude.{is_some, option_map, option_and_then}
use Rattle.option_values.specs.Values.{Text}
use Rattle.option_values.specs.Runs.{kill_in, run_rules_by}
use Rattle.option_values.specs.declared.run.RunRules.{RunRules}

abbrev rules_if : Option (ℕ × ℕ) → Option RunRules
rules_if kill =
    option_and_then (λ k. Some (record {
      rules = record { interval = 100; wait = 20000; lose_every = 0; kill = k };
      budget = 1000000;
      seed = 1;
    })) (option_map (λ k. Some k) kill)

some_if : (kill : Option (ℕ × ℕ)) → is_some (rules_if kill) ≡ is_some kill
some_if None = refl
some_if (Some kill) = refl

pub kill_alone : (nodes : ℕ) (value : Text)
    → is_some (run_rules_by nodes None None None (Some value) None None) ≡ is_some (kill_in nodes value)
kill_alone nodes value = some_if (kill_in nodes value)
