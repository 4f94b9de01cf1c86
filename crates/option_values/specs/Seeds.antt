-- What the text of an option for a range of seeds means.
use Rattle.std.specs.Prelude.{◌-◌, ◌==◌, Bool, ◌&&◌, nat_le, nat_lt, if◌then◌else◌, Option, Some, None, option_map, option_and_then}
use Rattle.std.specs.List.{before_first, after_first}
use Rattle.option_values.specs.Values.{Text, number_in}
use Rattle.option_values.specs.Runs.{seed_rule}
use Rattle.option_values.specs.declared.seeds.Seeds.{Seeds}
use Rattle.option_values.specs.declared.seeds.TheConstants.{MOST_SEEDS}

-- whether the second isn't before the first, and there aren't too many
abbrev pub seeds_fit : Seeds → Bool
seeds_fit seeds = nat_le seeds.first seeds.last && nat_lt (seeds.last - seeds.first) MOST_SEEDS

abbrev pub if_fitting : Seeds → Option Seeds
if_fitting seeds = if seeds_fit seeds then Some seeds else None

-- two seeds with `-` between them
abbrev pub seeds_in : Text → Option Seeds
seeds_in text =
    option_and_then (λ first. option_and_then (λ last. if_fitting (record { first = first; last = last }))
    (number_in seed_rule.least seed_rule.greatest (after_first (λ c. c == 45) text)))
    (number_in seed_rule.least seed_rule.greatest (before_first (λ c. c == 45) text))

-- the same of an option that is given or isn't
abbrev pub seeds_by : Option Text → Option (Option Seeds)
seeds_by None = Some None
seeds_by (Some text) = option_map (λ seeds. Some seeds) (seeds_in text)
