-- What the texts of a run's own options mean.
use Rattle.std.specs.Prelude.{ℕ, ◌+◌, ◌*◌, ◌-◌, ◌^◌, ◌==◌, Bool, true, ◌&&◌, nat_eq, nat_le, nat_lt, if◌then◌else◌, [], ◌∷◌, length}
use Rattle.std.specs.Prelude.{slice_index, Option, Some, None, option_map, option_and_then}
use Rattle.std.specs.List.{before_first, after_first}
use Rattle.sn_base.specs.Config.{lies_in}
use Rattle.sn_base.specs.Rules.{rules_fit}
use Rattle.option_values.specs.Values.{Text, number_below, number_in, number_by}
use Rattle.option_values.specs.declared.number.NumberRule.{NumberRule}
use Rattle.option_values.specs.declared.run.RunRules.{RunRules}
use Rattle.sn_base.specs.declared.limits.TheConstants.{EVENTS}

abbrev pub interval_rule : NumberRule
interval_rule = record { least = 1; greatest = EVENTS; default = 100 }

abbrev pub wait_rule : NumberRule
wait_rule = record { least = 1; greatest = EVENTS; default = 20000 }

abbrev pub budget_rule : NumberRule
budget_rule = record { least = 1; greatest = EVENTS; default = EVENTS }

abbrev pub lose_rule : NumberRule
lose_rule = record { least = 0; greatest = EVENTS; default = 0 }

abbrev pub seed_rule : NumberRule
seed_rule = record { least = 0; greatest = 2 ^ 64 - 1; default = 1 }

-- a node of so many, by its number without a leading zero, as scripts have it
abbrev pub node_in : ℕ → Text → Option ℕ
node_in nodes text = if nat_lt 1 (length text) && nat_eq (slice_index text 0) 48 then None else number_below nodes 10 text

-- a switch of so many nodes: `a` or `b`, and its node
abbrev pub switch_in : ℕ → Text → Option ℕ
switch_in nodes [] = None
switch_in nodes (letter ∷ node) =
    if nat_eq letter 97 then option_map (λ n. 2 * n) (node_in nodes node)
    else if nat_eq letter 98 then option_map (λ n. 2 * n + 1) (node_in nodes node)
    else None

-- a switch that dies, and after `@` the number of events after which it does
abbrev pub kill_in : ℕ → Text → Option (ℕ × ℕ)
kill_in nodes text =
    option_and_then (λ switch. option_map (λ events. (switch, events))
    (number_in 0 EVENTS (after_first (λ c. c == 64) text))) (switch_in nodes (before_first (λ c. c == 64) text))

-- the same of an option that is given or isn't
abbrev pub kill_by : ℕ → Option Text → Option (Option (ℕ × ℕ))
kill_by nodes None = Some None
kill_by nodes (Some text) = option_map (λ kill. Some kill) (kill_in nodes text)

-- what a run on so many nodes goes by, from the options for its interval, its wait, its losses, its kill, its budget and its seed
abbrev pub run_rules_by : ℕ → Option Text → Option Text → Option Text → Option Text → Option Text → Option Text → Option RunRules
run_rules_by nodes interval wait lose_every kill budget seed =
    option_and_then (λ i. option_and_then (λ w. option_and_then (λ l. option_and_then (λ k. option_and_then (λ b. option_map (λ s.
    record { rules = record { interval = i; wait = w; lose_every = l; kill = k }; budget = b; seed = s })
    (number_by seed_rule seed)) (number_by budget_rule budget)) (kill_by nodes kill)) (number_by lose_rule lose_every))
    (number_by wait_rule wait))
    (number_by interval_rule interval)

-- whether a run on so many nodes can go by them
abbrev pub run_rules_fit : ℕ → RunRules → Bool
run_rules_fit nodes r = rules_fit nodes r.rules && lies_in 1 EVENTS r.budget
