-- What the texts of option values mean.
use Rattle.std.specs.Prelude.{ℕ, ◌%◌, ◌+◌, ◌-◌, Bool, ◌&&◌, nat_eq, nat_le, nat_lt, if◌then◌else◌, List, length, Option, Some, None}
use Rattle.std.specs.Prelude.{option_map, option_and_then}
use Rattle.std.specs.Char.{is_digit}
use Rattle.std.specs.List.{list_all}
use Rattle.std.specs.Str.Parse.{digits_value}
use Rattle.sn_base.specs.Blocks.{ram_start, ram_size}
use Rattle.sn_base.specs.Config.{lies_in}
use Rattle.sn_base.specs.declared.config.Config.{Config}
use Rattle.option_values.specs.declared.number.NumberRule.{NumberRule}
use Rattle.sn_base.specs.declared.limits.TheConstants.{EVENTS}

abbrev pub Text : Type 0
Text = List ℕ

-- whether a text is digits of a radix, one or more, and nothing else
abbrev pub are_digits : ℕ → Text → Bool
are_digits radix text = nat_lt 0 (length text) && list_all (λ c. is_digit c radix) text

-- the number that such a text writes, where it is below a limit
abbrev pub number_below : ℕ → ℕ → Text → Option ℕ
number_below limit radix text =
    if are_digits radix text && nat_lt (digits_value radix text) limit then Some (digits_value radix text) else None

-- a number of a range, in at most 20 decimal digits, of which the first may be zeros
abbrev pub number_in : ℕ → ℕ → Text → Option ℕ
number_in least greatest text =
    if nat_le (length text) 20 && are_digits 10 text && lies_in least greatest (digits_value 10 text) then Some (digits_value 10 text)
    else None

-- the number of an option that is given or isn't
abbrev pub number_by : NumberRule → Option Text → Option ℕ
number_by rule None = Some rule.default
number_by rule (Some text) = number_in rule.least rule.greatest text

abbrev pub nodes_rule : NumberRule
nodes_rule = record { least = 1; greatest = 16; default = 4 }

abbrev pub sets_rule : NumberRule
sets_rule = record { least = 1; greatest = 256; default = 16 }

abbrev pub ways_rule : NumberRule
ways_rule = record { least = 1; greatest = 16; default = 4 }

abbrev pub log_rule : NumberRule
log_rule = record { least = 4; greatest = 4096; default = 256 }

-- the sizes of a machine, by the options for its nodes, its sets, its ways and its log
abbrev pub config_by : Option Text → Option Text → Option Text → Option Text → Option Config
config_by nodes sets ways log =
    option_and_then (λ n. option_and_then (λ s. option_and_then (λ w. option_map (λ l. record { nodes = n; sets = s; ways = w; log = l })
    (number_by log_rule log)) (number_by ways_rule ways)) (number_by sets_rule sets)) (number_by nodes_rule nodes)

-- whether an address is that of an aligned word of memory
abbrev pub is_word_address : ℕ → Bool
is_word_address address = lies_in ram_start (ram_start + ram_size - 1) address && nat_eq (address % 4) 0

-- the address of a word of memory, in eight hexadecimal digits
abbrev pub address_in : Text → Option ℕ
address_in text =
    if nat_eq (length text) 8 && are_digits 16 text && is_word_address (digits_value 16 text) then Some (digits_value 16 text) else None

-- the address to be watched, or that there is none
abbrev pub watch_by : Option Text → Option (Option ℕ)
watch_by None = Some None
watch_by (Some text) = option_map (λ address. Some address) (address_in text)

-- the size of a demonstration
abbrev pub demo_size : Text → Option ℕ
demo_size = number_in 1 EVENTS
