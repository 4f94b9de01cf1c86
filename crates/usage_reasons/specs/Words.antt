-- What a word of a call looks like.
use Rattle.std.specs.Prelude.{◌==◌, Bool, ◌&&◌, ◌||◌, nat_lt, bytes_eq, if◌then◌else◌, List, length, take, find, codes, Option, Some, None}
use Rattle.std.specs.List.{list_any, position_or_len, before_first, after_first}
use Rattle.option_values.specs.Values.{Text}
use Rattle.usage_reasons.specs.declared.table.Command.{Command}
use Rattle.usage_reasons.specs.declared.table.Key.{Key}
use Rattle.usage_reasons.specs.Table.{options_of, key_of}

abbrev pub begins : Text → Text → Bool
begins front word = bytes_eq (take (length front) word) front

-- a hyphen and more, as `-x`
abbrev pub is_short : Text → Bool
is_short word = nat_lt 1 (length word) && begins (codes "-") word

-- a word that asks for help
abbrev pub is_help : Text → Bool
is_help word = bytes_eq word (codes "--help") || bytes_eq word (codes "-h") || bytes_eq word (codes "help")

abbrev pub is_among : List Text → Text → Bool
is_among words word = list_any (λ known. bytes_eq known word) words

-- the option of `--name` or `--name=value`, with its hyphens: what stands before the first equals sign
abbrev pub option_in : Text → Text
option_in word = before_first (λ c. c == 61) word

-- the value of `--name=value`
abbrev pub value_in : Text → Option Text
value_in word =
    if nat_lt (position_or_len (λ c. c == 61) word) (length word) then Some (after_first (λ c. c == 61) word) else None

-- what the value of an option is, where the command has the option and it takes one
abbrev pub key_in : Command → Text → Option Key
key_in command option = if is_among (options_of command) option then key_of option else None

-- whether one of the words is the option
abbrev pub is_given : Text → List Text → Bool
is_given option words = list_any (λ word. bytes_eq (option_in word) option) words

-- the first of the options that one of the words is
abbrev pub first_given : List Text → List Text → Option Text
first_given options words = find (λ option. is_given option words) options
