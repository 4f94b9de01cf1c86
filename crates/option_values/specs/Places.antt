-- What the text of an option for places of events means.
use Rattle.std.specs.Prelude.{◌==◌, Bool, ◌&&◌, nat_le, if◌then◌else◌, Option, Some, None, option_map, option_and_then}
use Rattle.std.specs.List.{before_first, after_first}
use Rattle.sn_base.specs.Config.{lies_in}
use Rattle.option_values.specs.Values.{Text, number_in}
use Rattle.option_values.specs.declared.places.Places.{Places}
use Rattle.sn_base.specs.declared.limits.TheConstants.{EVENTS}

-- two places with `-` between them, the second not before the first
abbrev pub places_in : Text → Option Places
places_in text =
    option_and_then (λ from. option_and_then (λ to. if nat_le from to then Some (record { from = from; to = to }) else None)
    (number_in 1 EVENTS (after_first (λ c. c == 45) text))) (number_in 1 EVENTS (before_first (λ c. c == 45) text))

-- the same of an option that is given or isn't
abbrev pub places_by : Option Text → Option (Option Places)
places_by None = Some None
places_by (Some text) = option_map (λ places. Some places) (places_in text)

-- whether they are places of events, in their order
abbrev pub places_fit : Places → Bool
places_fit places = lies_in 1 EVENTS places.from && (lies_in 1 EVENTS places.to && nat_le places.from places.to)
