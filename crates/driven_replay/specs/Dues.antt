-- What is due to a worker, by a driver that has counted the events of a drive.
use Rattle.std.specs.Prelude.{ℕ, List, ◌++◌, codes, Option, None}
use Rattle.sn_base.specs.Image.{ImageData}
use Rattle.sn_base.specs.declared.config.Config.{Config}
use Rattle.sn_base.specs.declared.event.Event.{Event}
use Rattle.sn_base.specs.declared.rules.Rules.{Rules}
use Rattle.option_values.specs.Runs.{interval_rule, wait_rule, lose_rule}
use Rattle.sn_model.specs.Machine.{State, start_of}
use Rattle.sn_text.specs.Text.{event_text}
use Rattle.due_events.specs.Numbers.{Numbers, first_numbers}
use Rattle.due_events.specs.Runs.{numbers_along}
use Rattle.due_events.specs.Due.{due_of}
use Rattle.state_json.specs.Json.{quotation_of, opens, closes, or_null}

-- the rules of a run where no option says otherwise
abbrev pub usual_rules : Rules
usual_rules = record { interval = interval_rule.default; wait = wait_rule.default; lose_every = lose_rule.default; kill = None }

-- what a driver has counted of these events, from the program's start on
abbrev pub numbers_of : ImageData → Config → List Event → Numbers
numbers_of image config events = numbers_along image config (start_of image config.nodes) first_numbers events

-- the event that is due by those rules to a worker that draws this number
abbrev pub usually_due : ImageData → Config → State → Numbers → ℕ → ℕ → Option Event
usually_due image config s x worker pick = due_of usual_rules image config s x worker pick

unfoldable pub due_text : Option Event → List ℕ
due_text event = opens (codes "event") (or_null (λ e. quotation_of (event_text e)) event) ++ closes
