-- Which node's list is picked from, round all nodes.
use Rattle.std.proofs.Common.{◌≡◌, true, false, suc, ℕ, ◌+◌, ◌%◌, Option, Some, None, is_some, refl, sym, ap, ◌∙◌}
use Rattle.std.specs.Option.{option_or}
use Rattle.sn_base.specs.Image.{ImageData}
use Rattle.sn_base.specs.declared.config.Config.{Config}
use Rattle.sn_base.specs.declared.event.Event.{Event}
use Rattle.sn_base.specs.declared.rules.Rules.{Rules}
use Rattle.sn_model.specs.Machine.{State}
use Rattle.due_events.specs.Numbers.{Numbers}
use Rattle.due_events.specs.Lists.{list_of}
use Rattle.due_events.specs.Due.{event_picked, first_picked}

or_first : (r o : Option Event) → is_some r ≡ true → r ≡ option_or r o
or_first None o e = absurd cc
or_first (Some x) o e = refl

or_second : (r o : Option Event) → is_some r ≡ false → option_or r o ≡ o
or_second None o e = refl
or_second (Some x) o e = absurd cc

module _ (rules : Rules) (image : ImageData) (config : Config) (s : State) (x : Numbers) (pick left n : ℕ) (r : Option Event) (is : r ≡ event_picked pick (list_of rules image config s x n)) where
  abbrev rest : Option Event
  rest = first_picked rules image config s x pick left ((n + 1) % config.nodes)

  pub picked_here : is_some r ≡ true → r ≡ first_picked rules image config s x pick (suc left) n
  picked_here e = or_first r rest e ∙ ap (λ o. option_or o rest) is

  pub picked_later : is_some r ≡ false → first_picked rules image config s x pick (suc left) n ≡ rest
  picked_later e = sym (ap (λ o. option_or o rest) is) ∙ or_second r rest e
