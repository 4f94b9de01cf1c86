use Rattle.state_json.specs.Parts.{home_texts}
use Rattle.state_texts.proofs.Lists.{AreBehind}
use Rattle.machine_states.proofs.state.add_each_home.Given as goal

abbrev pub invariant-homes : goal.invariant-homes
invariant-homes l =
    AreBehind l.initial.text.items l.text.items (home_texts l.machine.image l.number l.machine.state) l.others
