use Rattle.state_json.specs.Parts.{dead_texts}
use Rattle.state_texts.proofs.Lists.{AreBehind}
use Rattle.machine_states.proofs.net.add_each_dead.Given as goal

abbrev pub invariant-switches : goal.invariant-switches
invariant-switches l = AreBehind l.initial.text.items l.text.items (dead_texts l.number l.machine.state.fabric.net.dead) l.others
