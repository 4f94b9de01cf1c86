use Rattle.state_json.specs.Parts.{node_texts}
use Rattle.state_texts.proofs.Lists.{AreBehind}
use Rattle.machine_states.proofs.state.add_each_node.Given as goal

abbrev pub invariant-nodes : goal.invariant-nodes
invariant-nodes l = AreBehind l.initial.text.items l.text.items (node_texts l.number l.machine.state) l.others
