use Rattle.sn_model.specs.Fabric.{node_at}
use Rattle.state_json.specs.Values.{line_texts}
use Rattle.state_texts.proofs.Lists.{AreBehind}
use Rattle.machine_states.proofs.node.add_each_line.Given as goal

abbrev pub invariant-lines : goal.invariant-lines
invariant-lines l =
    AreBehind l.initial.text.items l.text.items (line_texts l.number (node_at l.machine.state.fabric l.node).cache) l.others
