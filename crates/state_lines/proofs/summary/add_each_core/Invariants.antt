use Rattle.machine_states.specs.Machine.{flat_of}
use Rattle.state_json.specs.Lines.{core_texts}
use Rattle.state_texts.proofs.Lists.{AreBehind}
use Rattle.state_lines.proofs.summary.add_each_core.Given as goal

abbrev pub invariant-nodes : goal.invariant-nodes
invariant-nodes l = AreBehind l.initial.text.items l.text.items (core_texts l.number (flat_of l.machine)) l.others
