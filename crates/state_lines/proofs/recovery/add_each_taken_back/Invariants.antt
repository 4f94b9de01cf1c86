use Rattle.state_json.specs.Details.{taken_back_texts}
use Rattle.state_texts.proofs.Lists.{AreBehind}
use Rattle.state_lines.proofs.recovery.add_each_taken_back.Given as goal

abbrev pub invariant-nodes : goal.invariant-nodes
invariant-nodes l = AreBehind l.initial.text.items l.text.items (taken_back_texts l.number l.machine.state) l.others
