use Rattle.state_json.specs.Details.{undone_texts}
use Rattle.state_texts.proofs.Lists.{AreBehind}
use Rattle.state_lines.proofs.recovery.add_each_undone.Given as goal

abbrev pub invariant-nodes : goal.invariant-nodes
invariant-nodes l = AreBehind l.initial.text.items l.text.items (undone_texts l.number l.machine.state) l.others
