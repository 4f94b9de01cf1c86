use Rattle.state_json.specs.Details.{unready_texts}
use Rattle.state_texts.proofs.Lists.{AreBehind}
use Rattle.state_lines.proofs.unready.add_each_unready.Given as goal

abbrev pub invariant-nodes : goal.invariant-nodes
invariant-nodes l = AreBehind l.initial.text.items l.text.items (unready_texts l.number l.machine.state) l.others
