use Rattle.state_json.specs.Values.{marked_texts}
use Rattle.state_texts.proofs.Lists.{AreBehind}
use Rattle.state_texts.proofs.values.add_marked.Given as goal

abbrev pub invariant-nodes : goal.invariant-nodes
invariant-nodes l = AreBehind l.initial.text.items l.text.items (marked_texts l.number l.sharers) l.others
