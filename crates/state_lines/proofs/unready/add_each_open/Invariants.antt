use Rattle.state_json.specs.Details.{open_texts}
use Rattle.state_texts.proofs.Lists.{AreBehind}
use Rattle.state_lines.proofs.unready.add_each_open.Given as goal

abbrev pub invariant-numbers : goal.invariant-numbers
invariant-numbers l =
    AreBehind l.initial.text.items l.text.items (open_texts l.number l.machine.state.fabric l.node l.k) l.others
