use Rattle.std.proofs.Common.{◌∙◌, sym}
use Rattle.option_values.proofs.Switches.{no_switch}
use Rattle.option_values.proofs.run.read_switch.Goals as goal

pub returns-in_err-node-clause-switch : goal.returns-in_err-node-clause-switch
unfolding lib.Utf8.encode
returns-in_err-node-clause-switch c =
    c.from_residual-in_err-node.ensures
    ∙ sym (no_switch c.args.nodes c.args.text.now c.in_default.ensures.cases c.in_err-node.ensures.cases)
