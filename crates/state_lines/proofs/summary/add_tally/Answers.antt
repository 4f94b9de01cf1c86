use Rattle.std.proofs.lemmas.Result.{on_ok_weaker}
use Rattle.state_lines.proofs.Summed.{tally-whole}
use Rattle.state_lines.proofs.summary.add_tally.Goals as goal

pub returns : goal.returns
returns g c =
    on_ok_weaker c.add-2.result
    (λ e. tally-whole _ c.args.text.now.items _ _ _ c.in_ok-add.ensures c.in_ok-add_each_number.ensures e) c.add-2.ensures
