use Rattle.text_lines.proofs.Ends.{lines-few}
use Rattle.text_lines.proofs.lines_of.Goals as goal

pub returns-clause-few : goal.returns-clause-few
returns-clause-few c = lines-few c.args.text.now
