use Rattle.validation.proofs.Reports.{all_at}
use Rattle.validation.proofs.Controller.at.Goals as goal

pub returns : goal.returns
returns c = all_at c.args.point c.args.point c.args.nodes c.from.result c.requires.few c.from.ensures
