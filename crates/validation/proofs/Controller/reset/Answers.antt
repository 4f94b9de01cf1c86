use Rattle.validation.proofs.Reports.{all_again}
use Rattle.validation.proofs.Controller.reset.Goals as goal

pub returns : goal.returns
returns c =
    all_again c.self.inside.point c.self.inside.nodes c.self.inside.reports c.args.self.now c.self.view_is c.self.invariant.1 c.self.told
