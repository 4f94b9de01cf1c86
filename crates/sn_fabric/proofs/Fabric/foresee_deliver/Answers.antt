use Rattle.std.proofs.Common.{◌∙◌}
use Rattle.sn_fabric.proofs.Planned.{planned-answer}
use Rattle.sn_fabric.proofs.Fabric.foresee_deliver.Goals as goal

pub returns : goal.returns
returns c = c.answer_of.ensures ∙ planned-answer c.args.self.now.config c.args.self.now.fabric c.args.id c.plan-plan.result c.plan-plan.ensures
