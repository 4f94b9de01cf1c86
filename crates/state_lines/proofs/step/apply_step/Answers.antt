use Rattle.std.proofs.Common.{◌++◌, ◌∙◌, ap, sym, List, ℕ}
use Rattle.std.proofs.lemmas.Result.{on_ok_weaker}
use Rattle.state_lines.proofs.Steps.{told-ended, step-finishes, told-by, told-by-none, applied-so}
use Rattle.state_lines.proofs.step.apply_step.Goals as goal

pub add_core_step-requires : goal.add_core_step-requires
add_core_step-requires c =
    step-finishes c.args.machine.now c.apply.new.self c.args.node c.apply.result c.apply.ensures.applied c.apply.ensures.run c.in-Retired.is
    c.last_record.result c.last_record.ensures c.image.result.now c.core.result.now c.image.ensures c.core.ensures

pub returns-in-Ended-clause-text : goal.returns-in-Ended-clause-text
returns-in-Ended-clause-text c =
    told-ended c.args.machine.now.image c.args.machine.now.state c.args.node c.args.text.now.items _
    (sym c.apply.ensures.applied.answer ∙ c.in-Ended.is)

pub returns-in-Retired-clause-text : goal.returns-in-Retired-clause-text
returns-in-Retired-clause-text c =
    on_ok_weaker c.add_core_step.result
    (λ e. e ∙ ap (λ (t : List ℕ). c.args.text.now.items ++ t)
    (told-by c.args.machine.now c.apply.new.self c.args.node c.apply.result c.apply.ensures.applied c.apply.ensures.run c.in-Retired.is
    c.last_record.result c.last_record.ensures c.image.result.now c.core.result.now c.image.ensures c.core.ensures)) c.add_core_step.ensures

pub returns-in_default : goal.returns-in_default
returns-in_default c = record {
  text = on_ok_weaker c.add_core_step-in_default.result
      (λ e. e ∙ ap (λ (t : List ℕ). c.args.text.now.items ++ t)
      (told-by-none c.args.machine.now c.apply.new.self c.args.node c.apply.result c.apply.ensures.applied c.in_default.not-Ended
      c.in_default.not-Retired c.image-in_default.result.now c.core.result.now c.image-in_default.ensures c.core.ensures))
      c.add_core_step-in_default.ensures;
  next = on_ok_weaker c.add_core_step-in_default.result (λ e. applied-so c.args.machine.now c.apply.new.self _ c.apply.result c.apply.ensures.applied)
      c.add_core_step-in_default.ensures;
}
