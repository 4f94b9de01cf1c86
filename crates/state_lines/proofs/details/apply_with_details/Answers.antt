use Rattle.std.proofs.Common.{◌++◌, ◌∙◌, ap, List, ℕ}
use Rattle.state_lines.proofs.DetailLaws.{found-is}
use Rattle.state_lines.proofs.details.apply_with_details.Goals as goal

pub returns-in_ok-add_found-in_default : goal.returns-in_ok-add_found-in_default
returns-in_ok-add_found-in_default c = record {
  text = c.in_ok-add_found-in_default.ensures
      ∙ ap (λ (t : List ℕ). c.args.text.now.items ++ t)
      (found-is c.args.machine.now.image c.args.machine.now.state c.args.event.now c.args.answer.now c.in_default.not-Step);
  next = record { answer = c.requires.foreseen; left = c.apply.ensures.applied.left };
}
