use Rattle.std.proofs.Common.{◌∙◌, sym}
use Rattle.state_lines.proofs.Lined.{line-whole}
use Rattle.state_lines.proofs.applying.apply_with_line.Goals as goal

pub returns-clause-line : goal.returns-clause-line
returns-clause-line c =
    line-whole c.args.machine.now c.args.event.now c.apply_with_details.new.machine c.foresee-answer.result c.parts_touched-touched.result
    c.in_ok-apply_with_details.ensures.next c.has_its_nodes.ensures c.parts_touched-touched.ensures.parts c.args.text.now.items _ _ _ _ _ _
    c.in_ok-add_heading.ensures c.in_ok-apply_with_details.ensures.text c.in_ok-add_sent_by.ensures c.in_ok-add_told.ensures
    c.in_ok-add.ensures c.in_ok-add-2.ensures
