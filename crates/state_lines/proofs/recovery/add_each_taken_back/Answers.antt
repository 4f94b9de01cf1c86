use Rattle.std.proofs.Common.{ℕ, ◌++◌, ◌∙◌, ap, length, List}
use Rattle.std.specs.Prelude.{decimal, map}
use Rattle.machine_states.specs.Parts.{retirement_as}
use Rattle.sn_model.specs.Machine.{Retirement}
use Rattle.state_parts.specs.Parts.{waiting_of}
use Rattle.state_texts.proofs.Lists.{none-behind}
use Rattle.state_lines.proofs.Taken.{taken-next}
use Rattle.state_lines.proofs.recovery.add_each_taken_back.Goals as goal

pub nodes-init : goal.nodes-init
nodes-init c = none-behind c.args.text.now.items

pub nodes-preserved : goal.nodes-preserved
nodes-preserved c =
    taken-next c.args.text.now.items c.nodes.text.items _ _ c.nodes.number c.args.machine.now.state c.nodes.others c.nodes.invariant
    c.in_ok-add_comma.ensures
    (c.in_ok-add_number.ensures ∙ ap (λ (k : ℕ). c.add_comma.new.text.items ++ decimal k) c.count_of.ensures.count
    ∙ ap (λ (k : ℕ). c.add_comma.new.text.items ++ decimal (length (waiting_of k (map retirement_as c.pending.result.now)))) c.numbered.ensures
    ∙ ap (λ (rs : List Retirement). c.add_comma.new.text.items ++ decimal (length (waiting_of c.nodes.number rs))) c.pending.ensures)
