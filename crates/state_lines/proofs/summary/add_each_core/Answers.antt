use Rattle.std.proofs.Common.{ℕ, ◌++◌, ◌∙◌, ap}
use Rattle.rv_core.specs.declared.state.CoreState.{CoreState}
use Rattle.rv_core.specs.Core.{bare}
use Rattle.rv_core.specs.Flat.{core_at}
use Rattle.machine_states.specs.Machine.{MachineData, flat_of}
use Rattle.state_json.specs.Values.{core_text}
use Rattle.state_lines.proofs.Summed.{cores-next}
use Rattle.state_lines.proofs.summary.add_each_core.Goals as goal

pub nodes-preserved : goal.nodes-preserved
nodes-preserved c =
    cores-next c.args.text.now.items c.nodes.text.items _ _ c.nodes.number (flat_of c.args.machine.now) c.nodes.others c.nodes.invariant
    c.in_ok-add_comma.ensures
    (c.in_ok-add_core.ensures ∙ ap (λ (k : CoreState). c.add_comma.new.text.items ++ core_text k) c.core.ensures
    ∙ ap (λ (t : MachineData). c.add_comma.new.text.items ++ core_text (bare (core_at (flat_of t) c.numbered.result)))
    c.recovered-view.ensures.shown
    ∙ ap (λ (k : ℕ). c.add_comma.new.text.items ++ core_text (bare (core_at (flat_of c.args.machine.now) k))) c.numbered.ensures)
