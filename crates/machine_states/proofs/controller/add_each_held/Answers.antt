use Rattle.std.proofs.Common.{◌∙◌, sym, ap, ◌++◌, drop, ◌+◌, true, get_or}
use Rattle.std.specs.Prelude.{map}
use Rattle.state_json.specs.Json.{with_commas}
use Rattle.state_json.specs.Values.{held_text}
use Rattle.sn_machine.specs.Parts.{held_as}
use Rattle.machine_states.proofs.Lists.{things-more, things-end}
use Rattle.machine_states.proofs.controller.add_each_held.Goals as goal

pub bytes-preserved : goal.bytes-preserved
bytes-preserved c =
    ap (λ t. t ++ with_commas true (map held_text (map held_as (drop (c.bytes.one-index + 1) c.args.held.now))))
    (c.in_ok-add_held.ensures ∙ ap (λ t. t ++ held_text (held_as (get_or c.args.held.now c.bytes.one-index (record { interval = 0; entry = 0 }))))
    c.in_ok-add_comma.ensures)
    ∙ sym (things-more held_text held_as c.bytes.text.items c.bytes.others c.args.held.now c.bytes.one-index (record { interval = 0; entry = 0 })
    c.bytes-test.true)
    ∙ c.bytes.invariant

pub returns : goal.returns
returns c =
    sym (things-end held_text held_as c.bytes.text.items c.bytes.others c.args.held.now c.bytes.one-index c.bytes-test.false)
    ∙ c.bytes.invariant
