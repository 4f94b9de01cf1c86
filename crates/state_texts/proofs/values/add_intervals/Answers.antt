use Rattle.std.proofs.Common.{◌∙◌, sym, ap, ◌++◌, drop, ◌+◌, true, get_or}
use Rattle.std.specs.Prelude.{map, decimal}
use Rattle.state_json.specs.Json.{with_commas}
use Rattle.state_texts.proofs.Lists.{commas-more, commas-end}
use Rattle.state_texts.proofs.values.add_intervals.Goals as goal

pub nodes-preserved : goal.nodes-preserved
nodes-preserved c =
    ap (λ t. t ++ with_commas true (map decimal (drop (c.nodes.interval-index + 1) c.args.intervals.now)))
    (c.in_ok-add_number.ensures ∙ ap (λ t. c.add_comma.new.text.items ++ decimal t) c.from.ensures
    ∙ ap (λ t. t ++ decimal (get_or c.args.intervals.now c.nodes.interval-index 0)) c.in_ok-add_comma.ensures)
    ∙ sym (commas-more decimal c.nodes.text.items c.nodes.others c.args.intervals.now c.nodes.interval-index 0 c.nodes-test.true)
    ∙ c.nodes.invariant

pub returns : goal.returns
returns c =
    sym (commas-end decimal c.nodes.text.items c.nodes.others c.args.intervals.now c.nodes.interval-index c.nodes-test.false)
    ∙ c.nodes.invariant
