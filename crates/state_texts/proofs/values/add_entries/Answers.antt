use Rattle.std.proofs.Common.{◌∙◌, sym, ap, ◌++◌, drop, ◌+◌, true, arith}
use Rattle.std.specs.Prelude.{map}
use Rattle.std.proofs.lemmas.Option.{get_or_from_slice_get}
use Rattle.state_json.specs.Json.{comma_after, with_commas}
use Rattle.state_json.specs.Values.{entry_text}
use Rattle.state_texts.proofs.Lists.{commas-more, commas-end}
use Rattle.state_texts.proofs.values.add_entries.Goals as goal

pub entries-preserved : goal.entries-preserved
entries-preserved g c =
    ap (λ t. t ++ with_commas true (map entry_text (drop (c.entries.place + 1) (g.E.Entries.entries c.args.log.now))))
    (c.in_ok-add_entry.ensures ∙ ap (λ t. t ++ entry_text c.entry.result.now) c.in_ok-add_comma.ensures
    ∙ ap (λ t. (c.entries.text.items ++ comma_after c.entries.others) ++ entry_text t) (sym (get_or_from_slice_get
    (g.E.Entries.entries c.args.log.now) c.entries.place c.entry.result.now c.entry.result.now c.entry.ensures)))
    ∙ sym (commas-more entry_text c.entries.text.items c.entries.others (g.E.Entries.entries c.args.log.now) c.entries.place
    c.entry.result.now (omega (arith, c.entries-test.true, c.count-place-end.ensures)))
    ∙ c.entries.invariant

pub returns : goal.returns
returns g c =
    sym (commas-end entry_text c.entries.text.items c.entries.others (g.E.Entries.entries c.args.log.now) c.entries.place
    (omega (arith, c.entries-test.false, c.count-place-end.ensures)))
    ∙ c.entries.invariant
