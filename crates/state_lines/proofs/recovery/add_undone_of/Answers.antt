use Rattle.std.proofs.Common.{arith}
use Rattle.std.proofs.lemmas.Option.{get_or_from_slice_get}
use Rattle.state_lines.proofs.Undone.{undone_from, undone-starts, undone-next, undone-end}
use Rattle.state_lines.proofs.recovery.add_undone_of.Goals as goal

pub entries-init : goal.entries-init
entries-init c = undone-starts c.args.text.now.items (undone_from c.args.point c.args.node c.args.log.now.entries) c.args.others

pub entries-preserved : goal.entries-preserved
entries-preserved c =
    undone-next c.args.text.now.items (undone_from c.args.point c.args.node c.args.log.now.entries) c.args.others c.args.point c.args.node
    c.args.log.now.entries c.entries.place c.entry.result.now (omega (arith, c.entries-test.true, c.count-place-end.ensures))
    (get_or_from_slice_get c.args.log.now.entries c.entries.place c.entry.result.now c.entry.result.now c.entry.ensures)
    c.entries.text.items _ c.entries.some _ c.entries.invariant c.in_ok-some.ensures

pub returns : goal.returns
returns c =
    undone-end c.args.text.now.items c.entries.text.items (undone_from c.args.point c.args.node c.args.log.now.entries) c.args.point c.args.node
    c.args.log.now.entries c.entries.place c.args.others c.entries.some (omega (arith, c.entries-test.false, c.count-place-end.ensures))
    c.entries.invariant
