use Rattle.std.proofs.Common.{drop}
use Rattle.state_lines.proofs.Undone.{AreLeft, undone_from}
use Rattle.state_lines.proofs.recovery.add_undone_of.Given as goal

abbrev pub invariant-entries : goal.invariant-entries
invariant-entries l =
    AreLeft l.initial.text.items (undone_from l.point l.node l.log.entries) l.others l.text.items
    (undone_from l.point l.node (drop l.place l.log.entries)) l.some
