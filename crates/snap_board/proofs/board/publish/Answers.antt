use Rattle.std.proofs.Common.{sym, subst, ap, ◌∙◌}
use Rattle.atomic_table.specs.Perched.{Roost}
use Rattle.sn_consistency.specs.Committed.{Begins}
use Rattle.snap_board.specs.declared.roll.Knowledge.{Knowledge}
use Rattle.snap_board.proofs.Seen.{turns}
use Rattle.snap_board.proofs.board.publish.Goals as goal

pub publish_as-writer-requires : goal.publish_as-writer-requires
publish_as-writer-requires g c next is =
    let shown = c.args.writer.desk.shown.value in
    turns _ _ shown next (ap (λ (p : Roost Knowledge). p.table_id) is ∙ c.requires.board)
    (subst (λ (p : Roost Knowledge). Begins shown.perch.view.seen p.view.seen) (sym is) c.requires.goes_on)
