use Rattle.std.proofs.Common.{sym, ◌∙◌}
use Rattle.snap_board.proofs.Learning.{learned_ends}
use Rattle.snap_board.proofs.watcher.Watcher.learn.Goals as goal

pub invariant_of-self : goal.invariant_of-self
invariant_of-self c =
    let was = c.self.invariant in
    let heard = c.hear.ensures.heard in (
      heard.leads ∙ was.0,
      heard.rises,
      learned_ends c.self.inside.holder.note.me.0 c.receipt.inside.note.me.0 c.hear.new.self.note.me.0 c.self.inside.last c.receipt.inside.last c.go_by.new.last heard was.2 c.receipt.invariant.0 c.go_by.ensures.later c.go_by.ensures.stays,
      was.3,
      was.4 ∙ sym c.hear.ensures.same,
    )
