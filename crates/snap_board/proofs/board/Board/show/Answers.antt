use Rattle.std.proofs.Common.{[], ◌∷◌, ◌++◌, sym, subst, ap, ◌∙◌}
use Rattle.atomic_table.specs.Table.{Me}
use Rattle.snap_board.specs.Snap.{SnapData}
use Rattle.snap_board.specs.declared.roll.Knowledge.{Knowledge}
use Rattle.snap_board.specs.Watching.{BoardData}
use Rattle.snap_board.specs.Fronts.{Rises, EndsIn}
use Rattle.snap_board.proofs.Fronts.{added_rises, ends_added}
use Rattle.snap_board.proofs.board.Board.show.Goals as goal

pub add-requires-clause-rises : goal.add-requires-clause-rises
add-requires-clause-rises g c =
    let kept = c.self.invariant in
    let last : SnapData = c.self.inside.last in
    let below = c.requires last (subst (λ (b : BoardData). EndsIn b.published last) c.self.view_is kept.2) in
    subst (λ (m : Me SnapData Knowledge). Rises (m.0.seen ++ c.args.snap ∷ [])) (sym c.tell.ensures.same.1)
    (added_rises _ _ _ kept.2 kept.1 below)

pub invariant_of-self-2 : goal.invariant_of-self-2
invariant_of-self-2 g c =
    let kept = c.self.invariant in
    let last : SnapData = c.self.inside.last in
    let below = c.requires last (subst (λ (b : BoardData). EndsIn b.published last) c.self.view_is kept.2) in
    let is = ap (λ (m : Me SnapData Knowledge). m.0.seen) c.post.ensures.same.1 ∙ c.add.ensures.seen
    ∙ ap (λ (m : Me SnapData Knowledge). m.0.seen ++ c.args.snap ∷ []) c.tell.ensures.same.1 in (
      ap (λ (m : Me SnapData Knowledge). m.0.leads) c.post.ensures.same.1 ∙ c.add.ensures.leads,
      subst Rises (sym is) (added_rises _ _ _ kept.2 kept.1 below),
      ends_added _ _ _ is,
      c.post.ensures.settled,
      c.post.ensures.shown,
    )
