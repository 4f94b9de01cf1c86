use Rattle.std.proofs.Common.{◌+◌, ℕ, Option, sym, ◌∙◌, subst}
use Rattle.mosi_cache.specs.Frames.{leaving_at, IsLeastLeaving}
use Rattle.mosi_cache.proofs.Least.{least-none-more, least-some-more}
use Rattle.mosi_cache.proofs.lines.least_of.Goals as goal
use Rattle.mosi_cache.proofs.lines.least_of.Goals.{in-Some, in_default}

pub frames-preserved : goal.frames-preserved
frames-preserved c =
    let leaving = leaving_at c.args.frames.now c.args.kept.now c.args.spared.now c.args.owned_too in
    elim c.match-leaving.branch [
      | in-Some w ↦
          subst (λ (o : Option ℕ). IsLeastLeaving leaving c.args.first (c.frames.frame + 1) o) (sym w.least-is)
          (least-some-more leaving c.args.first c.frames.frame w.in-Some.number c.frames.least w.lesser.result c.frames.auto.frame c.frames.invariant (sym c.leaving.ensures ∙ w.in-Some.is) w.lesser.ensures)
      | in_default w ↦
          subst (λ (o : Option ℕ). IsLeastLeaving leaving c.args.first (c.frames.frame + 1) o) (sym w.least-is)
          (least-none-more leaving c.args.first c.frames.frame c.frames.least c.frames.invariant (sym c.leaving.ensures ∙ w.in_default.is))
    ]
