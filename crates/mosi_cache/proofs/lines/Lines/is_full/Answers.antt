use Rattle.std.proofs.Common.{ap, ◌∙◌}
use Rattle.std.specs.Prelude.{nat_le}
use Rattle.sn_model.specs.Caches.{frames_taken, cache_of_lines}
use Rattle.mosi_cache.specs.Frames.{LinesData}
use Rattle.mosi_cache.proofs.Counts.{full-taken}
use Rattle.mosi_cache.proofs.lines.Lines.is_full.Goals as goal

pub returns : goal.returns
returns c =
    c.set_full.ensures
    ∙ full-taken c.self.inside.frames c.self.inside.kept.items c.args.block c.self.invariant.0
    ∙ ap (λ (d : LinesData). nat_le d.ways (frames_taken (cache_of_lines d.lines) d.sets c.args.block)) c.self.view_is
