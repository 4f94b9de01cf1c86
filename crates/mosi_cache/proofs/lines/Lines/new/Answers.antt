use Rattle.std.proofs.Common.{List, ap, ◌∙◌}
use Rattle.cache_array.specs.Slots.{FrameSlots}
use Rattle.sn_model.specs.Caches.{Line}
use Rattle.mosi_cache.specs.Frames.{LinesData, lines_of}
use Rattle.mosi_cache.proofs.Frames.{lines-none}
use Rattle.mosi_cache.proofs.lines.Lines.new.Goals as goal

pub returns : goal.returns
returns c =
    ap (λ (f : FrameSlots). let d : LinesData = record { lines = lines_of f c.in_ok-kept.kept.items; sets = f.sets; ways = f.ways } in
    d) c.in_ok-frames.ensures.frames
    ∙ ap (λ (ls : List Line). let d : LinesData = record { lines = ls; sets = c.args.sets; ways = c.args.ways } in d)
    (lines-none c.args.sets c.args.ways c.in_ok-kept.kept.items)
