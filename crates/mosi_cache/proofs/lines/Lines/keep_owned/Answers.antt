use Rattle.std.proofs.Common.{ℕ, List, [], length, sym, ap, ◌∙◌}
use Rattle.std.specs.Prelude.{map}
use Rattle.sn_model.specs.Caches.{Line}
use Rattle.mosi_cache.specs.Frames.{LinesData, lines_of}
use Rattle.mosi_cache.specs.Restored.{begun_line}
use Rattle.mosi_cache.proofs.Unshared.{IsBegun, map-begun, lines-begun, settled-begun}
use Rattle.mosi_cache.proofs.lines.Lines.keep_owned.Goals as goal

-- the value of lines in so many sets and ways
abbrev value : List Line → LinesData → LinesData
value ls d = record d { lines = ls }

begun : (c : goal.After-clear) → IsBegun c.self.inside.frames c.settle.new.frames c.self.inside.kept.items c.settle.new.kept.items
begun c = record { old = c.self.invariant.0; unshared = c.settle.ensures }

pub returns : goal.returns
returns c =
    ap (λ (ls : List Line). value ls (record { lines = []; sets = c.settle.new.frames.sets; ways = c.settle.new.frames.ways }))
    (map-begun _ _ _ _ (begun c))
    ∙ ap (λ (n : ℕ). value (map begun_line (lines_of c.self.inside.frames c.self.inside.kept.items))
    (record { lines = []; sets = n; ways = c.settle.new.frames.ways })) c.settle.ensures.sets
    ∙ ap (λ (n : ℕ). value (map begun_line (lines_of c.self.inside.frames c.self.inside.kept.items))
    (record { lines = []; sets = c.self.inside.frames.sets; ways = n })) c.settle.ensures.ways
    ∙ ap (λ (d : LinesData). value (map begun_line d.lines) d) c.self.view_is

-- no frame is touched any more
pub invariant_of-self : goal.invariant_of-self
invariant_of-self c = (
  lines-begun _ _ _ _ (begun c),
  c.self.invariant.1 ∙ sym c.settle.ensures.sets,
  c.self.invariant.2 ∙ sym c.settle.ensures.ways,
  rw c.clear.ensures (settled-begun (length c.self.inside.touched) _ _ _ _ c.self.invariant.3.whole c.settle.ensures),
)
