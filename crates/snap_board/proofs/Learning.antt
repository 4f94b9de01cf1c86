-- What a watcher keeps when it learns.
use Rattle.std.proofs.Common.{◌≡◌, ◌<◌, ◌≤◌, sym, subst, ◌∙◌, lt_of_not-le}
use native.Mathlib.Decide.{dec_le}
use Rattle.snap_board.specs.Snap.{SnapData}
use Rattle.snap_board.specs.Fronts.{Rises, EndsIn}
use Rattle.snap_board.specs.declared.roll.Knowledge.{Knowledge}
use Rattle.snap_board.specs.Keeps.{Heard, knowledge_after}
use Rattle.snap_board.proofs.Fronts.{ends_later, ends_same}

module _ (k note after : Knowledge) (s t last : SnapData) (heard : Heard (knowledge_after k note) after) (ends : EndsIn k.seen s) (listed : EndsIn note.seen t) (later : s.point < t.point → last ≡ t) (stays : t.point ≤ s.point → last ≡ s) where
  learned : Dec (t.point ≤ s.point) → EndsIn after.seen last
  learned (yes below) = subst (EndsIn after.seen) (sym (stays below))
      (ends_same k.seen note.seen after.seen s t heard.goes_on heard.heard heard.rises heard.longer ends listed below)
  learned (no above) = let rises : s.point < t.point = lt_of_not-le above in subst (EndsIn after.seen) (sym (later rises))
      (ends_later k.seen note.seen after.seen s t heard.goes_on heard.heard heard.rises heard.longer ends listed rises)

  pub learned_ends : EndsIn after.seen last
  learned_ends = learned (dec_le t.point s.point)
