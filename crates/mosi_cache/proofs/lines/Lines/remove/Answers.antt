use Rattle.std.proofs.Common.{◌≡◌, ℕ, List, [], set, Option, Some, None, true, refl, sym, ap, subst, ◌∙◌}
use Rattle.std.specs.Prelude.{is_some, IfSome}
use Rattle.cache_array.specs.Slots.{FrameSlots, frame_of, slots_without_block}
use Rattle.sn_model.specs.Caches.{Line, no_line, line_at}
use Rattle.mosi_cache.specs.Frames.{LinesData, lines_of}
use Rattle.mosi_cache.proofs.Changes.{Changed, dropped, nothing-removed, read-absent, is-none}
use Rattle.mosi_cache.proofs.lines.Lines.remove.Goals as goal

-- the value of lines in so many sets and ways
abbrev value : List Line → LinesData → LinesData
value ls d = record d { lines = ls }

gone : (c : goal.After-drop_frame) →
    Changed c.self.inside.frames c.drop_frame.new.self c.self.inside.kept.items c.self.inside.kept.items c.args.block no_line
gone c =
    dropped c.self.inside.frames c.drop_frame.new.self c.self.inside.kept.items c.args.block
    (frame_of c.self.inside.frames c.args.block) c.self.invariant.0 refl
    (ap is_some (sym c.find.ensures.frame) ∙ sym c.is_some.ensures ∙ c.if-is_some.true) c.drop_frame.ensures.slots

sizes : (d e : FrameSlots) (o : Option ℕ) → is_some o ≡ true → IfSome o (λ f. e ≡ slots_without_block d f) → (d.sets ≡ e.sets) × (d.ways ≡ e.ways)
sizes d e None h q = cc
sizes d e (Some f) h q = (ap (λ (x : FrameSlots). x.sets) (sym q), ap (λ (x : FrameSlots). x.ways) (sym q))

value_of : (ls : List Line) (s t w v : ℕ) → s ≡ t → w ≡ v →
    value ls (record { lines = []; sets = s; ways = w }) ≡ value ls (record { lines = []; sets = t; ways = v })
value_of ls s t w v e f = rw (e, f) refl

pub returns-then-is_some-clause-lines : goal.returns-then-is_some-clause-lines
returns-then-is_some-clause-lines c =
    let z = sizes c.self.inside.frames c.drop_frame.new.self (frame_of c.self.inside.frames c.args.block)
    (ap is_some (sym c.find.ensures.frame) ∙ sym c.is_some.ensures ∙ c.if-is_some.true) c.drop_frame.ensures.slots in
    ap (λ (ls : List Line). value ls (record { lines = []; sets = c.drop_frame.new.self.sets; ways = c.drop_frame.new.self.ways }))
    (gone c).lines
    ∙ value_of
    (set
    (lines_of c.self.inside.frames c.self.inside.kept.items) c.args.block no_line) c.drop_frame.new.self.sets c.self.inside.frames.sets c.drop_frame.new.self.ways c.self.inside.frames.ways (sym z.0) (sym z.1)
    ∙ ap (λ (d : LinesData). value (set d.lines c.args.block no_line) d) c.self.view_is

pub returns-then-is_some-clause-gone : goal.returns-then-is_some-clause-gone
returns-then-is_some-clause-gone c = (gone c).read

free : (c : goal.Else-is_some) → frame_of c.self.inside.frames c.args.block ≡ None
free c = sym c.find.ensures.frame ∙ is-none c.find.result (sym c.is_some.ensures ∙ c.if-is_some.false)

pub returns-else-is_some-clause-lines : goal.returns-else-is_some-clause-lines
returns-else-is_some-clause-lines c =
    subst (λ (d : LinesData). d ≡ value (set d.lines c.args.block no_line) d) c.self.view_is
    (ap (λ (ls : List Line). value ls (record { lines = []; sets = c.self.inside.frames.sets; ways = c.self.inside.frames.ways }))
    (nothing-removed c.self.inside.frames c.self.inside.kept.items c.args.block (free c)))

pub returns-else-is_some-clause-gone : goal.returns-else-is_some-clause-gone
returns-else-is_some-clause-gone c =
    subst (λ (d : LinesData). line_at d.lines c.args.block ≡ no_line) c.self.view_is
    (read-absent c.self.inside.frames c.self.inside.kept.items c.args.block (free c))
