use Rattle.std.proofs.Common.{◌≡◌, Some, true, sym, ap, ◌∙◌, subst}
use Rattle.cache_array.specs.Slots.{frame_of}
use Rattle.sn_model.specs.Caches.{no_line, is_present, line_at}
use Rattle.mosi_cache.specs.Frames.{FrameLine, LinesData, line_kept, kept_at}
use Rattle.mosi_cache.proofs.Changes.{read-found, read-absent, frame-kept, kept-read}
use Rattle.mosi_cache.proofs.lines.Lines.find.Goals as goal

pub returns-in_err-frame-clause-none : goal.returns-in_err-frame-clause-none
returns-in_err-frame-clause-none c = λ _.
    subst (λ (d : LinesData). line_at d.lines c.args.block ≡ no_line) c.self.view_is
    (read-absent c.self.inside.frames c.self.inside.kept.items c.args.block (sym c.find.ensures.frame ∙ c.in_err-frame.was))

found : (c : goal.After-index) → frame_of c.self.inside.frames c.args.block ≡ Some c.in_ok-frame.frame
found c = sym c.find.ensures.frame ∙ c.in_ok-frame.was

read : (c : goal.After-index) → c.index.result.now ≡ kept_at c.self.inside.kept.items c.in_ok-frame.frame
read c =
    c.index.ensures
    ∙ kept-read c.self.inside.kept.items c.in_ok-frame.frame c.index.result.now
    (frame-kept c.self.inside.frames c.self.inside.kept.items c.args.block c.in_ok-frame.frame c.self.invariant.0 (found c))

pub returns-clause-some : goal.returns-clause-some
returns-clause-some c =
    let r = read-found c.self.inside.frames c.self.inside.kept.items c.args.block c.in_ok-frame.frame c.self.invariant.0 (found c) in (
      subst (λ (d : LinesData). line_at d.lines c.args.block ≡ line_kept c.index.result.now) c.self.view_is
          (r.0 ∙ ap line_kept (sym (read c))),
      subst (λ (k : FrameLine). is_present k.state ≡ true) (sym (read c)) r.1,
    )
