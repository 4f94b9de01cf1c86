use Rattle.std.proofs.Common.{◌≡◌, ◌<◌, List, [], length, set, sym, ap, subst, ◌∙◌, arith}
use Rattle.cache_array.specs.Slots.{FrameSlots, block_at}
use Rattle.cache_array.proofs.Slots.{frame-inside}
use Rattle.sn_model.specs.Caches.{Line}
use Rattle.mosi_cache.specs.Frames.{LinesData, HasFrame, lines_of}
use Rattle.mosi_cache.proofs.Changes.{Changed, put-found, put-new, has-frame}
use Rattle.mosi_cache.proofs.Settled.{settled-touched, other-taken}
use Rattle.mosi_cache.proofs.lines.Lines.put.Goals as goal

-- the value of lines in so many sets and ways
abbrev value : List Line → LinesData → LinesData
value ls d = record d { lines = ls }

found : (c : goal.After-self-1) →
    Changed c.self.inside.frames c.self.inside.frames c.self.inside.kept.items
    (set c.self.inside.kept.items c.in-Some.frame (record { state = c.args.state; content = c.args.content })) c.args.block
    (record { state = c.args.state; content = c.args.content })
found c =
    put-found c.self.inside.frames c.self.inside.kept.items
    (record { state = c.args.state; content = c.args.content }) c.args.block c.in-Some.frame c.self.invariant.0
    (sym c.find.ensures.frame ∙ c.in-Some.is) c.requires.line

pub returns-in-Some-clause-lines : goal.returns-in-Some-clause-lines
returns-in-Some-clause-lines c =
    ap (λ (ls : List Line). value ls (record { lines = []; sets = c.self.inside.frames.sets; ways = c.self.inside.frames.ways }))
    (found c).lines
    ∙ ap (λ (d : LinesData). value (set d.lines c.args.block (record { state = c.args.state; content = c.args.content })) d) c.self.view_is

pub returns-in-Some-clause-read : goal.returns-in-Some-clause-read
returns-in-Some-clause-read c = (found c).read

pub reserve-frame-requires-clause-room : goal.reserve-frame-requires-clause-room
reserve-frame-requires-clause-room c =
    has-frame c.self.inside.frames c.self.inside.kept.items c.args.block c.self.invariant.0
    (sym c.find.ensures.frame ∙ c.in-None.is) c.find.ensures.of_memory
    (subst (λ (d : LinesData). HasFrame d c.args.block) (sym c.self.view_is) c.requires.room)

fresh : (c : goal.After-self-in-None-1) →
    Changed c.self.inside.frames c.reserve-frame.new.self c.self.inside.kept.items
    (set c.self.inside.kept.items c.reserve-frame.result (record { state = c.args.state; content = c.args.content })) c.args.block
    (record { state = c.args.state; content = c.args.content })
fresh c =
    subst (λ (e : FrameSlots). Changed c.self.inside.frames e c.self.inside.kept.items
    (set c.self.inside.kept.items c.reserve-frame.result (record { state = c.args.state; content = c.args.content })) c.args.block
    (record { state = c.args.state; content = c.args.content }))
    (sym c.reserve-frame.ensures.slots)
    (put-new c.self.inside.frames c.self.inside.kept.items
    (record { state = c.args.state; content = c.args.content }) c.args.block c.reserve-frame.result c.self.invariant.0
    (sym c.find.ensures.frame
    ∙ c.in-None.is) c.reserve-frame.ensures.free c.reserve-frame.ensures.own c.find.ensures.of_memory c.requires.line)

same_sets : (c : goal.After-self-in-None-1) → c.self.inside.frames.sets ≡ c.reserve-frame.new.self.sets
same_sets c = ap (λ (f : FrameSlots). f.sets) (sym c.reserve-frame.ensures.slots)

same_ways : (c : goal.After-self-in-None-1) → c.self.inside.frames.ways ≡ c.reserve-frame.new.self.ways
same_ways c = ap (λ (f : FrameSlots). f.ways) (sym c.reserve-frame.ensures.slots)

pub invariant_of-self-in-None : goal.invariant_of-self-in-None
invariant_of-self-in-None c =
    let d = c.self.inside.frames in
    let frame = c.reserve-frame.result in
    let i : frame < length c.self.inside.kept.items = omega (arith, c.self.invariant.0.whole, frame-inside d frame c.args.block c.self.invariant.0.slots c.reserve-frame.ensures.own) in (
      (fresh c).frames,
      c.self.invariant.1 ∙ same_sets c,
      c.self.invariant.2 ∙ same_ways c,
      rw c.touch-in-None.ensures
          (settled-touched c.self.inside.touched d c.reserve-frame.new.self c.self.inside.kept.items frame (record { state = c.args.state; content = c.args.content }) i
          (λ g n. ap (λ (e : FrameSlots). block_at e g) c.reserve-frame.ensures.slots ∙ other-taken d frame c.args.block g n) c.self.invariant.3),
    )

pub returns-in-None-clause-lines : goal.returns-in-None-clause-lines
returns-in-None-clause-lines c =
    ap (λ (f : FrameSlots). value
    (lines_of f (set c.self.inside.kept.items c.reserve-frame.result (record { state = c.args.state; content = c.args.content })))
    (record { lines = []; sets = f.sets; ways = f.ways })) c.reserve-frame.ensures.slots
    ∙ ap (λ (ls : List Line). value ls (record { lines = []; sets = c.self.inside.frames.sets; ways = c.self.inside.frames.ways }))
    (ap (λ (f : FrameSlots). lines_of f
    (set c.self.inside.kept.items c.reserve-frame.result (record { state = c.args.state; content = c.args.content })))
    (sym c.reserve-frame.ensures.slots) ∙ (fresh c).lines)
    ∙ ap (λ (d : LinesData). value (set d.lines c.args.block (record { state = c.args.state; content = c.args.content })) d) c.self.view_is

pub returns-in-None-clause-read : goal.returns-in-None-clause-read
returns-in-None-clause-read c = (fresh c).read
