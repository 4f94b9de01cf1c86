use Rattle.std.proofs.Common.{◌≡◌, true, false, Option, set, refl, sym, ap, ◌∙◌, subst, Some}
use Rattle.std.specs.Prelude.{IsSome, IfSome}
use Rattle.cache_array.specs.Slots.{block_at, frame_of, slots_without_block}
use Rattle.cache_array.proofs.Slots.{frame-found}
use Rattle.sn_model.specs.declared.cache.LineState.{LineState}
use Rattle.sn_model.specs.declared.cache.LineState.TheVariants.{Shared}
use Rattle.mosi_cache.specs.Unshared.{slot_unless_shared}
use Rattle.mosi_cache.proofs.lines.restore.free_if_shared.Goals as goal
use Rattle.mosi_cache.proofs.lines.restore.free_if_shared.Goals.{in-Shared, in_default}

found : (c : goal.After-drop_frame-arg-1) → frame_of c.args.frames.now c.in-Some.block ≡ Some c.args.frame
found c = frame-found c.args.frames.now c.args.frame c.in-Some.block c.requires.slots (sym c.block_in.ensures ∙ c.in-Some.is)

pub drop_frame-requires : goal.drop_frame-requires
drop_frame-requires c = subst (λ (o : Option _). IsSome o) (sym (found c)) refl

shared : (c : goal.After-drop_frame) → c.args.state ≡ Shared
shared c =
    elim c.match-matches.branch [
      | in-Shared w ↦ w.in-Shared.is
      | in_default w ↦ absurd (let e : true ≡ false = sym c.if-not-matches.false ∙ w.matches-is in cc)
    ]

pub returns-in-Some-clause-freed : goal.returns-in-Some-clause-freed
returns-in-Some-clause-freed c =
    let f : frame_of c.args.frames.now c.in-Some.block
    ≡ Some c.args.frame = frame-found c.args.frames.now c.args.frame c.in-Some.block c.requires.slots
    (sym c.block_in.ensures ∙ c.in-Some.is) in
    let e = subst (λ (o : Option _). IfSome o
    (λ frame. c.drop_frame.new.self ≡ slots_without_block c.args.frames.now frame)) f c.drop_frame.ensures.slots in
    e ∙ ap (λ (s : LineState).
    record c.args.frames.now { slots = set c.args.frames.now.slots c.args.frame (slot_unless_shared s (block_at c.args.frames.now c.args.frame)) })
    (sym (shared c))
