use Rattle.std.proofs.Common.{◌+◌, sym, ap, ◌∙◌, subst}
use Rattle.std.specs.Prelude.{is_none}
use Rattle.std.specs.List.{position}
use Rattle.cache_array.specs.Slots.{FrameSlots, AreSlots, ways_of, slots_with_block}
use Rattle.cache_array.proofs.Slots.{some-free, free-in-set, slots-taken, IsLeastFree}
use Rattle.cache_array.proofs.Frames.reserve.Goals as goal

pub unwrap-way-requires : goal.unwrap-way-requires
unwrap-way-requires c =
    rw (c.free_way_of.ensures, c.ways_of.ensures.ways) (some-free (ways_of c.args.self.now c.args.block) c.requires.room)

-- the frame that is taken
least : (c : goal.After-self-1) → IsLeastFree c.args.self.now (c.first_of.result + c.unwrap-way.result) c.args.block
least c =
    rw c.first_of.ensures.frame
    (free-in-set c.args.self.now c.args.block c.unwrap-way.result c.first_of.ensures.good
    (ap (position is_none) (sym c.ways_of.ensures.ways) ∙ sym c.free_way_of.ensures ∙ c.unwrap-way.ensures))

after : (c : goal.After-self-1) → AreSlots (slots_with_block c.args.self.now (c.first_of.result + c.unwrap-way.result) c.args.block)
after c =
    slots-taken c.args.self.now (c.first_of.result + c.unwrap-way.result) c.args.block c.first_of.ensures.good c.requires.new (least c).own

pub invariant_of-self : goal.invariant_of-self
invariant_of-self c =
    subst (λ (d : FrameSlots). AreSlots (slots_with_block d (c.first_of.result + c.unwrap-way.result) c.args.block)) (sym c.self.view_is) (after c)

pub returns-clause-own : goal.returns-clause-own
returns-clause-own c = (least c).own

pub returns-clause-free : goal.returns-clause-free
returns-clause-free c = (least c).free

pub returns-clause-least : goal.returns-clause-least
returns-clause-least c = (least c).least

pub returns-clause-good : goal.returns-clause-good
returns-clause-good c =
    subst (λ (d : FrameSlots). AreSlots (slots_with_block d (c.first_of.result + c.unwrap-way.result) c.args.block)) (sym c.self.view_is) (after c)
