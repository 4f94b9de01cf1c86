use Rattle.std.proofs.Common.{◌≡◌, ◌+◌, ◌<◌, Some, sym, ap, ◌∙◌, arith}
use Rattle.std.specs.List.{position}
use Rattle.cache_array.specs.Slots.{is_of, frame_of, first_of}
use Rattle.cache_array.proofs.Slots.{found-in-set, none-in-set}
use Rattle.cache_array.proofs.Frames.find.Goals as goal

pub returns-in_err-way-clause-frame : goal.returns-in_err-way-clause-frame
returns-in_err-way-clause-frame c =
    c.from_residual.ensures
    ∙ sym (none-in-set c.args.self.now c.args.block c.ways_of.ensures.good
    (ap (position (is_of c.args.block)) (sym c.ways_of.ensures.ways) ∙ sym c.way_of.ensures ∙ c.in_err-way.was))

found : (c : goal.After-first_of) →
    (c.in_ok-way.way < c.args.self.now.ways)
    × (frame_of c.args.self.now c.args.block ≡ Some (first_of c.args.self.now c.args.block + c.in_ok-way.way))
found c =
    found-in-set c.args.self.now c.args.block c.in_ok-way.way c.ways_of.ensures.good
    (ap (position (is_of c.args.block)) (sym c.ways_of.ensures.ways) ∙ sym c.way_of.ensures ∙ c.in_ok-way.was)

pub overflow_add-result : goal.overflow_add-result
overflow_add-result c = omega (arith, (found c).0, c.first_of.ensures.small)

pub returns-clause-frame : goal.returns-clause-frame
returns-clause-frame c = rw c.first_of.ensures.frame (sym (found c).1)
