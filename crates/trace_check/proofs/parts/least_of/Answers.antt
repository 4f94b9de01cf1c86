use Rattle.std.proofs.Common.{◌+◌, min, Ok, length, sym, subst, arith}
use Rattle.projection_places.specs.Passes.{Passes}
use Rattle.trace_check.specs.Parts.{HasPassed}
use Rattle.trace_check.proofs.PartPlaces.{PartsBelow, parts_none, parts_more, parts_all}
use Rattle.trace_check.proofs.parts.least_of.Goals as goal

pub parts-init : goal.parts-init
parts-init c = λ N h. parts_none c.args.image.now N (length c.args.passed.now) c.args.records.now c.args.count

pub parts-preserved : goal.parts-preserved
parts-preserved c = λ N h.
    let parts = length c.args.passed.now in
    let at = subst (HasPassed c.args.image.now parts c.parts.part c.args.records.now c.args.count c.args.slots.now) c.in_ok-passed.was (c.requires.each c.parts.part (Ok 0) c.parts-test.true) in
    let more = parts_more c.args.image.now N parts c.args.records.now c.args.count c.parts.part c.parts.least c.in_ok-passed.field-0 (c.parts.invariant N h) (at N h) in
    subst (Passes (PartsBelow c.args.image.now N parts c.args.records.now (c.parts.part + 1)) c.args.count) (sym c.min-least.ensures)
    (subst (λ n. Passes (PartsBelow c.args.image.now N parts c.args.records.now n) c.args.count (min c.parts.least c.in_ok-passed.field-0)) (omega arith) more)

pub returns : goal.returns
returns c = λ N h. parts_all c.args.image.now N (length c.args.passed.now) c.args.records.now c.args.count c.parts.part c.parts.least
    c.requires.some (omega (arith, c.parts-test.false, c.parts.auto.part-end)) (c.parts.invariant N h)
