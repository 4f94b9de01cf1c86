use Rattle.std.proofs.Common.{arith}
use Rattle.state_lines.proofs.Summed.{numbers-none, numbers-next, numbers-end, numbers-most}
use Rattle.state_lines.proofs.summary.add_each_number.Goals as goal

pub places-init : goal.places-init
places-init g c = numbers-none _ c.args.text.now.items

pub places-preserved : goal.places-preserved
places-preserved g c =
    numbers-next _ c.args.text.now.items c.places.text.items _ _ c.places.place c.in-Some.value c.line.result c.places.others c.line.ensures
    c.in-Some.is c.in_ok-add_comma.ensures c.in_ok-add_large.ensures c.places.invariant

pub returns-in_default : goal.returns-in_default
returns-in_default g c =
    numbers-end _ c.args.text.now.items c.places.text.items c.places.place 16 c.line.result c.places.others
    (omega (arith, c.places-test.true)) c.line.ensures c.in_default.not-Some c.places.invariant

pub returns : goal.returns
returns g c =
    numbers-most _ c.args.text.now.items c.places.text.items c.places.place 16 c.places.others (omega (arith, c.places-test.false, c.places.auto.place-end))
    c.places.invariant
