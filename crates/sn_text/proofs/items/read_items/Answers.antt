use Rattle.std.proofs.Common.{refl}
use Rattle.sn_text.proofs.Reading.{refused-at, whole-at_end}
use Rattle.sn_text.proofs.items.read_items.Goals as goal

pub returns-in-Err-clause-refused : goal.returns-in-Err-clause-refused
returns-in-Err-clause-refused g c =
    refused-at
    (g.F.Form.item_of c.args.form.now) c.lines.items.items c.lines.number c.lines.lines _ c.lines.invariant.same c.in-Some.line.now _ c.in-Err.fault c.in-Some.ensures.some c.in-Err.ensures.refused

pub returns-clause-ok : goal.returns-clause-ok
returns-clause-ok g c =
    whole-at_end (g.F.Form.item_of c.args.form.now) c.lines.items.items c.lines.number c.lines.lines _ c.lines.invariant.same
    (c.in_default.ensures.none refl)
