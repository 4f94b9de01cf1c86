use Rattle.std.proofs.Common.{refl}
use Rattle.access_texts.proofs.Reading.{refused-at, whole-at_end}
use Rattle.access_texts.proofs.access_list.read_accesses.Goals as goal

pub returns-in-Err-clause-refused : goal.returns-in-Err-clause-refused
returns-in-Err-clause-refused c =
    refused-at c.lines.number c.lines.list c.lines.lines _ c.lines.invariant.same c.in-Some.line.now _ c.in-Err.fault c.in-Some.ensures.some
    c.in-Err.ensures.refused

pub returns-clause-ok : goal.returns-clause-ok
returns-clause-ok c =
    whole-at_end c.lines.number c.lines.list c.lines.lines _ c.lines.invariant.same (c.in_default.ensures.none refl)
