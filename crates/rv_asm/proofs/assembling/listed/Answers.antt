use Rattle.std.proofs.Common.{refl, ap, length, arith}
use Rattle.std.proofs.lemmas.Result.{err_from_is_err_and}
use Rattle.rv_asm.specs.Lists.{listing_of}
use Rattle.rv_asm.proofs.Passes.{reader-refuses, reader-next, reader-ends}
use Rattle.rv_asm.proofs.assembling.listed.Goals as goal

pub returns-in_err-add_line-clause-refused : goal.returns-in_err-add_line-clause-refused
returns-in_err-add_line-clause-refused c =
    let p = err_from_is_err_and c.from_residual.result c.from_residual.ensures.1 in
    rw (p.1, p.2) (reader-refuses
    (listing_of c.lines.items.items c.lines.labels) c.lines.number c.lines.lines _ c.lines.invariant.same c.in-Some.line.now _ c.in_err-add_line.field-0.0 c.in-Some.ensures.some c.in_err-add_line.ensures.refused)

pub returns-clause-ok : goal.returns-clause-ok
returns-clause-ok c =
    reader-ends (listing_of c.lines.items.items c.lines.labels) c.lines.number c.lines.lines _ c.lines.invariant.same
    (c.in_default.ensures.none refl)

pub lines-preserved : goal.lines-preserved
lines-preserved c = record {
  same =
      reader-next (listing_of c.lines.items.items c.lines.labels) c.lines.number c.lines.lines _ c.lines.invariant.same
      (listing_of c.add_line.new.items.items c.add_line.new.labels) c.in-Some.line.now c.next_line.new.self c.in-Some.ensures.some c.in_ok-add_line.ensures.ok;
  numbered = omega (arith, c.lines.invariant.numbered, ap length c.in-Some.ensures.some);
  few = c.in_ok-add_line.ensures.few;
}
