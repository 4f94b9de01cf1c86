use Rattle.std.proofs.Common.{arith, refl, sym}
use Rattle.sn_base.proofs.Outside.{is_executable-outside}
use Rattle.sn_base.proofs.image.Image.fetch_by_bytes.Goals as goal

-- so near the greatest address nothing is memory
pub returns-then-pc : goal.returns-then-pc
returns-then-pc c =
    rw (
      sym c.self.view_is,
      is_executable-outside c.self.inside.segments.items c.args.pc c.self.invariant.each (omega (arith, c.if-pc.true)),
    ) refl
