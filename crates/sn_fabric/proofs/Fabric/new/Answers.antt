use Rattle.std.proofs.Common.{refl, arith}
use Rattle.sn_fabric.proofs.FirstParts.{parts-start, fabric-start}
use Rattle.sn_fabric.proofs.Fabric.new.Goals as goal

pub invariant_of-result : goal.invariant_of-result
invariant_of-result c = (
  rw (c.in_ok-units.ensures, c.in_ok-homes.ensures, c.in_ok-net.ensures) (parts-start c.args.config c.args.image.now c.requires),
  omega (arith, c.in_ok-sent.ensures.capacity),
  rw c.in_ok-sent.ensures.items (omega arith),
)

pub returns : goal.returns
returns c =
    rw (
      c.in_ok-units.ensures,
      c.in_ok-homes.ensures,
      c.in_ok-net.ensures,
      c.in_ok-sent.ensures.items,
      fabric-start c.args.config c.args.image.now c.requires,
    ) refl
