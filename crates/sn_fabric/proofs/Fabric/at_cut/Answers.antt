use Rattle.std.proofs.Common.{refl, arith}
use Rattle.sn_fabric.proofs.ResumedParts.{parts-resumed, parts-stand}
use Rattle.sn_fabric.proofs.Fabric.at_cut.Goals as goal

pub invariant_of-result : goal.invariant_of-result
invariant_of-result c = (
  rw (c.in_ok-units.ensures, c.in_ok-net.ensures) (parts-resumed c.args.config c.args.contents.now c.args.owners.now c.args.point c.args.next c.args.dead
      c.in_ok-homes.homes.items c.requires.fits c.in_ok-homes.ensures c.requires.nodes c.requires.sets),
  omega (arith, c.in_ok-sent.ensures.capacity),
  rw c.in_ok-sent.ensures.items (omega arith),
)

pub returns : goal.returns
returns c =
    rw (
      c.in_ok-units.ensures,
      c.in_ok-net.ensures,
      c.in_ok-sent.ensures.items,
      parts-stand c.args.config c.args.contents.now c.args.owners.now c.args.point c.args.next c.args.dead c.in_ok-homes.homes.items
          c.requires.fits c.in_ok-homes.ensures,
    ) refl
