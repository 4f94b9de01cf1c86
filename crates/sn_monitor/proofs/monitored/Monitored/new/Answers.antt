use Rattle.std.proofs.Common.{◌≡◌, [], ap, ◌∙◌, arith}
use Rattle.due_events.specs.Numbers.{Numbers}
use Rattle.snap_board.specs.Snap.{SnapData}
use Rattle.snap_board.proofs.Fronts.{one_last}
use Rattle.sn_monitor.specs.Goes.{records}
use Rattle.sn_monitor.proofs.monitored.Monitored.new.Goals as goal

pub invariant_of-result : goal.invariant_of-result
invariant_of-result g c =
    let m = c.args.machine in
    let none = c.requires.fresh.0 in
    let few : records m.state ≡ 0 = ap records c.requires.fresh.1 in
    let done = ap (λ (n : Numbers). n.done) c.requires.first in
    let same = c.applied-life.ensures.same in
    let fits = c.applied-life.ensures.fits in (
      record {
        nodes = c.requires.nodes;
        done = omega (arith, done);
        life = omega (arith, same, fits);
        few = omega (arith, few);
        below = λ s ends.
            let is = one_last _ s c.snap_of.result ends (record { before = []; is = c.in-Ok.ensures.0 }) in
            let point = ap (λ (t : SnapData). t.point) (is ∙ c.snap_of.ensures) in omega (arith, point);
      },
      c.requires.watched,
    )
