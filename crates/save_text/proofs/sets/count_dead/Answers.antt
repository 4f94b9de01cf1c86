use Rattle.std.proofs.Common.{◌≡◌, ◌∙◌, sym, ap, arith}
use Rattle.route_plan.specs.Distances.{is_dead}
use Rattle.save_text.proofs.Counted.{counted-one, counted-none}
use Rattle.save_text.proofs.sets.count_dead.Goals as goal
use Rattle.save_text.proofs.sets.count_dead.Goals.{then-has, else-has}

pub switches-preserved : goal.switches-preserved
switches-preserved c =
    let v : c.has.result ≡ is_dead c.args.dead c.switches.number = c.has.ensures ∙ ap (is_dead c.args.dead) c.switch_of.ensures in
    elim c.if-has.branch [
      | then-has w ↦
          let m = counted-one (is_dead c.args.dead) c.switches.number (sym v ∙ w.if-has.true) in
          let k = c.switches.invariant.count in
          let i = w.count-is in
          let f = c.switches.invariant.few in
          record { count = omega (arith, m, k, i); few = omega (arith, i, f) }
      | else-has w ↦
          let m = counted-none (is_dead c.args.dead) c.switches.number (sym v ∙ w.if-has.false) in
          let k = c.switches.invariant.count in
          let i = w.count-is in
          let f = c.switches.invariant.few in
          record { count = omega (arith, m, k, i); few = omega (arith, i, f) }
    ]
