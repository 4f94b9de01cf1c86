use Rattle.std.proofs.Common.{◌≡◌, ℕ, ◌/◌, false, nat_eq, sym, ap, ◌∙◌, arith}
use Rattle.std.proofs.lemmas.Bool.Decides.{nat_tests}
use Rattle.due_events.specs.Lists.{is_delivered}
use Rattle.due_events.specs.Nets.{flight_as}
use Rattle.sn_driver.proofs.Arrivals.{at_place_of, not_delivered, of_another, taken_here, held_here}
use Rattle.sn_driver.proofs.moves.delivery.Goals as goal
use Rattle.sn_driver.proofs.moves.delivery.Goals.{else-eq-via-then-eq+else-is_delivered, else-eq-via-else-eq}

differ : (a b : ℕ) → (a ≡ b → ⊥) → nat_eq a b ≡ false
differ a b h = grind (arith, nat_tests, h)

-- it stands elsewhere
pub returns-then-number-clause-same : goal.returns-then-number-clause-same
returns-then-number-clause-same c =
    let m = c.args.machine.now in
    at_place_of m.image m.config m.state c.net-net.result.now c.net-net.ensures.carried c.count-count.ensures.sound c.args.node c.args.place _ _ c.message-switch.ensures
    (λ g own is. sym (not_delivered m.image m.config m.state c.args.node (flight_as g) own
    (differ (g.at / 2) c.args.node
    (λ e. c.if-number.true (ap (λ (switch : ℕ). switch / 2) (c.number.ensures.same ∙ is.1) ∙ e ∙ sym c.number-2.ensures.same)))))

pub returns-then-is_delivered-clause-same : goal.returns-then-is_delivered-clause-same
returns-then-is_delivered-clause-same c =
    let m = c.args.machine.now in
    at_place_of m.image m.config m.state c.net-net.result.now c.net-net.ensures.carried c.count-count.ensures.sound c.args.node c.args.place _ _ c.message-switch.ensures
    (λ g own is.
    let taken = sym (c.if-is_delivered.ensures ∙ ap is_delivered c.foresee.ensures) in
    rw is.0 (sym (taken_here m.image m.config m.state c.args.node (flight_as g) (sym (rw is.0 at c.if-eq.ensures)) (rw is.0 at taken))))

pub returns-else-eq-clause-same : goal.returns-else-eq-clause-same
returns-else-eq-clause-same c =
    let m = c.args.machine.now in
    at_place_of m.image m.config m.state c.net-net.result.now c.net-net.ensures.carried c.count-count.ensures.sound c.args.node c.args.place _ _ c.message-switch.ensures
    (λ g own is. elim c.else-eq.branch [
      | else-eq-via-then-eq+else-is_delivered w ↦
          let held = sym (w.if-is_delivered.ensures ∙ ap is_delivered w.foresee.ensures) in
          sym (held_here m.image m.config m.state c.args.node (flight_as g) (rw is.0 at held))
      | else-eq-via-else-eq w ↦ sym (of_another m.image m.config m.state c.args.node (flight_as g) (sym (rw is.0 at w.if-eq.ensures)))
    ])
