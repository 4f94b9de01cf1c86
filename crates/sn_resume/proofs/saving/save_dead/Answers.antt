use Rattle.std.proofs.Common.{arith, ap}
use Rattle.std.proofs.lemmas.Result.{err_from_is_err_and}
use Rattle.sn_resume.proofs.Parts.{few_nodes, switches_all, switches_next, switches_none}
use Rattle.sn_resume.proofs.Putting.{all_left, next_put, next_broken, none_left}
use Rattle.sn_resume.proofs.saving.save_dead.Goals as goal

pub switches-init : goal.switches-init
switches-init g c = all_left _ _ _ _ (switches_all c.args.machine.now.state.fabric.net.dead)

pub switches-preserved : goal.switches-preserved
switches-preserved g c =
    let n = ap (λ x. x.nodes) c.config.ensures.same in
    next_put _ _ _ _ _ _ _ _ _ _
    (switches_next c.args.machine.now.state.fabric.net.dead c.switches.number
    (omega (arith, n, c.switches-test.true, few_nodes c.args.machine.now.config c.config.ensures.fits)))
    c.switches.invariant c.in_ok-put_switch.ensures

pub returns-in_err-put_switch : goal.returns-in_err-put_switch
returns-in_err-put_switch g c =
    let p = err_from_is_err_and c.from_residual.result c.from_residual.ensures.1 in
    let n = ap (λ x. x.nodes) c.config.ensures.same in
    rw p.1
    (next_broken _ _ _ _ _ _ _ _ _ _
    (switches_next c.args.machine.now.state.fabric.net.dead c.switches.number
    (omega (arith, n, c.switches-test.true, few_nodes c.args.machine.now.config c.config.ensures.fits)))
    c.switches.invariant c.in_err-put_switch.ensures)

pub returns : goal.returns
returns g c =
    let n = ap (λ x. x.nodes) c.config.ensures.same in
    let f = c.switches-test.false in
    let u = c.switches.auto.number-end in
    none_left _ _ _ _ _ _
    (switches_none c.args.machine.now.state.fabric.net.dead c.switches.number (λ s l. c.requires s (omega (arith, n, f, u, l))))
    c.switches.invariant
