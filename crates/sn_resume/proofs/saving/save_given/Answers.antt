use Rattle.std.proofs.Common.{ℕ, ◌<◌, arith, refl, ap, subst, get_or}
use Rattle.std.specs.List.{All}
use Rattle.std.proofs.lemmas.Result.{err_from_is_err_and}
use Rattle.sn_model.specs.Machine.{first_processor}
use Rattle.sn_resume.proofs.Parts.{given_next, given_none, given_numbers, given_is, bytes_text, below_more}
use Rattle.sn_resume.proofs.Putting.{all_left, next_put, next_broken, none_left, same_whole, same_broken}
use Rattle.sn_resume.proofs.saving.save_given.Goals as goal

pub nodes-init : goal.nodes-init
nodes-init g c = record { put = all_left _ _ _ _ refl; numbers = λ i l. absurd (omega (arith, l)) }

pub nodes-preserved : goal.nodes-preserved
nodes-preserved g c =
    let n = ap (λ x. x.nodes) c.config.ensures.same in
    record {
      put =
          next_put _ _ _ _ _ _ _ _ _ _
          (given_next c.args.machine.now.state.processors c.nodes.number (omega (arith, n, c.nodes-test.true, c.requires)))
          c.nodes.invariant.put
          (same_whole _ _ _ _ _ _
          (bytes_text c.args.machine.now c.recovered.result c.nodes.number c.numbered-node.result c.given.result.now c.recovered.ensures.shown
          c.numbered-node.ensures c.given.ensures) c.in_ok-put_bytes.ensures.put);
      numbers =
          below_more (λ (i : ℕ). All (λ (byte : ℕ). byte < 256) (get_or c.args.machine.now.state.processors i (first_processor 0 0)).given)
          c.nodes.number c.nodes.invariant.numbers
          (subst (All (λ (byte : ℕ). byte < 256))
          (given_is c.args.machine.now c.recovered.result c.nodes.number c.numbered-node.result c.given.result.now c.recovered.ensures.shown
          c.numbered-node.ensures c.given.ensures) c.in_ok-put_bytes.ensures.numbers);
    }

pub returns-in_err-put_bytes-clause-put : goal.returns-in_err-put_bytes-clause-put
returns-in_err-put_bytes-clause-put g c =
    let p = err_from_is_err_and c.from_residual.result c.from_residual.ensures.1 in
    let n = ap (λ x. x.nodes) c.config.ensures.same in
    rw p.1
    (next_broken _ _ _ _ _ _ _ _ _ _
    (given_next c.args.machine.now.state.processors c.nodes.number (omega (arith, n, c.nodes-test.true, c.requires)))
    c.nodes.invariant.put
    (same_broken _ _ _ _ _ _
    (bytes_text c.args.machine.now c.recovered.result c.nodes.number c.numbered-node.result c.given.result.now c.recovered.ensures.shown
    c.numbered-node.ensures c.given.ensures) c.in_err-put_bytes.ensures.put))

pub returns-clause-put : goal.returns-clause-put
returns-clause-put g c =
    let n = ap (λ x. x.nodes) c.config.ensures.same in
    let f = c.nodes-test.false in
    let u = c.nodes.auto.number-end in
    none_left _ _ _ _ _ _
    (given_none c.args.machine.now.state.processors c.nodes.number (omega (arith, n, f, u, c.requires)))
    c.nodes.invariant.put

pub returns-clause-numbers : goal.returns-clause-numbers
returns-clause-numbers g c =
    let n = ap (λ x. x.nodes) c.config.ensures.same in
    let f = c.nodes-test.false in
    let u = c.nodes.auto.number-end in
    given_numbers c.args.machine.now.state.processors 0 (λ i l. c.nodes.invariant.numbers i (omega (arith, n, f, u, l, c.requires)))
