use Rattle.std.proofs.Common.{arith, ap}
use Rattle.std.specs.Prelude.{flat_map}
use Rattle.std.proofs.lemmas.Result.{err_from_is_err_and}
use Rattle.save_text.specs.Text.{owner_line}
use Rattle.sn_resume.proofs.Parts.{named_in, owners_all, owners_next, owners_none}
use Rattle.sn_resume.proofs.Putting.{all_left, next_put, next_broken, none_left, same_whole, same_broken}
use Rattle.sn_resume.proofs.saving.save_owners.Goals as goal

pub memory-init : goal.memory-init
memory-init g c = all_left _ _ _ _ (owners_all c.args.machine.now.state.fabric)

pub memory-preserved : goal.memory-preserved
memory-preserved g c =
    next_put _ _ _ _ _ _ _ _ _ _
    (owners_next c.args.machine.now.state.fabric c.memory.number (omega (arith, c.memory-test.true)))
    c.memory.invariant
    (same_whole _ _ _ _ _ _ (ap (λ b. flat_map owner_line (named_in c.args.machine.now.state.fabric b)) c.new.ensures) c.in_ok-put_owner.ensures)

pub returns-in_err-put_owner : goal.returns-in_err-put_owner
returns-in_err-put_owner g c =
    let p = err_from_is_err_and c.from_residual.result c.from_residual.ensures.1 in
    rw p.1
    (next_broken _ _ _ _ _ _ _ _ _ _
    (owners_next c.args.machine.now.state.fabric c.memory.number (omega (arith, c.memory-test.true)))
    c.memory.invariant
    (same_broken _ _ _ _ _ _ (ap (λ b. flat_map owner_line (named_in c.args.machine.now.state.fabric b)) c.new.ensures) c.in_err-put_owner.ensures))

pub returns : goal.returns
returns g c =
    none_left _ _ _ _ _ _
    (owners_none c.args.machine.now.state.fabric c.memory.number (omega (arith, c.memory-test.false, c.memory.auto.number-end)))
    c.memory.invariant
