use Rattle.std.proofs.Common.{length, refl, ◌∙◌, arith}
use Rattle.std.proofs.lemmas.List.{length-set}
use Rattle.std.proofs.lemmas.Result.{err_from_is_err_and}
use Rattle.seed_runs.proofs.Ranges.{none-put, next-put, next-breaks}
use Rattle.seed_runs.proofs.Slots.{taken-out}
use Rattle.seed_runs.proofs.group.put_slots.Goals as goal

pub slots-init : goal.slots-init
slots-init g c = record {
  put = none-put c.args.job.now c.args.first_seed _;
  played = c.requires.played;
  count = refl;
  console_later = omega arith;
  report_later = omega arith;
}

pub returns-in_err-put_slot-clause-err : goal.returns-in_err-put_slot-clause-err
returns-in_err-put_slot-clause-err g c =
    let p = err_from_is_err_and c.from_residual.result c.from_residual.ensures.1 in
    rw p.1
    (next-breaks c.args.job.now c.args.first_seed c.slots.place _ _ _ c.slots.invariant.put (length c.args.slots.now)
    (omega (arith, c.slots-test.true, c.slots.invariant.count)) c.in_err-put_slot.ensures.err)

pub slots-preserved : goal.slots-preserved
slots-preserved g c =
    record {
      put = next-put c.args.job.now c.args.first_seed c.slots.place _ _ _ c.slots.invariant.put (c.in_ok-put_slot.ensures.ok c.if-not-branch.false);
      played = taken-out c.args.job.now c.args.first_seed c.slots.slots c.slots.place c.take-slot.new.self c.take-slot.ensures.after
          (omega (arith, c.slots-test.true, c.slots.invariant.count))
          c.slots.invariant.played;
      count = length-set c.slots.slots c.slots.place c.take-slot.new.self ∙ c.slots.invariant.count;
      console_later = omega (arith, c.put_slot.ensures.console_later, c.slots.invariant.console_later);
      report_later = omega (arith, c.put_slot.ensures.report_later, c.slots.invariant.report_later);
    }
