use Rattle.std.proofs.Common.{rules}
use Rattle.std.specs.Prelude.{IsOk}
use Rattle.save_text.proofs.InForm.{accepted_by}
use Rattle.save_text.proofs.Judged.{is_good, of_said}
use Rattle.save_text.proofs.judging.read_save.Goals as goal

pub returns-clause-said : goal.returns-clause-said
returns-clause-said c =
    let ok : IsOk c.check_reads.result = search rules in
    of_said c.args.image.now c.in_ok-saved.saved _ _ c.in_ok-saved.ensures.ok
    (is_good c.args.image.now c.in_ok-saved.saved (c.check_reads.ensures.ok ok))

pub returns-clause-accepted : goal.returns-clause-accepted
returns-clause-accepted c =
    let ok : IsOk c.check_reads.result = search rules in
    accepted_by c.args.image.now c.args.bytes.now c.in_ok-saved.saved c.in_ok-saved.ensures.ok (c.check_reads.ensures.ok ok)
