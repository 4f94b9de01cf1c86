use Rattle.std.proofs.lemmas.Result.{err_from_is_err_and}
use Rattle.sn_resume.proofs.Putting.{last_put}
use Rattle.sn_resume.proofs.Whole.{all_of, first_put, first_broken, config_put, config_broken, marks_put, marks_broken, switches_put, switches_broken, owners_put, owners_broken, bytes_put, bytes_broken, records_put, records_broken}
use Rattle.sn_resume.proofs.saving.put_all.Goals as goal

pub returns-in_err-put_first-clause-put : goal.returns-in_err-put_first-clause-put
returns-in_err-put_first-clause-put g c =
    let p = err_from_is_err_and c.from_residual.result c.from_residual.ensures.1 in
    rw p.1 (first_broken c.args.machine.now _ _ _ _ _ _ (all_of c.args.machine.now _ _) c.in_err-put_first.ensures)

pub returns-in_err-put_config-clause-put : goal.returns-in_err-put_config-clause-put
returns-in_err-put_config-clause-put g c =
    let p = err_from_is_err_and c.from_residual-in_err-put_config.result c.from_residual-in_err-put_config.ensures.1 in
    rw p.1 (config_broken c.args.machine.now _ _ _ _ _ _ (first_put c.args.machine.now _ _ _ _ _ _ (all_of c.args.machine.now _ _) c.in_ok-put_first.ensures) c.in_err-put_config.ensures)

pub returns-in_err-put_marks-clause-put : goal.returns-in_err-put_marks-clause-put
returns-in_err-put_marks-clause-put g c =
    let p = err_from_is_err_and c.from_residual-in_err-put_marks.result c.from_residual-in_err-put_marks.ensures.1 in
    rw p.1 (marks_broken c.args.machine.now _ _ _ _ _ _ (config_put c.args.machine.now _ _ _ _ _ _ (first_put c.args.machine.now _ _ _ _ _ _ (all_of c.args.machine.now _ _) c.in_ok-put_first.ensures) c.in_ok-put_config.ensures) c.in_err-put_marks.ensures)

pub returns-in_err-save_dead-clause-put : goal.returns-in_err-save_dead-clause-put
returns-in_err-save_dead-clause-put g c =
    let p = err_from_is_err_and c.from_residual-in_err-save_dead.result c.from_residual-in_err-save_dead.ensures.1 in
    rw p.1 (switches_broken c.args.machine.now _ _ _ _ _ _ (marks_put c.args.machine.now _ _ _ _ _ _ (config_put c.args.machine.now _ _ _ _ _ _ (first_put c.args.machine.now _ _ _ _ _ _ (all_of c.args.machine.now _ _) c.in_ok-put_first.ensures) c.in_ok-put_config.ensures) c.in_ok-put_marks.ensures) c.in_err-save_dead.ensures)

pub returns-in_err-save_owners-clause-put : goal.returns-in_err-save_owners-clause-put
returns-in_err-save_owners-clause-put g c =
    let p = err_from_is_err_and c.from_residual-in_err-save_owners.result c.from_residual-in_err-save_owners.ensures.1 in
    rw p.1 (owners_broken c.args.machine.now _ _ _ _ _ _ (switches_put c.args.machine.now _ _ _ _ _ _ (marks_put c.args.machine.now _ _ _ _ _ _ (config_put c.args.machine.now _ _ _ _ _ _ (first_put c.args.machine.now _ _ _ _ _ _ (all_of c.args.machine.now _ _) c.in_ok-put_first.ensures) c.in_ok-put_config.ensures) c.in_ok-put_marks.ensures) c.in_ok-save_dead.ensures) c.in_err-save_owners.ensures)

pub returns-in_err-save_given-clause-put : goal.returns-in_err-save_given-clause-put
returns-in_err-save_given-clause-put g c =
    let p = err_from_is_err_and c.from_residual-in_err-save_given.result c.from_residual-in_err-save_given.ensures.1 in
    rw p.1 (bytes_broken c.args.machine.now _ _ _ _ _ _ (owners_put c.args.machine.now _ _ _ _ _ _ (switches_put c.args.machine.now _ _ _ _ _ _ (marks_put c.args.machine.now _ _ _ _ _ _ (config_put c.args.machine.now _ _ _ _ _ _ (first_put c.args.machine.now _ _ _ _ _ _ (all_of c.args.machine.now _ _) c.in_ok-put_first.ensures) c.in_ok-put_config.ensures) c.in_ok-put_marks.ensures) c.in_ok-save_dead.ensures) c.in_ok-save_owners.ensures) c.in_err-save_given.ensures.put)

pub returns-in_err-save_records-clause-put : goal.returns-in_err-save_records-clause-put
returns-in_err-save_records-clause-put g c =
    let p = err_from_is_err_and c.from_residual-in_err-save_records.result c.from_residual-in_err-save_records.ensures.1 in
    rw p.1 (records_broken c.args.machine.now _ _ _ _ _ _ (bytes_put c.args.machine.now _ _ _ _ _ _ (owners_put c.args.machine.now _ _ _ _ _ _ (switches_put c.args.machine.now _ _ _ _ _ _ (marks_put c.args.machine.now _ _ _ _ _ _ (config_put c.args.machine.now _ _ _ _ _ _ (first_put c.args.machine.now _ _ _ _ _ _ (all_of c.args.machine.now _ _) c.in_ok-put_first.ensures) c.in_ok-put_config.ensures) c.in_ok-put_marks.ensures) c.in_ok-save_dead.ensures) c.in_ok-save_owners.ensures) c.in_ok-save_given.ensures.put) c.in_err-save_records.ensures.put)

pub returns-clause-put : goal.returns-clause-put
returns-clause-put g c = last_put _ _ _ _ _ _ _ _ c.put_end.result (records_put c.args.machine.now _ _ _ _ _ _ (bytes_put c.args.machine.now _ _ _ _ _ _ (owners_put c.args.machine.now _ _ _ _ _ _ (switches_put c.args.machine.now _ _ _ _ _ _ (marks_put c.args.machine.now _ _ _ _ _ _ (config_put c.args.machine.now _ _ _ _ _ _ (first_put c.args.machine.now _ _ _ _ _ _ (all_of c.args.machine.now _ _) c.in_ok-put_first.ensures) c.in_ok-put_config.ensures) c.in_ok-put_marks.ensures) c.in_ok-save_dead.ensures) c.in_ok-save_owners.ensures) c.in_ok-save_given.ensures.put) c.in_ok-save_records.ensures.put) c.put_end.ensures
