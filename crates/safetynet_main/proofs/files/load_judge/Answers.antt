use Rattle.std.proofs.Common.{refl}
use Rattle.std.specs.Prelude.{Ok, Err}
use Rattle.call_files.specs.Fetches.{Fetches}
use Rattle.call_files.specs.Files.{accesses_limit, accesses_in}
use Rattle.safetynet_main.specs.Call.{judge_with}
use Rattle.safetynet_main.specs.declared.job.Job.TheVariants.{Judge as JudgeJob}
use Rattle.safetynet_main.proofs.Loading.{loads-last}
use Rattle.safetynet_main.proofs.files.load_judge.Goals as goal

pub returns-in-Ok-clause-loads : goal.returns-in-Ok-clause-loads
returns-in-Ok-clause-loads g c = λ no.
    loads-last (Fetches g.S.Store.files g.S.Store.sure g.S.Store.faults g.S.Store.gave) _ _ accesses_limit accesses_in judge_with
    (Ok c.in-Ok.list) (Ok (JudgeJob c.in-Ok.list)) c.args.accesses.now c.args.accesses.now refl
    (c.in-Ok.ensures.found (λ m. cc)) refl

pub returns-in-Err-clause-loads : goal.returns-in-Err-clause-loads
returns-in-Err-clause-loads g c = λ no.
    loads-last (Fetches g.S.Store.files g.S.Store.sure g.S.Store.faults g.S.Store.gave) _ _ accesses_limit accesses_in judge_with
    (Err c.in-Err.status) (Err c.in-Err.status) c.args.accesses.now c.args.accesses.now refl
    (c.in-Err.ensures.found (λ m. no cc)) refl
