use Rattle.std.proofs.Common.{refl}
use Rattle.std.specs.Prelude.{Ok, Err}
use Rattle.call_files.specs.Fetches.{Fetches}
use Rattle.call_files.specs.Files.{program_limit, assembly_in}
use Rattle.safetynet_main.specs.Call.{text_job}
use Rattle.safetynet_main.specs.declared.job.Job.TheVariants.{Text as TextJob}
use Rattle.safetynet_main.proofs.Loading.{loads-last}
use Rattle.safetynet_main.proofs.files.load_assembly.Goals as goal

pub returns-in-Ok-clause-loads : goal.returns-in-Ok-clause-loads
returns-in-Ok-clause-loads g c = λ no.
    loads-last (Fetches g.S.Store.files g.S.Store.sure g.S.Store.faults g.S.Store.gave) _ _ program_limit assembly_in text_job (Ok c.in-Ok.text)
    (Ok (TextJob c.in-Ok.text)) c.args.text.now c.args.text.now refl
    (c.in-Ok.ensures.found (λ m. cc)) refl

pub returns-in-Err-clause-loads : goal.returns-in-Err-clause-loads
returns-in-Err-clause-loads g c = λ no.
    loads-last (Fetches g.S.Store.files g.S.Store.sure g.S.Store.faults g.S.Store.gave) _ _ program_limit assembly_in text_job
    (Err c.in-Err.status) (Err c.in-Err.status) c.args.text.now c.args.text.now refl
    (c.in-Err.ensures.found (λ m. no cc)) refl
