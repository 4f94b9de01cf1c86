use Rattle.std.proofs.Common.{refl, ap}
use Rattle.std.specs.Prelude.{Result, Ok, Err}
use Rattle.sn_base.specs.Image.{ImageData}
use Rattle.call_files.specs.Fetches.{Fetches}
use Rattle.call_files.specs.Files.{program_limit, program_in, listing_of}
use Rattle.call_status.specs.declared.status.Status.{Status}
use Rattle.safetynet_main.specs.Call.{text_job}
use Rattle.safetynet_main.specs.declared.job.Job.{Job}
use Rattle.safetynet_main.specs.declared.job.Job.TheVariants.{Text as TextJob}
use Rattle.safetynet_main.proofs.Loading.{loads-last}
use Rattle.safetynet_main.proofs.files.load_listing.Goals as goal

abbrev listed : Result ImageData Status → Result Job Status
listed program = text_job (listing_of program)

pub returns-in-Err-clause-loads : goal.returns-in-Err-clause-loads
returns-in-Err-clause-loads g c = λ no.
    loads-last (Fetches g.S.Store.files g.S.Store.sure g.S.Store.faults g.S.Store.gave) _ _ program_limit program_in listed (Err c.in-Err.status)
    (Err c.in-Err.status) c.args.program.now c.args.program.now refl (c.in-Err.ensures.found (λ m. no cc)) refl

pub returns-in-Ok-listed-clause-loads : goal.returns-in-Ok-listed-clause-loads
returns-in-Ok-listed-clause-loads g c = λ no.
    loads-last (Fetches g.S.Store.files g.S.Store.sure g.S.Store.faults g.S.Store.gave) _ _ program_limit program_in listed (Ok c.in-Ok.program)
    (Ok (TextJob c.in-Ok-listed.text)) c.args.program.now c.args.program.now refl (c.in-Ok.ensures.found (λ m. cc))
    (ap text_job (c.in-Ok-listed.ensures (λ m. cc)))

pub returns-in-Err-listed-clause-loads : goal.returns-in-Err-listed-clause-loads
returns-in-Err-listed-clause-loads g c = λ no.
    loads-last (Fetches g.S.Store.files g.S.Store.sure g.S.Store.faults g.S.Store.gave) _ _ program_limit program_in listed (Ok c.in-Ok.program)
    (Err c.in-Err-listed.status) c.args.program.now c.args.program.now refl (c.in-Ok.ensures.found (λ m. cc))
    (ap text_job (c.in-Err-listed.ensures (λ m. no cc)))
