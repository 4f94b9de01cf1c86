use Rattle.std.proofs.Common.{ℕ, List, ◌≤◌, ◌<◌, ◌≡◌, Result, Ok, Err, OnOk}
use Rattle.sn_resume.proofs.Facts.{machine_owns, machine_processors, machine_read_back, machine_resumes}
use Rattle.sn_resume.proofs.Putting.{puts_whole, puts_part, puts_later, puts_cause}
use Rattle.sn_resume.proofs.saving.save.Goals as goal

pub put_all-requires-clause-marks : goal.put_all-requires-clause-marks
put_all-requires-clause-marks g c = machine_owns c.args.machine.now c.recovered-view.ensures.consistent

pub put_all-requires-clause-processors : goal.put_all-requires-clause-processors
put_all-requires-clause-processors g c = machine_processors c.args.machine.now c.recovered-view.ensures.consistent

pub returns-clause-whole : goal.returns-clause-whole
returns-clause-whole g c = puts_whole _ _ _ _ _ c.put_all.result c.put_all.ensures.put

pub returns-clause-part : goal.returns-clause-part
returns-clause-part g c = puts_part _ _ _ _ _ c.put_all.result c.put_all.ensures.put

pub returns-clause-later : goal.returns-clause-later
returns-clause-later g c = puts_later _ _ _ _ _ c.put_all.result c.put_all.ensures.put

pub returns-clause-cause : goal.returns-clause-cause
returns-clause-cause g c = puts_cause _ _ _ _ _ c.put_all.result c.put_all.ensures.put

pub returns-clause-read_back : goal.returns-clause-read_back
returns-clause-read_back g c =
    machine_read_back c.args.machine.now c.recovered-view.ensures.consistent c.requires c.put_all.result c.put_all.ensures.numbers c.put_all.ensures.values

pub returns-clause-goes_on : goal.returns-clause-goes_on
returns-clause-goes_on g c = machine_resumes c.args.machine.now c.recovered-view.ensures.consistent
