use Rattle.consistent_cuts.proofs.SavedForm.{saved_form}
use Rattle.consistent_cuts.proofs.saved.saved_is_in_form.Goals as goal

pub returns : goal.returns
returns c = saved_form
