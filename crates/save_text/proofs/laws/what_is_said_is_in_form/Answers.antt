use Rattle.save_text.proofs.InForm.{in_form}
use Rattle.save_text.proofs.laws.what_is_said_is_in_form.Goals as goal

pub returns : goal.returns
returns c = in_form
