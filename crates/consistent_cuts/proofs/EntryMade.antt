-- The retirement that a run makes of an instruction is the entry that it makes in the sorted list.
use Rattle.std.proofs.Common.{◌≡◌, ℕ, option_to_list, refl, sym}
use Rattle.sn_base.specs.Image.{ImageData}
use Rattle.sn_model.specs.Machine.{State, processor_at}
use Rattle.sn_model.specs.Trace.{entry_at}
use Rattle.sn_consistency.specs.Words.{puts}
use Rattle.sn_consistency.proofs.StepLaws.{puts_bare}
use Rattle.consistent_cuts.specs.Accesses.{entry_of}

module _ (image : ImageData) (s : State) (n : ℕ) where
  pub same_record : (entry_at image s n).did ≡ (entry_of image s n).did
  same_record = refl

  pub same_out : option_to_list (entry_at image s n).out ≡ puts image (entry_of image s n).found (entry_of image s n).did
  unfolding puts
  same_out = sym (puts_bare image (processor_at s n).core (entry_of image s n).did)
