-- The machine that goes on from a save file.
use Rattle.std.specs.Prelude.{◌≡◌, ℕ, List, [], Ok}
use Rattle.sn_base.specs.Image.{ImageData}
use Rattle.sn_saved.specs.Resumed.{resumed}
use Rattle.sn_saved.specs.Saved.{Saved, IsAccepted}
use Rattle.consistent_cuts.specs.Origins.{Resumed}
use Rattle.sn_machine.specs.Machine.{MachineData, HasRunFrom}
use Rattle.save_text.specs.Judged.{judged_of}
use Rattle.save_text.specs.Reading.{said_by}

-- the machine of this program that goes on from a recovery point, with room for no event
abbrev pub machine_resumed : ImageData → Saved → MachineData
machine_resumed image saved = record {
  image = image;
  config = saved.config;
  state = resumed image saved;
  sent = [];
  applied = saved.marks.applied;
  spare = 0;
}

-- the text is accepted, the machine goes on from what it says, and its life begins there
pub record GoesOnFrom (image : ImageData) (text : List ℕ) (m : MachineData) : Type 0 where
  pub saved : Saved
  pub said : judged_of image (said_by text) ≡ Ok saved
  pub accepted : IsAccepted image saved
  pub goes_on : m ≡ machine_resumed image saved
  pub led : HasRunFrom m (Resumed saved) []
