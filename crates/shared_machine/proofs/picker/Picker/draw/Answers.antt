use Rattle.shared_machine.proofs.Pickers.{picker-next}
use Rattle.shared_machine.proofs.picker.Picker.draw.Goals as goal

pub returns : goal.returns
returns c = λ seed worker picks is. picker-next seed worker picks _ _ c.next_word-self.ensures is
