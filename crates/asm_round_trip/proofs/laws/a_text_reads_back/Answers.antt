use Rattle.asm_round_trip.proofs.Texts.{text-reads_back}
use Rattle.asm_round_trip.proofs.laws.a_text_reads_back.Goals as goal

pub returns : goal.returns
returns c = text-reads_back
