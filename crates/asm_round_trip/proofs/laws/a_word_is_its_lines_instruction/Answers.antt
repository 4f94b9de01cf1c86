use Rattle.asm_round_trip.proofs.Decoded.{line-decoded, led-decoded}
use Rattle.asm_round_trip.proofs.laws.a_word_is_its_lines_instruction.Goals as goal

pub returns-clause-named : goal.returns-clause-named
returns-clause-named c = line-decoded

pub returns-clause-led : goal.returns-clause-led
returns-clause-led c = led-decoded
