use Rattle.std.proofs.Common.{refl}
use Rattle.fabric_bounds.proofs.Finds.{answer_takes}
use Rattle.fabric_bounds.proofs.laws.answers_find_their_frames.Goals as goal

pub returns : goal.returns
returns c = λ s id f k found brings. answer_takes s k.0 id f k.1 found f.message.body refl brings
