use Rattle.std.proofs.Common.{subst, sym}
use Rattle.rv_core.specs.Wanted.{IsInside}
use Rattle.rv_core.proofs.CoreLaws.{want_inside}
use Rattle.call_reasons.proofs.verdict.word_read.Goals as goal

pub word_for-requires : goal.word_for-requires
word_for-requires c = record { inside = subst IsInside (sym c.want.ensures) (want_inside c.args.image.now c.core-core.result.now) }
