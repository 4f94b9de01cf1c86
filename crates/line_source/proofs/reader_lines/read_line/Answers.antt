use Rattle.std.proofs.Common.{arith}
use Rattle.std.proofs.lemmas.Bool.Decides.{nat_tests}
use Rattle.line_source.proofs.Begun.{known-more, known-ended-line, known-ended-rest, known-over-line, known-over-none, known-over-rest}
use Rattle.line_source.proofs.reader_lines.read_line.Goals as goal

pub reading-preserved : goal.reading-preserved
reading-preserved g c = known-more _ _ _ _ _ c.in_ok-take_piece.ensures _ c.in-Open.is c.reading.invariant

pub returns-in-Ended-clause-line : goal.returns-in-Ended-clause-line
returns-in-Ended-clause-line g c =
    known-ended-line _ _ _ _ _ c.in_ok-take_piece.ensures _ _ _ c.in-Ended.is c.reading.invariant c.cut_return.ensures c.judge.ensures.read

pub returns-in-Ended-clause-rest : goal.returns-in-Ended-clause-rest
returns-in-Ended-clause-rest g c = known-ended-rest _ _ _ _ _ c.in_ok-take_piece.ensures _ c.in-Ended.is c.reading.invariant

pub returns-in-Over-clause-line : goal.returns-in-Over-clause-line
returns-in-Over-clause-line g c =
    known-over-none _ _ _ _ _ c.in_ok-take_piece.ensures _ c.in-Over.is c.reading.invariant
    (grind (arith, nat_tests, c.is_empty.ensures, c.bytes.ensures, c.if-is_empty.true))

pub returns-in-Over-clause-rest : goal.returns-in-Over-clause-rest
returns-in-Over-clause-rest g c = known-over-rest _ _ _ _ _ c.in_ok-take_piece.ensures _ c.in-Over.is c.reading.invariant

pub returns-in-Over-2-clause-line : goal.returns-in-Over-2-clause-line
returns-in-Over-2-clause-line g c =
    known-over-line _ _ _ _ _ c.in_ok-take_piece.ensures _ _ c.in-Over-2.is c.reading.invariant
    (grind (arith, nat_tests, c.is_empty.ensures, c.bytes.ensures, c.if-is_empty.false)) c.judge-in-Over-2.ensures.read

pub returns-in-Over-2-clause-rest : goal.returns-in-Over-2-clause-rest
returns-in-Over-2-clause-rest g c = known-over-rest _ _ _ _ _ c.in_ok-take_piece.ensures _ c.in-Over-2.is c.reading.invariant
