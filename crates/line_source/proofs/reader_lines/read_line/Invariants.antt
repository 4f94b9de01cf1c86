use Rattle.std.specs.Prelude.{IfSome}
use Rattle.line_source.proofs.Begun.{HasBegun}
use Rattle.line_source.proofs.reader_lines.read_line.Given as goal

abbrev pub invariant-reading : goal.invariant-reading
invariant-reading g l =
    IfSome (g.R.Read.remaining l.initial.reader) (λ bytes. HasBegun bytes (g.R.Read.remaining l.reader) l.into)
