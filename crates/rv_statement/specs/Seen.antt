-- The code's readings as the definitions' ones.
use Rattle.rv_statement.specs.declared.reading.Operation.{Operation}
use Rattle.rv_statement.specs.declared.reading.Operation.TheVariants.{Coded, Aimed}
use Rattle.rv_statement.specs.declared.reading.Line.{Line}
use Rattle.rv_statement.specs.declared.reading.Line.TheVariants.{Nothing, Label, Says, Formless}
use Rattle.rv_statement.specs.Reading.{Read, fixed, aimed, Statement, nothing, label, said, formless}

abbrev pub operation_seen : Operation → Read
operation_seen (Coded word) = fixed word
operation_seen (Aimed instr name) = aimed instr name.now

abbrev pub line_seen : Line → Statement
line_seen Nothing = nothing
line_seen (Label name) = label name.now
line_seen (Says operation) = said (operation_seen operation)
line_seen Formless = formless
