-- Statements whose bytes lie in memory.
use Rattle.access_check.specs.Accesses.{IsFittingAccess, IsFittingWord}
use Rattle.access_texts.specs.declared.access_line.Statement.{Statement}
use Rattle.access_texts.specs.declared.access_line.Statement.TheVariants.{Start, Access as Accesses}

abbrev pub IsFittingStatement : Statement → Type 0
IsFittingStatement (Start word) = IsFittingWord word
IsFittingStatement (Accesses a) = IsFittingAccess a
