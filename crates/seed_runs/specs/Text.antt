-- The lines of a block beside those of its run.
use Rattle.std.specs.Prelude.{ℕ, List, [], ◌++◌, codes}
use Rattle.sn_text.specs.Text.{named_number, count_line, cause_text}
use Rattle.ordered_run.specs.Ending.{Ending}
use Rattle.ordered_run.specs.Ending.TheVariants.{Exited, Trapped, CutOff, Spent}

-- `seed S`
abbrev pub seed_line : ℕ → List ℕ
seed_line seed = count_line [] (codes "seed") seed

-- how a run ended, in the words of the status of a call that runs it alone
abbrev pub ending_text : Ending → List ℕ
ending_text Exited = codes "done"
ending_text (Trapped node cause) = named_number (codes "trapped") node ++ codes " " ++ cause_text cause
ending_text (CutOff a b) = named_number (codes "cutoff") a ++ named_number [] b
ending_text Spent = codes "budget"

-- `end WORDS`
unfoldable pub end_line : Ending → List ℕ
end_line ending = codes "end " ++ ending_text ending ++ codes "\n"
