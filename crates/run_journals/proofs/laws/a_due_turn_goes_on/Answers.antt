use Rattle.run_journals.proofs.Draws.{turns_of-snoc}
use Rattle.run_journals.proofs.Folds.{state_of-snoc, answers_of-snoc, numbers_of-snoc}
use Rattle.run_journals.proofs.Dues.{IsDue-snoc}
use Rattle.run_journals.proofs.laws.a_due_turn_goes_on.Goals as goal

pub returns-clause-due : goal.returns-clause-due
returns-clause-due c = IsDue-snoc

pub returns-clause-state : goal.returns-clause-state
returns-clause-state c = state_of-snoc

pub returns-clause-answers : goal.returns-clause-answers
returns-clause-answers c = answers_of-snoc

pub returns-clause-numbers : goal.returns-clause-numbers
returns-clause-numbers c = numbers_of-snoc

pub returns-clause-turns : goal.returns-clause-turns
returns-clause-turns c = turns_of-snoc
