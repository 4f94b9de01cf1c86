use Rattle.sn_coherence.proofs.laws_of_a_log.Goals as goal
use Rattle.sn_coherence.proofs.Log.{note_law, no_note_law, free_law}

pub returns-clause-note : goal.returns-clause-note
returns-clause-note c = (note_law _, note_law _, note_law _)

pub returns-clause-no_note : goal.returns-clause-no_note
returns-clause-no_note c = (no_note_law _, no_note_law _, no_note_law _)

pub returns-clause-free : goal.returns-clause-free
returns-clause-free c = (free_law _, free_law _, free_law _)
