-- What probes are told of a run, once its workers have ended.
use Rattle.std.specs.Prelude.{ℕ, List, [], ◌∷◌, map}
use Rattle.sn_base.specs.declared.event.Answer.{Answer}
use Rattle.sn_probe.specs.Probes.{Meter, Observation, told_from}
use Rattle.shared_machine.specs.JournalEntry.{JournalEntry}

-- a journal's events, each with its answer
abbrev pub told_in : List JournalEntry → List Answer → List Observation
told_in [] answers = []
told_in (e ∷ journal) [] = []
told_in (e ∷ journal) (answer ∷ answers) = record { event = e.event; answer = answer } ∷ told_in journal answers

-- probes that were told all of these, once and in order, numbers from 1
abbrev pub told_all : List JournalEntry → List Answer → List Meter → List Meter
told_all journal answers probes = map (told_from 1 (told_in journal answers)) probes
