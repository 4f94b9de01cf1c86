-- The code's readings and faults as the definitions' ones.
use Rattle.std.specs.Prelude.{map, option_map, Result, Ok, Err}
use Rattle.usage_reasons.specs.Faults.{Fault, Read, NoCommand, UnknownCommand, HelpAmong, UnknownOption, ValueLacking, ValueUnwanted, Twice}
use Rattle.usage_reasons.specs.Faults.{BadNumber, BadAddress, BadKill, BadSize, BadOrder, BadPlaces, BadSeeds, Lacking, OneTooMany, Together, PlacesAlone}
use Rattle.usage_reasons.specs.Faults.{OrderLacking, Other}
use Rattle.usage_reasons.specs.declared.reading.Reading.{Reading}
use Rattle.usage_reasons.specs.declared.fault.Fault as code
use Rattle.usage_reasons.specs.declared.fault.Fault.TheVariants as found

abbrev pub read_seen : Reading → Read
read_seen r = record {
  waiting = r.waiting;
  wanted = map (λ name. name.now) r.wanted.now;
  only_files = r.only_files;
  nodes = option_map (λ text. text.now) r.nodes;
  kill = option_map (λ text. text.now) r.kill;
  places = r.places;
  states = r.states;
  shown = option_map (λ flag. flag.now) r.shown;
  seeds = r.seeds;
  seeded = r.seeded;
  ordered = r.ordered;
}

abbrev pub fault_seen : code.Fault → Fault
fault_seen found.NoCommand = NoCommand
fault_seen (found.UnknownCommand word) = UnknownCommand word.now
fault_seen (found.HelpAmong word) = HelpAmong word.now
fault_seen (found.UnknownOption command option) = UnknownOption command option.now
fault_seen (found.ValueLacking key) = ValueLacking key
fault_seen (found.ValueUnwanted word) = ValueUnwanted word.now
fault_seen (found.Twice option) = Twice option.now
fault_seen (found.BadNumber quantity value) = BadNumber quantity value.now
fault_seen (found.BadAddress value) = BadAddress value.now
fault_seen (found.BadKill nodes value) = BadKill nodes value.now
fault_seen (found.BadSize word) = BadSize word.now
fault_seen (found.BadOrder value) = BadOrder value.now
fault_seen (found.BadPlaces value) = BadPlaces value.now
fault_seen (found.BadSeeds value) = BadSeeds value.now
fault_seen (found.Lacking command file) = Lacking command file.now
fault_seen (found.OneTooMany command word) = OneTooMany command word.now
fault_seen (found.Together one other) = Together one.now other.now
fault_seen found.PlacesAlone = PlacesAlone
fault_seen found.OrderLacking = OrderLacking
fault_seen found.Other = Other

abbrev pub step_seen : Result Reading code.Fault → Result Read Fault
step_seen (Ok reading) = Ok (read_seen reading)
step_seen (Err fault) = Err (fault_seen fault)
