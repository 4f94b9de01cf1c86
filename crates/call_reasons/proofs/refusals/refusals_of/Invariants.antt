use Rattle.std.proofs.Common.{◌≡◌, ◌+◌, ◌≤◌, length, drop}
use Rattle.call_reasons.specs.Notes.{none_refused, refusals_from}
use Rattle.call_reasons.proofs.refusals.refusals_of.Given as goal

abbrev pub invariant-events : goal.invariant-events
invariant-events l = record {
  found : refusals_from l.machine (l.place + 1) l.refusals (drop l.event-index l.events)
      ≡ refusals_from l.initial.machine 1 none_refused l.events;
  place : l.place ≡ l.event-index;
  room : length l.events ≤ l.machine.spare + l.event-index;
  nodes : l.machine.config ≡ l.initial.machine.config;
  few : l.refusals.count ≤ l.place;
}
