use Rattle.std.proofs.Common.{◌≡◌, ◌≤◌, ◌+◌, ◌*◌, ◌++◌, length}
use Rattle.run_statistics.specs.Lines.{lead_names, named_lines}
use Rattle.run_statistics.proofs.lines.write_leads.Given as goal

abbrev pub invariant-places : goal.invariant-places
invariant-places l = record {
  text : l.line ≡ l.initial.line ++ named_lines lead_names l.x.leads l.place;
  short : length l.line ≤ length l.initial.line + 64 * l.place;
}
