use Rattle.std.proofs.Common.{◌≡◌, ◌+◌, ◌≤◌, [], length, take}
use Rattle.rv_core.specs.Flat.{flat_start}
use Rattle.rv_core.specs.Execution.{state_after, put_out_by}
use Rattle.sn_machine.specs.Resumed.{of_interval_0}
use Rattle.sn_machine.proofs.resuming.resumed_output.Given as goal

-- the flat machine did the first records, and what they put out is held
abbrev pub invariant-records : goal.invariant-records
invariant-records l = record {
  state : l.flat ≡ state_after l.image (flat_start l.image l.nodes) (take l.place l.records);
  held : l.output.held ≡ of_interval_0 (put_out_by l.image (flat_start l.image l.nodes) (take l.place l.records));
  released : l.output.released ≡ [];
  room : length l.records ≤ l.output.room + l.place;
}
