use Rattle.std.proofs.Common.{◌≡◌, ◌+◌, ◌≤◌, ◌++◌, length}
use Rattle.std.specs.Prelude.{vec_capacity}
use Rattle.sn_model.specs.Net.{net_after_sends, sent_by}
use Rattle.sn_fabric.specs.Nets.{net_as}
use Rattle.sn_fabric.specs.Points.{tellings}
use Rattle.sn_fabric.proofs.points.tell_all.Given as goal

abbrev pub invariant-nodes : goal.invariant-nodes
invariant-nodes l = record {
  net : net_as l.net ≡ net_after_sends l.initial.net.routes (net_as l.initial.net) 0 l.tag 0 (tellings l.k l.number);
  routes : l.net.routes ≡ l.initial.net.routes;
  sent : l.sent.items ≡ l.initial.sent.items ++ sent_by l.initial.net.routes (net_as l.initial.net) 0 l.tag 0 (tellings l.k l.number);
  count : length l.sent.items ≡ length l.initial.sent.items + l.number;
  flights : length l.net.flights ≤ length l.initial.net.flights + l.number;
  next : l.net.next ≡ l.initial.net.next + l.number;
  capacity : vec_capacity l.initial.sent ≤ vec_capacity l.sent;
}
