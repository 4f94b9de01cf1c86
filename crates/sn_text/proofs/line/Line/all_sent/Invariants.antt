use Rattle.std.proofs.Common.{◌≡◌, ◌≤◌, ◌+◌, ◌*◌, ◌++◌, drop, length}
use Rattle.sn_text.specs.Text.{sent_lines}
use Rattle.sn_text.proofs.line.Line.all_sent.Given as goal

abbrev pub invariant-messages : goal.invariant-messages
invariant-messages l = record {
  same : l.self ++ sent_lines (drop l.one-index l.sent) ≡ l.initial.self ++ sent_lines l.sent;
  short : length l.self ≤ length l.initial.self + 256 * l.one-index;
}
