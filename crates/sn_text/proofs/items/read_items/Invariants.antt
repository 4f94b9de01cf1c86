use Rattle.std.proofs.Common.{◌≡◌, ◌+◌, ◌≤◌, length, All}
use Rattle.sn_text.specs.Items.{items_and, items_from, items_of}
use Rattle.sn_text.proofs.items.read_items.Given as goal

abbrev pub invariant-lines : goal.invariant-lines
invariant-lines g l = record {
  same : items_and l.items.items (items_from (g.F.Form.item_of l.form) l.number (length l.items.items) l.lines)
      ≡ items_of (g.F.Form.item_of l.form) l.bytes;
  good : All (g.F.Form.good l.form) l.items.items;
  few : length l.items.items ≤ 1000000;
  numbers : l.number + length l.lines ≤ length l.bytes + 2;
}

abbrev pub decreases-lines : goal.decreases-lines
decreases-lines g l = length l.lines
