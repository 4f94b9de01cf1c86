use Rattle.std.proofs.Common.{◌≡◌, ◌++◌, length, drop}
use Rattle.sn_saved.specs.Saved.{given_to}
use Rattle.sn_machine.proofs.resuming.input_of.Given as goal

-- what was given, with what is left, is all; and there is room for just what is left
abbrev pub invariant-bytes : goal.invariant-bytes
invariant-bytes l = record {
  all : l.input.given ++ given_to (drop l.place l.given) l.node ≡ given_to l.given l.node;
  room : l.input.room ≡ length (given_to (drop l.place l.given) l.node);
}
