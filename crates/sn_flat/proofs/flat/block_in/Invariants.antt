use Rattle.std.proofs.Common.{◌≡◌, length, take, drop}
use Rattle.sn_flat.proofs.flat.block_in.Given as goal

-- the first bytes are those of memory
abbrev pub invariant-bytes : goal.invariant-bytes
invariant-bytes l = record {
  whole : length l.content ≡ 64;
  same : take l.place l.content ≡ take l.place (drop l.start l.memory);
}
