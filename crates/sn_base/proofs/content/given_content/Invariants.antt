use Rattle.std.proofs.Common.{◌≡◌, length, take}
use Rattle.sn_base.specs.Image.{bytes_from}
use Rattle.sn_base.proofs.content.given_content.Given as goal

-- the first bytes are those of the program
abbrev pub invariant-bytes : goal.invariant-bytes
invariant-bytes l = record {
  whole : length l.content ≡ 64;
  same : take l.place l.content ≡ bytes_from l.place l.image.segments l.start;
}
