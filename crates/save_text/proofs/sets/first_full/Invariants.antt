use Rattle.std.proofs.Common.{◌≡◌, ℕ, ◌<◌, [], take, drop, get_or, length}
use Rattle.sn_saved.specs.Saved.{full_from, owned_in}
use Rattle.save_text.proofs.Counted.{count_at}
use Rattle.save_text.proofs.sets.first_full.Given as goal

abbrev pub invariant-owners : goal.invariant-owners
invariant-owners l = record {
  same : full_from l.config (take l.place l.owners) l.place (drop l.place l.owners) ≡ full_from l.config [] 0 l.owners;
  long : length l.taken ≡ 16;
  rows : (n : ℕ) → n < 16 → length (get_or l.taken n []) ≡ 256;
  counts : (n s : ℕ) → n < 16 → s < 256 → count_at l.taken n s ≡ owned_in (take l.place l.owners) l.config.sets n s;
}
