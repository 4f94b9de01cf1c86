-- The last acknowledgement is that of the one node that is still waited for.
use Rattle.std.proofs.Common.{◌≡◌, ℕ, ◌<◌, true, false, arith}
use Rattle.std.proofs.lemmas.Bool.Decides.{nat_tests}
use Rattle.sn_coherence.specs.Block.{Block, InvAck, set}
use Rattle.sn_coherence.specs.Invariant.{Acknowledgements, Nodes, count}
use Rattle.sn_coherence.specs.Events.{Arrives}
use Rattle.sn_coherence.proofs.Rows.{IsLast}
use Rattle.sn_coherence.proofs.Counts.{count_none, count_without}

module _ (N : ℕ) (b : Block) (i : ℕ) (w : Acknowledgements N b) (z : Nodes N b) (a : Arrives b i InvAck) (last : IsLast b i ≡ true) where
  one_left : count N b.waited ≡ 1
  one_left = grind (arith, nat_tests, w.due_fixed (b.net i).to)

  none_left : count N (set b.waited (b.net i).from false) ≡ 0
  none_left = grind (arith, nat_tests, one_left, count_without N b.waited (b.net i).from)

  low : (x : ℕ) → set b.waited (b.net i).from false x ≡ true → x < N
  low x e = grind (arith, nat_tests, z.waited_low x)

  others : (x : ℕ) → set b.waited (b.net i).from false x ≡ false
  others = count_none N (set b.waited (b.net i).from false) none_left low

  pub last_waited : (x : ℕ) → b.waited x ≡ true → x ≡ (b.net i).from
  last_waited x e = grind (arith, nat_tests, others x)
