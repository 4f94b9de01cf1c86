-- Blocks that are the same at each place are the same, so what is kept of one is kept of the other.
use Rattle.std.proofs.Common.{◌≡◌, ℕ, subst, sym}
use mathlib.Core.Path.{fun_ext}
use Rattle.sn_coherence.specs.Block.{Block}
use Rattle.sn_coherence.specs.Invariant.{BlockInvariant}
use Rattle.sn_coherence.specs.Records.{Records}
use Rattle.sn_coherence.specs.RecordsInvariant.{RecordsInvariant}
use Rattle.sn_coherence.specs.Same.{IsSame}

pub same_block : (a b : Block) → IsSame a b → a ≡ b
same_block a b s = λ i. record {
  point = s.point i;
  home = s.home i;
  now = fun_ext s.now i;
  known = fun_ext s.known i;
  line = fun_ext s.line i;
  content = fun_ext s.content i;
  miss = fun_ext s.miss i;
  putting = fun_ext s.putting i;
  put_issued = fun_ext s.put_issued i;
  at_home = s.at_home i;
  owner = s.owner i;
  home_content = s.home_content i;
  sharers = fun_ext s.sharers i;
  kind = s.kind i;
  requester = s.requester i;
  begun = s.begun i;
  net = fun_ext s.net i;
  next = s.next i;
  holds = fun_ext (λ n. fun_ext (s.holds n)) i;
  held = fun_ext (λ n. fun_ext (s.held n)) i;
  last = fun_ext s.last i;
  named_home = fun_ext s.named_home i;
  named = fun_ext s.named i;
  home_held = fun_ext s.home_held i;
  home_last = s.home_last i;
  stage = s.stage i;
  at = s.at i;
  waited = fun_ext s.waited i;
  framed = fun_ext (λ n. fun_ext (s.framed n)) i;
}

pub same_kept : (N : ℕ) (a b : Block) → IsSame a b → BlockInvariant N b → BlockInvariant N a
same_kept N a b s k = subst (BlockInvariant N) (sym (same_block a b s)) k

pub same_kept_records : (a b : Block) (r : Records) → IsSame a b → RecordsInvariant b r → RecordsInvariant a r
same_kept_records a b r s k = subst (λ x. RecordsInvariant x r) (sym (same_block a b s)) k
