-- The events of one block that are no delivery of a coherence message.
use Rattle.std.specs.Prelude.{ℕ, ◌+◌, Bool, true, false, ◌==◌, nat_lt, max, cond}
use Rattle.sn_coherence.specs.Block.{Block, Content, nothing, NoLine, Modified, Reads, Writes, Elsewhere, NoPut, Here, PutElsewhere}
use Rattle.sn_coherence.specs.Block.{Idle, Asked, GetS, GetM, PutReq, Ready, has_frame, set, set_row, above, freed_below_cut, newest_freed}
use Rattle.sn_coherence.specs.Block.{no_miss, new_miss, no_message, plain, with_number, net_without, tells_all}

-- Node n misses for a read: GetS to the home.
abbrev pub begin_read_miss : Block → ℕ → Block
begin_read_miss b n =
    record b {
      miss = set b.miss n (new_miss Reads (b.now n));
      net = set b.net b.next (plain GetS n b.home (b.now n));
      next = b.next + 1;
    }

-- Node n misses for a write: GetM to the home.
abbrev pub begin_write_miss : Block → ℕ → Block
begin_write_miss b n =
    record b {
      miss = set b.miss n (new_miss Writes (b.now n));
      net = set b.net b.next (plain GetM n b.home (b.now n));
      next = b.next + 1;
    }

-- Node n evicts an owned line: PutReq to the home.
abbrev pub begin_put : Block → ℕ → Block
begin_put b n =
    record b {
      putting = set b.putting n Here;
      put_issued = set b.put_issued n (b.now n);
      net = set b.net b.next (plain PutReq n b.home (b.now n));
      next = b.next + 1;
    }

-- A miss or a put of node n opens or closes on another block.
abbrev pub begin_miss_elsewhere : Block → ℕ → Block
begin_miss_elsewhere b n = record b { miss = set b.miss n (new_miss Elsewhere (b.now n)) }

abbrev pub end_miss_elsewhere : Block → ℕ → Block
end_miss_elsewhere b n = record b { miss = set b.miss n no_miss }

abbrev pub begin_put_elsewhere : Block → ℕ → Block
begin_put_elsewhere b n = record b { putting = set b.putting n PutElsewhere; put_issued = set b.put_issued n (b.now n) }

abbrev pub end_put_elsewhere : Block → ℕ → Block
end_put_elsewhere b n = record b { putting = set b.putting n NoPut; put_issued = set b.put_issued n 0 }

-- Messages of other blocks take k numbers.
abbrev pub numbers_elsewhere : Block → ℕ → Block
numbers_elsewhere b k = record b { next = b.next + k }

-- Node n writes, and the block is v then: the old content is noted under now, the line is Modified.
abbrev pub store : Block → ℕ → Content → Block
store b n v =
    record b {
      line = set b.line n Modified;
      content = set b.content n v;
      holds = set_row b.holds n (above (b.holds n) (b.now n) true);
      held = set_row b.held n (above (b.held n) (b.now n) v);
      last = set b.last n (b.now n + 1);
    }

-- Node n drops a Shared line.
abbrev pub evict_shared : Block → ℕ → Block
evict_shared b n = record b { line = set b.line n NoLine; content = set b.content n nothing }

-- Node n's clock edge.
abbrev pub edge : Block → ℕ → Block
edge b n =
    record b {
      now = set b.now n (b.now n + 1);
      framed = set_row b.framed n (set (b.framed n) (b.now n + 1) (has_frame (b.line n) (b.miss n).want));
    }

-- Node n reports k: Ready k to node 0.
abbrev pub report : Block → ℕ → ℕ → Block
report b n k = record b { net = set b.net b.next (with_number Ready n 0 (b.now n) k); next = b.next + 1 }

-- The recovery point grows by one; Advance to all N nodes.
abbrev pub validate : ℕ → Block → Block
validate N b = record b { point = b.point + 1; net = tells_all b N (b.point + 1); next = b.next + N }

-- Message i is lost. Where none has this number nothing changes.
abbrev pub lose : Block → ℕ → Block
lose b i = record b { net = net_without b i }

-- Ready at the controller: the block is as before.
abbrev pub deliver_ready : Block → ℕ → Block
deliver_ready b i = record b { net = net_without b i }

-- Advance k at a node: it knows the greater of k and what it knew, and frees the entries below k.
abbrev pub deliver_advance : Block → ℕ → Block
deliver_advance b i =
    record b {
      known = set b.known (b.net i).to (max (b.known (b.net i).to) (b.net i).number);
      holds = set_row b.holds (b.net i).to (freed_below_cut (b.holds (b.net i).to) (b.net i).number);
      held = set_row b.held (b.net i).to (freed_below_cut (b.held (b.net i).to) (b.net i).number);
      last = set b.last (b.net i).to (newest_freed (b.last (b.net i).to) (b.net i).number);
      named_home = λ j. cond ((b.net i).to == b.home) (freed_below_cut b.named_home (b.net i).number j) (b.named_home j);
      named = λ j. cond ((b.net i).to == b.home) (freed_below_cut b.named (b.net i).number j) (b.named j);
      home_held = λ j. cond ((b.net i).to == b.home) (freed_below_cut b.home_held (b.net i).number j) (b.home_held j);
      home_last = cond ((b.net i).to == b.home) (newest_freed b.home_last (b.net i).number) b.home_last;
      net = net_without b i;
    }

-- A recovery of all N nodes: all is as it was at the point, and what was owned there is Modified.
abbrev pub recover : ℕ → Block → Block
recover N b =
    record b {
      now = λ n. cond (nat_lt n N) b.point (b.now n);
      known = λ n. cond (nat_lt n N) b.point (b.known n);
      line = λ n. cond (b.holds n b.point) Modified NoLine;
      content = λ n. b.held n b.point;
      miss = λ n. no_miss;
      putting = λ n. NoPut;
      put_issued = λ n. 0;
      at_home = b.named_home b.point;
      owner = b.named b.point;
      home_content = b.home_held b.point;
      sharers = λ n. false;
      kind = Idle;
      requester = 0;
      begun = 0;
      net = λ i. no_message;
      holds = λ n j. b.holds n b.point;
      held = λ n j. b.held n b.point;
      last = λ n. 0;
      named_home = λ j. b.named_home b.point;
      named = λ j. b.named b.point;
      home_held = λ j. b.home_held b.point;
      home_last = 0;
      waited = λ n. false;
    }

-- The start: the home owns v, which nobody has. The first message is number 1.
abbrev pub start : ℕ → Content → Block
start home v =
    record {
      point = 0;
      home = home;
      now = λ n. 0;
      known = λ n. 0;
      line = λ n. NoLine;
      content = λ n. nothing;
      miss = λ n. no_miss;
      putting = λ n. NoPut;
      put_issued = λ n. 0;
      at_home = true;
      owner = 0;
      home_content = v;
      sharers = λ n. false;
      kind = Idle;
      requester = 0;
      begun = 0;
      net = λ i. no_message;
      next = 1;
      holds = λ n j. false;
      held = λ n j. nothing;
      last = λ n. 0;
      named_home = λ j. true;
      named = λ j. 0;
      home_held = λ j. v;
      home_last = 0;
      stage = Asked;
      at = 0;
      waited = λ n. false;
      framed = λ n j. false;
    }

-- A block at rest, from which a machine goes on: every node is at the recovery point; the home owns v, or one cache does, in
-- Modified; and nothing is open, noted or in flight.
abbrev pub owns : Bool → ℕ → ℕ → Bool
owns at_home owner n = cond at_home false (n == owner)

abbrev pub resting : ℕ → ℕ → ℕ → ℕ → Bool → ℕ → Content → Block
resting N point next home at_home owner v =
    record {
      point = point;
      home = home;
      now = λ n. cond (nat_lt n N) point 0;
      known = λ n. cond (nat_lt n N) point 0;
      line = λ n. cond (owns at_home owner n) Modified NoLine;
      content = λ n. cond (owns at_home owner n) v nothing;
      miss = λ n. no_miss;
      putting = λ n. NoPut;
      put_issued = λ n. 0;
      at_home = at_home;
      owner = owner;
      home_content = cond at_home v nothing;
      sharers = λ n. false;
      kind = Idle;
      requester = 0;
      begun = 0;
      net = λ i. no_message;
      next = next;
      holds = λ n j. owns at_home owner n;
      held = λ n j. cond (owns at_home owner n) v nothing;
      last = λ n. 0;
      named_home = λ j. at_home;
      named = λ j. owner;
      home_held = λ j. cond at_home v nothing;
      home_last = 0;
      stage = Asked;
      at = 0;
      waited = λ n. false;
      framed = λ n j. owns at_home owner n;
    }
