-- The rows of a home, in the order of its table. Message i has come to the home, r is its sender.
-- `targets` and `due` are the sharers without r, in order, and how many they are.
use Rattle.std.specs.Prelude.{ℕ, ◌+◌, Bool, true, false, cond}
use Rattle.sn_coherence.specs.Block.{Block, Kind, Idle, Read, Take, Move, Upgrade, Put, Asked, Given, FwdGetS, FwdGetM, DataS, DataM, DataE}
use Rattle.sn_coherence.specs.Block.{UpgOk, PutGo, PutDone, nothing, set, above, others, plain, forward, answer, net_without, net_with_reply}
use Rattle.sn_coherence.specs.Block.{invalidates}

-- GetS, the home owns and there are other sharers: a Read opens; r joins the sharers; DataS to r.
abbrev pub read_at_home : Block → ℕ → Block
read_at_home b i =
    record b {
      kind = Read;
      requester = (b.net i).from;
      begun = b.now b.home;
      sharers = set b.sharers (b.net i).from true;
      net = net_with_reply b i (answer DataS b.home (b.net i).from (b.now b.home) 0 b.home_content);
      next = b.next + 1;
      stage = Given;
      at = b.now b.home;
    }

-- GetS, a cache owns: a Read opens; r joins the sharers; FwdGetS for r to the owner.
abbrev pub read_at_owner : Block → ℕ → Block
read_at_owner b i =
    record b {
      kind = Read;
      requester = (b.net i).from;
      begun = b.now b.home;
      sharers = set b.sharers (b.net i).from true;
      net = net_with_reply b i (forward FwdGetS b.home b.owner (b.now b.home) (b.net i).from 0);
      next = b.next + 1;
      stage = Asked;
    }

-- GetM, the home owns: its content is noted under now, r is the owner, nobody shares; a Take opens;
-- DataM to r, and Inv for r to the other sharers.
abbrev pub take : Block → ℕ → (ℕ → ℕ) → ℕ → Block
take b i targets due =
    record b {
      kind = Take;
      requester = (b.net i).from;
      begun = b.now b.home;
      at_home = false;
      owner = (b.net i).from;
      home_content = nothing;
      named_home = above b.named_home (b.now b.home) false;
      named = above b.named (b.now b.home) (b.net i).from;
      home_held = above b.home_held (b.now b.home) nothing;
      home_last = b.now b.home + 1;
      sharers = λ n. false;
      net = invalidates b i (answer DataM b.home (b.net i).from (b.now b.home) due b.home_content) targets due;
      next = b.next + (1 + due);
      stage = Given;
      at = b.now b.home;
      waited = others b.sharers (b.net i).from;
    }

-- GetM, another cache owns: nobody shares; a Move opens; FwdGetM for r to the owner, and Inv for r to the other sharers.
abbrev pub move_ownership : Block → ℕ → (ℕ → ℕ) → ℕ → Block
move_ownership b i targets due =
    record b {
      kind = Move;
      requester = (b.net i).from;
      begun = b.now b.home;
      sharers = λ n. false;
      net = invalidates b i (forward FwdGetM b.home b.owner (b.now b.home) (b.net i).from due) targets due;
      next = b.next + (1 + due);
      stage = Asked;
      waited = others b.sharers (b.net i).from;
    }

-- GetM, r owns: nobody shares; an Upgrade opens; UpgOk to r, and Inv for r to the other sharers.
abbrev pub upgrade : Block → ℕ → (ℕ → ℕ) → ℕ → Block
upgrade b i targets due =
    record b {
      kind = Upgrade;
      requester = (b.net i).from;
      begun = b.now b.home;
      sharers = λ n. false;
      net = invalidates b i (answer UpgOk b.home (b.net i).from (b.now b.home) due nothing) targets due;
      next = b.next + (1 + due);
      stage = Given;
      at = b.now b.home;
      waited = others b.sharers (b.net i).from;
    }

-- Unblock of a Move: the old owner is noted under the Unblock's interval, r is the owner; the transaction is closed.
abbrev pub unblock_move : Block → ℕ → Block
unblock_move b i =
    record b {
      kind = Idle;
      requester = 0;
      begun = 0;
      owner = (b.net i).from;
      named_home = above b.named_home (b.net i).number false;
      named = above b.named (b.net i).number (b.net i).from;
      home_held = above b.home_held (b.net i).number nothing;
      home_last = (b.net i).number + 1;
      net = net_without b i;
      waited = λ n. false;
    }

-- Unblock of any other transaction: it is closed.
abbrev pub unblock_other : Block → ℕ → Block
unblock_other b i = record b { kind = Idle; requester = 0; begun = 0; net = net_without b i; waited = λ n. false }

abbrev pub is_move : Kind → Bool
is_move Move = true
is_move _ = false

abbrev pub unblock : Block → ℕ → Block
unblock b i = cond (is_move b.kind) (unblock_move b i) (unblock_other b i)

-- PutReq, r owns: a Put opens; PutGo to r.
abbrev pub put_begins : Block → ℕ → Block
put_begins b i =
    record b {
      kind = Put;
      requester = (b.net i).from;
      begun = b.now b.home;
      net = net_with_reply b i (plain PutGo b.home (b.net i).from (b.now b.home));
      next = b.next + 1;
      stage = Asked;
    }

-- PutReq, r doesn't own: PutDone to r; nothing opens.
abbrev pub put_is_stale : Block → ℕ → Block
put_is_stale b i = record b { net = net_with_reply b i (plain PutDone b.home (b.net i).from (b.now b.home)); next = b.next + 1 }

-- PutData: that r owned is noted under the message's tag; the home owns the content; the transaction is closed.
abbrev pub put_data : Block → ℕ → Block
put_data b i =
    record b {
      kind = Idle;
      requester = 0;
      begun = 0;
      at_home = true;
      owner = 0;
      home_content = (b.net i).content;
      named_home = above b.named_home (b.net i).tag true;
      named = above b.named (b.net i).tag 0;
      home_held = above b.home_held (b.net i).tag (b.net i).content;
      home_last = (b.net i).tag + 1;
      net = net_without b i;
      waited = λ n. false;
    }

-- GetS, the home owns and there is no other sharer: the home's content is noted under now, r is the owner, nobody shares;
-- a Take opens; DataE to r.
abbrev pub grant_exclusive : Block → ℕ → Block
grant_exclusive b i =
    record b {
      kind = Take;
      requester = (b.net i).from;
      begun = b.now b.home;
      at_home = false;
      owner = (b.net i).from;
      home_content = nothing;
      named_home = above b.named_home (b.now b.home) false;
      named = above b.named (b.now b.home) (b.net i).from;
      home_held = above b.home_held (b.now b.home) nothing;
      home_last = b.now b.home + 1;
      sharers = λ n. false;
      net = net_with_reply b i (answer DataE b.home (b.net i).from (b.now b.home) 0 b.home_content);
      next = b.next + 1;
      stage = Given;
      at = b.now b.home;
      waited = λ n. false;
    }
