-- The rows of a cache, in the order of its table. Message i has come to the node that it is for.
use Rattle.std.specs.Prelude.{ℕ, ◌+◌, true, false, ◌==◌, ◌&&◌, cond}
use Rattle.sn_coherence.specs.Block.{Block, Miss, NoLine, Shared, Owned, Modified, Exclusive, NoPut, Given, Inside, Done, Message, DataS}
use Rattle.sn_coherence.specs.Block.{DataM, InvAck, Unblock, PutData, is_write, set, set_row, above, nothing, no_miss, plain, with_number}
use Rattle.sn_coherence.specs.Block.{answer, net_without, net_with_reply}

-- FwdGetS for r, at the owner: the line is owned and no longer writable; DataS with the content to r.
abbrev pub forward_read : Block → ℕ → Block
forward_read b i =
    record b {
      line = set b.line (b.net i).to Owned;
      net = net_with_reply b i (answer DataS (b.net i).to (b.net i).requester (b.now (b.net i).to) 0 (b.content (b.net i).to));
      next = b.next + 1;
      stage = Given;
      at = b.now (b.net i).to;
    }

-- FwdGetM for r, at the owner: the old content is noted under now, the copy is lost; DataM to r.
abbrev pub forward_write : Block → ℕ → Block
forward_write b i =
    record b {
      line = set b.line (b.net i).to NoLine;
      content = set b.content (b.net i).to nothing;
      holds = set_row b.holds (b.net i).to (above (b.holds (b.net i).to) (b.now (b.net i).to) false);
      held = set_row b.held (b.net i).to (above (b.held (b.net i).to) (b.now (b.net i).to) nothing);
      last = set b.last (b.net i).to (b.now (b.net i).to + 1);
      net = net_with_reply b i (answer DataM (b.net i).to (b.net i).requester (b.now (b.net i).to) (b.net i).due (b.content (b.net i).to));
      next = b.next + 1;
      stage = Given;
      at = b.now (b.net i).to;
    }

-- Inv for r, at a sharer: the copy, if any, is lost; InvAck to r.
abbrev pub invalidate : Block → ℕ → Block
invalidate b i =
    record b {
      line = set b.line (b.net i).to NoLine;
      content = set b.content (b.net i).to nothing;
      net = net_with_reply b i (plain InvAck (b.net i).to (b.net i).requester (b.now (b.net i).to));
      next = b.next + 1;
    }

-- a miss is closed by an Unblock with its interval of atomicity
abbrev pub unblocks : Block → ℕ → ℕ → Message
unblocks b n fixed = with_number Unblock n b.home (b.now n) fixed

-- a miss with its interval of atomicity and the acknowledgements due
abbrev pub fixes : Miss → ℕ → ℕ → Miss
fixes m fixed due = record m { is_fixed = true; fixed = fixed; due = due }

-- DataS: the line is Shared with the content; the miss is complete.
abbrev pub data_shared : Block → ℕ → Block
data_shared b i =
    record b {
      line = set b.line (b.net i).to Shared;
      content = set b.content (b.net i).to (b.net i).content;
      miss = set b.miss (b.net i).to no_miss;
      net = net_with_reply b i (unblocks b (b.net i).to (b.net i).tag);
      next = b.next + 1;
      stage = Done;
    }

-- DataM: that nothing was owned is noted under the message's tag; the line is Modified with the content;
-- the miss is fixed at the tag ..
abbrev pub data_modified_open : Block → ℕ → Block
data_modified_open b i =
    record b {
      line = set b.line (b.net i).to Modified;
      content = set b.content (b.net i).to (b.net i).content;
      holds = set_row b.holds (b.net i).to (above (b.holds (b.net i).to) (b.net i).tag true);
      held = set_row b.held (b.net i).to (above (b.held (b.net i).to) (b.net i).tag (b.net i).content);
      last = set b.last (b.net i).to ((b.net i).tag + 1);
      miss = set b.miss (b.net i).to (fixes (b.miss (b.net i).to) (b.net i).tag (b.net i).due);
      net = net_without b i;
      stage = Inside;
    }

-- .. and complete where all acknowledgements due are in.
abbrev pub data_modified_complete : Block → ℕ → Block
data_modified_complete b i =
    record b {
      line = set b.line (b.net i).to Modified;
      content = set b.content (b.net i).to (b.net i).content;
      holds = set_row b.holds (b.net i).to (above (b.holds (b.net i).to) (b.net i).tag true);
      held = set_row b.held (b.net i).to (above (b.held (b.net i).to) (b.net i).tag (b.net i).content);
      last = set b.last (b.net i).to ((b.net i).tag + 1);
      miss = set b.miss (b.net i).to no_miss;
      net = net_with_reply b i (unblocks b (b.net i).to (b.net i).tag);
      next = b.next + 1;
      stage = Done;
    }

abbrev pub data_modified : Block → ℕ → Block
data_modified b i = cond ((b.miss (b.net i).to).acks == (b.net i).due) (data_modified_complete b i) (data_modified_open b i)

-- UpgOk: the miss is fixed at the message's tag ..
abbrev pub upgrade_granted_open : Block → ℕ → Block
upgrade_granted_open b i =
    record b {
      miss = set b.miss (b.net i).to (fixes (b.miss (b.net i).to) (b.net i).tag (b.net i).due);
      net = net_without b i;
      stage = Inside;
    }

-- .. and complete, with the line in Modified, where all acknowledgements due are in.
abbrev pub upgrade_granted_complete : Block → ℕ → Block
upgrade_granted_complete b i =
    record b {
      line = set b.line (b.net i).to Modified;
      miss = set b.miss (b.net i).to no_miss;
      net = net_with_reply b i (unblocks b (b.net i).to (b.net i).tag);
      next = b.next + 1;
      stage = Done;
    }

abbrev pub upgrade_granted : Block → ℕ → Block
upgrade_granted b i = cond ((b.miss (b.net i).to).acks == (b.net i).due) (upgrade_granted_complete b i) (upgrade_granted_open b i)

-- InvAck: one more acknowledgement is in ..
abbrev pub acknowledge_open : Block → ℕ → Block
acknowledge_open b i =
    record b {
      miss = set b.miss (b.net i).to (record (b.miss (b.net i).to) { acks = (b.miss (b.net i).to).acks + 1 });
      net = net_without b i;
      waited = set b.waited (b.net i).from false;
    }

-- .. and the miss is complete, with the line in Modified where it wanted to write, where it is fixed and all are in.
abbrev pub acknowledge_complete : Block → ℕ → Block
acknowledge_complete b i =
    record b {
      line = set b.line (b.net i).to (cond (is_write (b.miss (b.net i).to).want) Modified (b.line (b.net i).to));
      miss = set b.miss (b.net i).to no_miss;
      net = net_with_reply b i (unblocks b (b.net i).to (b.miss (b.net i).to).fixed);
      next = b.next + 1;
      waited = set b.waited (b.net i).from false;
      stage = Done;
    }

abbrev pub acknowledge : Block → ℕ → Block
acknowledge b i =
    cond ((b.miss (b.net i).to).is_fixed && ((b.miss (b.net i).to).acks + 1 == (b.miss (b.net i).to).due)) (acknowledge_complete b i)
    (acknowledge_open b i)

-- PutGo: the old content is noted under now, the copy is lost, the put is closed; PutData to the home.
abbrev pub put_go : Block → ℕ → Block
put_go b i =
    record b {
      line = set b.line (b.net i).to NoLine;
      content = set b.content (b.net i).to nothing;
      holds = set_row b.holds (b.net i).to (above (b.holds (b.net i).to) (b.now (b.net i).to) false);
      held = set_row b.held (b.net i).to (above (b.held (b.net i).to) (b.now (b.net i).to) nothing);
      last = set b.last (b.net i).to (b.now (b.net i).to + 1);
      putting = set b.putting (b.net i).to NoPut;
      put_issued = set b.put_issued (b.net i).to 0;
      net = net_with_reply b i (answer PutData (b.net i).to b.home (b.now (b.net i).to) 0 (b.content (b.net i).to));
      next = b.next + 1;
      stage = Given;
      at = b.now (b.net i).to;
    }

-- PutDone: the put is closed.
abbrev pub put_done : Block → ℕ → Block
put_done b i =
    record b {
      putting = set b.putting (b.net i).to NoPut;
      put_issued = set b.put_issued (b.net i).to 0;
      net = net_without b i;
    }

-- DataE: that nothing was owned is noted under the message's tag; the line is Exclusive with the content;
-- the miss is complete.
abbrev pub data_exclusive : Block → ℕ → Block
data_exclusive b i =
    record b {
      line = set b.line (b.net i).to Exclusive;
      content = set b.content (b.net i).to (b.net i).content;
      holds = set_row b.holds (b.net i).to (above (b.holds (b.net i).to) (b.net i).tag true);
      held = set_row b.held (b.net i).to (above (b.held (b.net i).to) (b.net i).tag (b.net i).content);
      last = set b.last (b.net i).to ((b.net i).tag + 1);
      miss = set b.miss (b.net i).to no_miss;
      net = net_with_reply b i (unblocks b (b.net i).to (b.net i).tag);
      next = b.next + 1;
      stage = Done;
    }
