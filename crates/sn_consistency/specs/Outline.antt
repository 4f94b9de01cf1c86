-- What a machine keeps of the sorted list while its nodes retire, count intervals, validate and recover.
use Rattle.std.specs.Prelude.{◌≡◌, ◌≢◌, ℕ, suc, ◌<◌, ◌≤◌, Bool, true, false, ◌&&◌, if◌then◌else◌, max, min, List, [], ◌∷◌, ◌++◌, ◌==◌}
use Rattle.std.specs.Prelude.{nat_eq, nat_lt, nat_le, length, drop, option_to_list}
use Rattle.sn_base.specs.Image.{ImageData}
use Rattle.rv_core.specs.declared.state.CoreState.{CoreState}
use Rattle.rv_core.specs.Core.{bare}
use Rattle.rv_core.specs.Flat.{FlatState, core_at}
use Rattle.sn_consistency.specs.Words.{Content, kind, block, place, next, content_after, block_word, block_in, reads}
use Rattle.sn_consistency.specs.Entries.{Entry, Places, Fits, own, put, touches, is_writer, writes_to}
use Rattle.sn_consistency.specs.Sorted.{at_cut, GoodList, retire, entries_below_cut}

-- a machine as the sorted list sees it. Cores are without reservations. Of a block, `value` is its newest content and
-- `content` what it is at a cut; `last_write` and, for each node, `last_access` are bounds: no write and no access of the
-- node lies in an interval of that number or above
pub record Outline : Type 0 where
  pub point : ℕ
  pub interval : ℕ → ℕ
  pub known : ℕ → ℕ
  pub core : ℕ → CoreState
  pub reserved : ℕ → ℕ → Bool
  pub checkpoint : ℕ → ℕ → CoreState
  pub given : ℕ → List ℕ
  pub waiting : ℕ → List ℕ
  pub list : ℕ → List Entry
  pub content : ℕ → ℕ → Content
  pub value : ℕ → Content
  pub last_write : ℕ → ℕ
  pub last_access : ℕ → ℕ → ℕ

-- an entry of interval x
pub record Placed (image : ImageData) (interval last_write : ℕ → ℕ) (last_access : ℕ → ℕ → ℕ) (x : ℕ) (y : Entry)
    : Type 0 where
  pub early : x ≤ interval y.did.core
  pub write : is_writer image y ≡ true → x < last_write (block image y.found)
  pub touch : touches image y ≡ true → x < last_access (block image y.found) y.did.core

abbrev pub AllPlaced : ImageData → (ℕ → ℕ) → (ℕ → ℕ) → (ℕ → ℕ → ℕ) → ℕ → List Entry → Type 0
AllPlaced image interval last_write last_access x [] = Unit {0}
AllPlaced image interval last_write last_access x (y ∷ ys) =
    Placed image interval last_write last_access x y × AllPlaced image interval last_write last_access x ys

-- what it keeps, F being the start
pub record Keeps (image : ImageData) (N : ℕ) (F : Places) (m : Outline) : Type 0 where
  pub good : GoodList image N F m.list
  pub placed : (x : ℕ) → AllPlaced image m.interval m.last_write m.last_access x (m.list x)
  -- above a node's interval each cut has the node's core as it is, its reservations, and the bytes that it has taken
  pub core : (n j : ℕ) → m.interval n < j → (at_cut image F m.list j).core n ≡ m.core n
  pub reserved : (n j b : ℕ) → m.interval n < j → m.reserved n b ≡ true → (at_cut image F m.list j).held n b ≡ true
  pub given : (n j : ℕ) → m.interval n < j → m.given n ≡ (at_cut image F m.list j).taken n ++ m.waiting n
  -- up to it, its register checkpoints
  pub checkpoint : (n j : ℕ) → m.known n ≤ j → j ≤ m.interval n → (at_cut image F m.list j).core n ≡ m.checkpoint n j
  -- from the point on, the contents of the blocks
  pub content : (b j : ℕ) → m.point ≤ j → (at_cut image F m.list j).content b ≡ m.content b j
  pub unwritten : (b j : ℕ) → m.last_write b ≤ j → m.content b j ≡ m.value b
  pub known_point : (n : ℕ) → m.known n ≤ m.point
  pub point_interval : (n : ℕ) → m.point ≤ m.interval n

-- what lets a node retire e in its interval: it sees the newest content; nothing of the block lies above where it writes;
-- and where it writes, no other node has the block reserved
pub record Retires (image : ImageData) (N : ℕ) (m : Outline) (e : Entry) : Type 0 where
  pub fits : Fits image N e
  pub same : e.found ≡ m.core e.did.core
  pub seen : reads (kind image e.found) ≡ true →
      e.did.seen ≡ block_word (m.value (block image e.found)) (place image e.found)
  pub done : e.did.sc_done ≡ true → m.reserved e.did.core (block image e.found) ≡ true
  pub newest : touches image e ≡ true → m.last_write (block image e.found) ≤ suc (m.interval e.did.core)
  pub alone : is_writer image e ≡ true → (n : ℕ) → m.last_access (block image e.found) n ≤ suc (m.interval e.did.core)
  pub lost : is_writer image e ≡ true → (n : ℕ) → n ≢ e.did.core → m.reserved n (block image e.found) ≡ false
  pub input : m.waiting e.did.core ≡
      option_to_list e.did.read ++ drop (length (option_to_list e.did.read)) (m.waiting e.did.core)

-- after its retirement
abbrev pub outline_after_retirement : ImageData → Outline → Entry → Outline
outline_after_retirement image m e = record m {
  core = put m.core e.did.core (bare (next image e.found e.did));
  reserved = λ n b. if n == e.did.core then own image e b (m.reserved n b) else m.reserved n b;
  waiting = λ n. if nat_eq e.did.core n then drop (length (option_to_list e.did.read)) (m.waiting n) else m.waiting n;
  list = retire m.list (m.interval e.did.core) e;
  content = λ b j.
      if writes_to image e b && nat_lt (m.interval e.did.core) j then content_after image e.found e.did (m.value b)
      else m.content b j;
  value = λ b. if writes_to image e b then content_after image e.found e.did (m.value b) else m.value b;
  last_write = λ b. if writes_to image e b then max (m.last_write b) (suc (m.interval e.did.core)) else m.last_write b;
  last_access = λ b n.
      if touches image e && ((b == block image e.found) && (n == e.did.core)) then
      max (m.last_access b n) (suc (m.interval e.did.core))
      else m.last_access b n;
}

-- a program's start
abbrev pub first_outline : Places → Outline
first_outline F = record {
  point = 0;
  interval = λ n. 0;
  known = λ n. 0;
  core = F.core;
  reserved = λ n b. false;
  checkpoint = λ n j. F.core n;
  given = λ n. [];
  waiting = λ n. [];
  list = λ x. [];
  content = λ b j. F.content b;
  value = F.content;
  last_write = λ b. 0;
  last_access = λ b n. 0;
}

-- where a machine goes on from a saved recovery point: every node is there, with the flat machine's core; all that is committed
-- lies in interval 0, in its order; and `waiting` is what it has not read of what was given
abbrev pub saved_outline : FlatState → List Entry → ℕ → (ℕ → List ℕ) → (ℕ → List ℕ) → Outline
saved_outline flat committed point given waiting = record {
  point = point;
  interval = λ n. point;
  known = λ n. point;
  core = λ n. bare (core_at flat n);
  reserved = λ n b. false;
  checkpoint = λ n j. bare (core_at flat n);
  given = given;
  waiting = waiting;
  list = λ x. if x == 0 then committed else [];
  content = λ b j. block_in flat.memory b;
  value = block_in flat.memory;
  last_write = λ b. min point 1;
  last_access = λ b n. min point 1;
}

-- a node's edge: its next interval begins, with a register checkpoint and without reservations
abbrev pub outline_after_edge : Outline → ℕ → Outline
outline_after_edge m n = record m {
  interval = put m.interval n (suc (m.interval n));
  checkpoint = λ i j. if (i == n) && (j == suc (m.interval n)) then m.core n else m.checkpoint i j;
  reserved = λ i b. if i == n then false else m.reserved i b;
}

-- some reservations are lost
abbrev pub lost_to : Outline → (ℕ → ℕ → Bool) → Outline
lost_to m reserved = record m { reserved = reserved }

-- a node learns of a point, and its register checkpoints below it are freed
abbrev pub outline_after_news : Outline → ℕ → ℕ → Outline
outline_after_news m n k = record m { known = λ i. if i == n then max (m.known i) k else m.known i }

-- a byte of input is given
abbrev pub given_to : Outline → ℕ → ℕ → Outline
given_to m n byte = record m {
  given = λ i. if i == n then m.given i ++ byte ∷ [] else m.given i;
  waiting = λ i. if i == n then m.waiting i ++ byte ∷ [] else m.waiting i;
}

-- the point rises by one
abbrev pub outline_after_validation : Outline → Outline
outline_after_validation m = record m { point = suc m.point }

-- a recovery to the point; `waiting` is what the entries that are left have not read
abbrev pub outline_after_recovery : Outline → (ℕ → List ℕ) → Outline
outline_after_recovery m waiting = record m {
  interval = λ n. m.point;
  known = λ n. m.point;
  core = λ n. m.checkpoint n m.point;
  reserved = λ n b. false;
  waiting = waiting;
  list = entries_below_cut m.list m.point;
  content = λ b j. if nat_le j m.point then m.content b j else m.content b m.point;
  value = λ b. m.content b m.point;
  last_write = λ b. min (m.last_write b) m.point;
  last_access = λ b n. min (m.last_access b n) m.point;
}

-- the numbers that are no node's go on to an interval and know of no point, each with the core that it had at the start
abbrev pub others_reach : ℕ → Places → Outline → ℕ → Outline
others_reach N F m k = record m {
  interval = λ n. if nat_lt n N then m.interval n else max (m.interval n) k;
  known = λ n. if nat_lt n N then m.known n else 0;
  checkpoint = λ n j. if nat_lt n N then m.checkpoint n j else F.core n;
}

-- two outlines that are the same at each place
pub record IsSameOutline (m p : Outline) : Type 0 where
  pub point : m.point ≡ p.point
  pub interval : (n : ℕ) → m.interval n ≡ p.interval n
  pub known : (n : ℕ) → m.known n ≡ p.known n
  pub core : (n : ℕ) → m.core n ≡ p.core n
  pub reserved : (n b : ℕ) → m.reserved n b ≡ p.reserved n b
  pub checkpoint : (n j : ℕ) → m.checkpoint n j ≡ p.checkpoint n j
  pub given : (n : ℕ) → m.given n ≡ p.given n
  pub waiting : (n : ℕ) → m.waiting n ≡ p.waiting n
  pub list : (x : ℕ) → m.list x ≡ p.list x
  pub content : (b j : ℕ) → m.content b j ≡ p.content b j
  pub value : (b : ℕ) → m.value b ≡ p.value b
  pub last_write : (b : ℕ) → m.last_write b ≡ p.last_write b
  pub last_access : (b n : ℕ) → m.last_access b n ≡ p.last_access b n
