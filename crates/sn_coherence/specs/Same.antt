-- Two blocks that are the same at each place, as a machine's block after an event and that block after its row.
use Rattle.std.specs.Prelude.{◌≡◌, ℕ}
use Rattle.sn_coherence.specs.Block.{Block}

pub record IsSame (a b : Block) : Type 0 where
  pub point : a.point ≡ b.point
  pub home : a.home ≡ b.home
  pub now : (n : ℕ) → a.now n ≡ b.now n
  pub known : (n : ℕ) → a.known n ≡ b.known n
  pub line : (n : ℕ) → a.line n ≡ b.line n
  pub content : (n : ℕ) → a.content n ≡ b.content n
  pub miss : (n : ℕ) → a.miss n ≡ b.miss n
  pub putting : (n : ℕ) → a.putting n ≡ b.putting n
  pub put_issued : (n : ℕ) → a.put_issued n ≡ b.put_issued n
  pub at_home : a.at_home ≡ b.at_home
  pub owner : a.owner ≡ b.owner
  pub home_content : a.home_content ≡ b.home_content
  pub sharers : (n : ℕ) → a.sharers n ≡ b.sharers n
  pub kind : a.kind ≡ b.kind
  pub requester : a.requester ≡ b.requester
  pub begun : a.begun ≡ b.begun
  pub net : (i : ℕ) → a.net i ≡ b.net i
  pub next : a.next ≡ b.next
  pub holds : (n j : ℕ) → a.holds n j ≡ b.holds n j
  pub held : (n j : ℕ) → a.held n j ≡ b.held n j
  pub last : (n : ℕ) → a.last n ≡ b.last n
  pub named_home : (j : ℕ) → a.named_home j ≡ b.named_home j
  pub named : (j : ℕ) → a.named j ≡ b.named j
  pub home_held : (j : ℕ) → a.home_held j ≡ b.home_held j
  pub home_last : a.home_last ≡ b.home_last
  pub stage : a.stage ≡ b.stage
  pub at : a.at ≡ b.at
  pub waited : (n : ℕ) → a.waited n ≡ b.waited n
  pub framed : (n j : ℕ) → a.framed n j ≡ b.framed n j
