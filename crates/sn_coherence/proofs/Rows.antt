-- How the proofs are laid out. Each group of sentences has a file. In it one lemma for each row of the tables and each
-- other event, in their order, says that the row keeps the group; its name is the row's and the group's, as
-- `forward_read_owners`. A lemma's premises are the row's own, after the groups on which it rests: those of most rows stand
-- at the head of the file's module. A row with two ends is two lemmas. `EachRow` and `EachRowRecords` put the groups
-- together, `Whole` and `WholeRecords` the events, `Runs` whole runs.
use Rattle.std.proofs.Common.{◌≡◌, ℕ, ◌+◌, ◌≤◌, Bool, ◌==◌, ◌&&◌}
use Rattle.sn_coherence.specs.Block.{Block, Body}

-- message i has this body, and the home's interval has reached its tag
abbrev pub At : Block → ℕ → Body → Type 0
At b i body = ((b.net i).body ≡ body) × ((b.net i).tag ≤ b.now b.home)

-- with message i the last acknowledgement is in
abbrev pub IsLast : Block → ℕ → Bool
IsLast b i = (b.miss (b.net i).to).is_fixed && ((b.miss (b.net i).to).acks + 1 == (b.miss (b.net i).to).due)
