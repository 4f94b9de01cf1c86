-- What one block sees of messages that a node sends in order, by the numbers that they get.
use Rattle.std.specs.Prelude.{ℕ, ◌+◌, Bool, true, false, ◌&&◌, ◌||◌, ◌==◌, cond, List, [], ◌∷◌, ◌≡◌, ⊤, ◌<◌}
use Rattle.sn_msg.specs.declared.Message.{Message}
use Rattle.sn_model.specs.declared.cache.Out.{Out}
use Rattle.sn_model.specs.Fabric.{Net}
use Rattle.sn_coherence.specs.Block as block
use Rattle.fabric_coherence.specs.View.{is_seen, is_for_all, message_seen}
use Rattle.fabric_coherence.specs.Steps.{Below, Within, node_in_body}
use Rattle.fabric_coherence.specs.Flights.{Rising}

-- the message under the next number
abbrev pub message_with_number : ℕ → ℕ → ℕ → ℕ → Out → Message
message_with_number next from tag block out = record { id = next; from = from; to = out.to; tag = tag; block = block; body = out.body }

-- what block b sees under number i after these messages from a node about a block, where it saw `before`
abbrev pub sent_at : ℕ → ℕ → ℕ → ℕ → ℕ → List Out → ℕ → block.Message → block.Message
sent_at b from tag block next [] i before = before
sent_at b from tag block next (out ∷ outs) i before =
    cond ((i == next) && is_seen b (message_with_number next from tag block out)) (message_seen (message_with_number next from tag block out) out.body)
    (sent_at b from tag block (next + 1) outs i before)

-- whether a number is in a list
abbrev pub is_among : List ℕ → ℕ → Bool
is_among [] i = false
is_among (id ∷ ids) i = (i == id) || is_among ids i

-- the places of the marks, in order, in a list that begins at this place
abbrev pub targets : ℕ → List Bool → List ℕ
targets at [] = []
targets at (true ∷ marks) = at ∷ targets (at + 1) marks
targets at (false ∷ marks) = targets (at + 1) marks

-- none of these is for all blocks
abbrev pub NoneForAll : List Out → Type 0
NoneForAll [] = ⊤
NoneForAll (out ∷ outs) = (is_for_all out.body ≡ false) × NoneForAll outs

-- the net's part of a fabric's shape
pub record IsNetShaped (net : Net) (nodes : ℕ) : Type 0 where
  pub below : Below net.flights net.next_id
  pub within : Within net.flights nodes
  pub rising : Rising net.flights

-- messages that may be sent, where there are so many nodes
abbrev pub OutsWithin : List Out → ℕ → Type 0
OutsWithin [] nodes = ⊤
OutsWithin (out ∷ outs) nodes = ((out.to < nodes) × (node_in_body out.body < nodes)) × OutsWithin outs nodes
