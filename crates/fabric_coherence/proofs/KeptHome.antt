-- A delivery whose message comes to a home leads every block on.
use Rattle.std.proofs.Common.{◌≡◌, ◌∙◌, ℕ, ◌<◌, ◌≤◌, Bool, true, false, List, length, refl, subst, arith, if◌then◌else◌, nat_eq, length-set}
use Rattle.std.specs.Prelude.{Option, Some, None, slice_index_or, slice_set}
use Rattle.sn_base.specs.declared.config.Config.{Config}
use Rattle.sn_msg.specs.declared.Message.{Message}
use Rattle.sn_model.specs.declared.home.Kind.{Kind}
use Rattle.sn_model.specs.declared.home.Kind.TheVariants as kind
use Rattle.sn_model.specs.declared.rows.HomeMessage.{HomeMessage}
use Rattle.sn_model.specs.declared.rows.HomeRow.{HomeRow}
use Rattle.sn_model.specs.declared.rows.HomeRow.TheVariants as row
use Rattle.sn_model.specs.declared.rows.Receiver.TheVariants as receiver
use Rattle.sn_model.specs.Homes.{OfCache, Transaction}
use Rattle.sn_model.specs.HomeRows.{HomeReply, invalidations, others, unblock}
use Rattle.sn_model.specs.Fabric.{Fabric, node_at, home_of}
use Rattle.sn_model.specs.NetEvents.{AtHome, kept_at, delivers}
use Rattle.sn_model.specs.Receivers.{receiver_of}
use Rattle.sn_coherence.specs.Block as block
use Rattle.sn_coherence.specs.Events.{after}
use Rattle.sn_coherence.specs.Invariant.{BlockInvariant}
use Rattle.fabric_coherence.specs.View.{GhostState, block_seen, is_itself, owner_of}
use Rattle.fabric_coherence.specs.Steps.{IsShaped, IsInFlight, after_home, ghost_with, losing, lost_at_once, elsewhere}
use Rattle.fabric_coherence.specs.Sends.{OutsWithin}
use Rattle.fabric_coherence.specs.Coherent.{FabricInvariant}
use Rattle.fabric_coherence.specs.HomeEvents.{IsServed, home_event, left_at_home, row_at_home}
use Rattle.fabric_coherence.specs.Leads.{Moves}
use Rattle.fabric_coherence.proofs.Base.{read_set}
use Rattle.fabric_coherence.proofs.NetShape.{invalidations-within, after_home-shaped}
use Rattle.fabric_coherence.proofs.HomeConditions.{IsAtHome}
use Rattle.fabric_coherence.proofs.HomeOutcomes.{Does, at_home, home-outcome}
use Rattle.fabric_coherence.proofs.HomeElsewhere.{home-elsewhere}
use Rattle.fabric_coherence.proofs.KeptCommon.{IsQuiet, frames_stay, quiet_losing, elsewhere_leads, goes_own, fits_moves}

-- what a home sends goes to nodes that are there, and its entry keeps its length
module _ (s : Fabric) (t : GhostState) (m : Message) (shape : IsShaped s) (flight : IsInFlight s m) (kept : BlockInvariant (length s.nodes) (block_seen s t m.block)) where
  abbrev Fits : HomeReply → Type 0
  Fits reply = (length reply.after.entry.sharers ≡ 16) × OutsWithin reply.sends (length s.nodes)

  sharers : length (home_of s m.block).sharers ≡ 16
  sharers = shape.sharers m.block flight.block

  -- no number at or above the number of nodes is a sharer
  above_all : (k : ℕ) → length s.nodes ≤ k → slice_index_or (others (home_of s m.block).sharers m.from) k false ≡ false
  above_all k l =
      read_set (home_of s m.block).sharers m.from k false false (omega (arith, sharers, flight.from, shape.few))
      ∙ unmarked (nat_eq k m.from) (slice_index_or (home_of s m.block).sharers k false) refl
    where
      unmarked : (c d : Bool) → slice_index_or (home_of s m.block).sharers k false ≡ d → (if c then false else d) ≡ false
      unmarked true d h = refl
      unmarked false true h = absurd (grind (arith, kept.nodes.sharer_low k h))
      unmarked false false h = refl

  asks_others : OutsWithin (invalidations 0 (others (home_of s m.block).sharers m.from) m.from) (length s.nodes)
  asks_others =
      invalidations-within 0 (others (home_of s m.block).sharers m.from) m.from (length s.nodes) flight.from
      (λ k l. above_all k (omega arith))

  owner_low : (owner : ℕ) → (home_of s m.block).holder ≡ OfCache owner → owner < length s.nodes
  owner_low owner e = subst (λ n. n < length s.nodes) (λ p. owner_of (e p)) (kept.nodes.owner_low (λ p. is_itself (e p)))

  joined : length (slice_set (home_of s m.block).sharers m.from true) ≡ 16
  joined = length-set (home_of s m.block).sharers m.from true ∙ sharers

  unblock_fits_by : (fixed : ℕ) (k : Kind) (r begun : ℕ) →
      Fits (unblock (kept_at s m.to m.block) m.block fixed (Some (record { kind = k; requester = r; begun = begun })))
  unblock_fits_by fixed kind.Read r begun = (sharers, tt)
  unblock_fits_by fixed kind.Take r begun = (sharers, tt)
  unblock_fits_by fixed kind.Move r begun = (sharers, tt)
  unblock_fits_by fixed kind.Upgrade r begun = (sharers, tt)
  unblock_fits_by fixed kind.Put r begun = (sharers, tt)

  unblock_fits : (fixed : ℕ) (open_one : Option Transaction) → Fits (unblock (kept_at s m.to m.block) m.block fixed open_one)
  unblock_fits fixed None = (sharers, tt)
  unblock_fits fixed (Some transaction) = unblock_fits_by fixed transaction.kind transaction.requester transaction.begun

  pub home-fits : (taken : HomeRow) → IsAtHome s m taken → Fits (left_at_home s m taken)
  home-fits (row.ReadAtHome content) at = (joined, ((flight.from, shape.some), tt))
  home-fits (row.ReadAtOwner owner) at = (joined, ((owner_low owner at.finds.1, flight.from), tt))
  home-fits (row.Take content) at = (refl, ((flight.from, shape.some), asks_others))
  home-fits (row.MoveOwnership owner) at = (refl, ((owner_low owner at.finds.1, flight.from), asks_others))
  home-fits row.Upgrade at = (refl, ((flight.from, shape.some), asks_others))
  home-fits (row.Unblock fixed) at = unblock_fits fixed (home_of s m.block).transaction
  home-fits row.PutBegins at = (sharers, ((flight.from, shape.some), tt))
  home-fits row.PutIsStale at = (sharers, ((flight.from, shape.some), tt))
  home-fits (row.PutData content) at = (sharers, tt)
  home-fits (row.GrantExclusive content) at = (refl, ((flight.from, shape.some), tt))

-- a message that is served at its home changes no records
home-quiet : (s : Fabric) (m : Message) (taken : HomeRow) → IsQuiet (home_event s m taken)
home-quiet s m row.PutBegins = tt
home-quiet s m _ = tt

-- a message that is in flight, and whose receiver's interval has reached its tag
module _ (s : Fabric) (t : GhostState) (m : Message) (kept : FabricInvariant s t) (flight : IsInFlight s m) (reached : m.tag ≤ (node_at s m.to).now) where
  of_block : BlockInvariant (length s.nodes) (block_seen s t m.block)
  of_block = kept.blocks m.block flight.block

  -- what a row of the home leaves
  row_moves : (taken : HomeRow) → IsAtHome s m taken → Moves s t (after_home s m (left_at_home s m taken))
  row_moves taken at = (
    ghost_with t m.block own,
    goes_own s t (λ o r. r) (after_home s m reply).fabric (ghost_with t m.block own)
        (length-set s.nodes m.to (record (node_at s m.to) { log = reply.after.log })) (frames_stay s t) shaped m.block (losing own lost) rest
        does.0 (quiet_losing (length s.nodes) (block_seen s t m.block) (home_event s m taken) lost does.1 (home-quiet s m taken))
        (λ o l other. home-elsewhere s m o other t own kept.shape flight taken at)
        (λ o l other. elsewhere_leads (length s.nodes) (block_seen s t o) m.id (length reply.sends)),
  )
    where
      reply : HomeReply
      reply = left_at_home s m taken

      own : block.Block
      own = after (length s.nodes) (block_seen s t m.block) (home_event s m taken)

      lost : List ℕ
      lost = lost_at_once (after_home s m reply).sent

      rest : ℕ → block.Block
      rest o = elsewhere (block_seen s t o) m.id (length reply.sends)

      shaped : IsShaped (after_home s m reply).fabric
      shaped =
          let fits = home-fits s t m kept.shape flight of_block taken at in
          after_home-shaped s m kept.shape flight.to flight.block reply fits.0 fits.1

      does : Does s t m kept.shape flight of_block reached taken
      does = home-outcome s t m kept.shape flight of_block reached taken at

  -- a delivery to the home
  pub home_delivery_moves : (config : Config) (message : HomeMessage) → receiver_of m.body ≡ receiver.Home message → IsServed s m message →
      Moves s t (delivers config s m (AtHome (left_at_home s m (row_at_home s m message))))
  home_delivery_moves config message is served =
      let reply : HomeReply = left_at_home s m (row_at_home s m message) in
      fits_moves config s t kept.shape reply.after.log reply.sends (after_home s m reply)
      (row_moves (row_at_home s m message) (at_home s t m kept.shape flight of_block reached message is served))
