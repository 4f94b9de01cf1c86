-- Each row of a home is, for another block, a loss of the message and new numbers.
use Rattle.std.proofs.Common.{◌≢◌, inr, ℕ, ◌+◌, ◌≤◌, Bool, true, false, List, refl, arith}
use Rattle.std.specs.Prelude.{Option, Some, None, IfSome}
use Rattle.log_buffer.specs.Log.{LogEntry, Old, log_with_note, logged_to, is_home_side}
use Rattle.sn_base.specs.declared.log.Old.TheVariants.{WasHome, WasCache}
use Rattle.sn_msg.specs.declared.Message.{Message}
use Rattle.sn_model.specs.declared.home.Kind.{Kind}
use Rattle.sn_model.specs.declared.home.Kind.TheVariants as kind
use Rattle.sn_model.specs.declared.rows.HomeRow.{HomeRow}
use Rattle.sn_model.specs.declared.rows.HomeRow.TheVariants as row
use Rattle.sn_model.specs.Homes.{Holder, Itself, OfCache, Transaction}
use Rattle.sn_model.specs.HomeRows.{others, unblock, unblock_of, noted_owner, noted_by_end, noted_by_unblock}
use Rattle.sn_model.specs.Fabric.{Fabric, node_at, home_of}
use Rattle.sn_model.specs.NetEvents.{kept_at}
use Rattle.sn_coherence.specs.Block.{Block}
use Rattle.sn_coherence.specs.Log.{was_home, old_cache, old_content}
use Rattle.sn_coherence.proofs.Log.{note_law}
use Rattle.fabric_coherence.specs.View.{GhostState}
use Rattle.fabric_coherence.specs.Steps.{IsShaped, IsInFlight}
use Rattle.fabric_coherence.specs.Sends.{NoneForAll}
use Rattle.fabric_coherence.specs.HomeEvents.{left_at_home}
use Rattle.fabric_coherence.specs.HomeSeen.{IsSameCaches, IsSameHome, IsHomeElsewhere}
use Rattle.fabric_coherence.proofs.NetSends.{none-invalidations}
use Rattle.fabric_coherence.proofs.HomeConditions.{IsAtHome}
use Rattle.fabric_coherence.proofs.HomeSeen.{other-seen}
use Rattle.fabric_coherence.proofs.HomeRows.{same_caches, caches-noted}

-- a note of a block says nothing of another
same_home : (log : List LogEntry) (b : ℕ) → IsSameHome log log b
same_home log b = record { named_home = λ x j. refl; named = λ x j. refl; home_held = λ x j. refl; home_last = refl }

home-noted : (log : List LogEntry) (k b : ℕ) (old : Old) → logged_to log (is_home_side old) b ≤ k + 1 → (o : ℕ) → o ≢ b →
    IsSameHome (log_with_note log k b old) log o
home-noted log k b old l o n = record {
  named_home = λ x j. (note_law Bool was_home log k b old (was_home old) x l refl).others true o j x (inr n);
  named = λ x j. (note_law ℕ old_cache log k b old (old_cache old) x l refl).others true o j x (inr n);
  home_held = λ x j. (note_law (List ℕ) old_content log k b old (old_content old) x l refl).others true o j x (inr n);
  home_last = (note_law Bool was_home log k b old (was_home old) true l refl).others_newest true o (inr n);
}

module _ (s : Fabric) (m : Message) (o : ℕ) (other : o ≢ m.block) where
  abbrev log : List LogEntry
  log = (node_at s m.to).log

  abbrev holder : Holder
  holder = (home_of s m.block).holder

  -- what the log says of the other block stays
  abbrev Stays : List LogEntry → Type 0
  Stays after = IsSameCaches after log o × IsSameHome after log o

  as_it_was : Stays log
  as_it_was = (same_caches log o, same_home log o)

  noted : (k : ℕ) (old : Old) → false ≢ is_home_side old → logged_to log (is_home_side old) m.block ≤ k + 1 →
      Stays (log_with_note log k m.block old)
  noted k old side late = (caches-noted log k m.block old side late o, home-noted log k m.block old late o other)

  -- at the end of a transaction
  module _ (fixed : ℕ) where
    abbrev IsLate : Option ℕ → Type 0
    IsLate interval = IfSome interval (λ i. logged_to log true m.block ≤ i + 1)

    owner_noted : (h : Holder) → IsLate (noted_by_end kind.Move h fixed) → Stays (noted_owner log fixed m.block h)
    owner_noted (Itself content) late = as_it_was
    owner_noted (OfCache owner) late = noted fixed (WasCache owner) (λ h. grind (arith, h)) late

    ended : (k : Kind) (r : ℕ) → IsLate (noted_by_end k holder fixed) → Stays (unblock_of (kept_at s m.to m.block) m.block fixed k r).log
    ended kind.Move r late = owner_noted holder late
    ended _ r late = as_it_was

    unblocked : (open_one : Option Transaction) → IsLate (noted_by_unblock open_one holder fixed) →
        Stays (unblock (kept_at s m.to m.block) m.block fixed open_one).after.log
    unblocked None late = as_it_was
    unblocked (Some transaction) late = ended transaction.kind transaction.requester late

    sends_nothing : (open_one : Option Transaction) → NoneForAll (unblock (kept_at s m.to m.block) m.block fixed open_one).sends
    sends_nothing None = tt
    sends_nothing (Some transaction) = tt

  log_stays : (taken : HomeRow) → IsAtHome s m taken → Stays (left_at_home s m taken).after.log
  log_stays (row.Take content) at = noted (node_at s m.to).now (WasHome content) (λ h. grind (arith, h)) at.late
  log_stays (row.Unblock fixed) at = unblocked fixed (home_of s m.block).transaction at.late
  log_stays (row.PutData content) at = noted m.tag (WasCache m.from) (λ h. grind (arith, h)) at.late
  log_stays (row.GrantExclusive content) at = noted (node_at s m.to).now (WasHome content) (λ h. grind (arith, h)) at.late
  log_stays _ at = as_it_was

  -- it sees nothing of what is sent
  none_for_all : (taken : HomeRow) → NoneForAll (left_at_home s m taken).sends
  none_for_all (row.ReadAtHome content) = (refl, tt)
  none_for_all (row.ReadAtOwner owner) = (refl, tt)
  none_for_all (row.Take content) = (refl, none-invalidations 0 (others (home_of s m.block).sharers m.from) m.from)
  none_for_all (row.MoveOwnership owner) = (refl, none-invalidations 0 (others (home_of s m.block).sharers m.from) m.from)
  none_for_all row.Upgrade = (refl, none-invalidations 0 (others (home_of s m.block).sharers m.from) m.from)
  none_for_all (row.Unblock fixed) = sends_nothing fixed (home_of s m.block).transaction
  none_for_all row.PutBegins = (refl, tt)
  none_for_all row.PutIsStale = (refl, tt)
  none_for_all (row.PutData content) = tt
  none_for_all (row.GrantExclusive content) = (refl, tt)

  pub home-elsewhere : (t : GhostState) (e : Block) → IsShaped s → IsInFlight s m → (taken : HomeRow) → IsAtHome s m taken →
      IsHomeElsewhere s t m (left_at_home s m taken) e o
  home-elsewhere t e shape flight taken at =
      let stays = log_stays taken at in
      other-seen s m (left_at_home s m taken) shape flight.to flight.block t e o other stays.0 stays.1 (none_for_all taken)
