-- The fabric after a retirement, with the records of each block then.
use Rattle.std.proofs.Common.{◌≡◌, ℕ, ◌+◌, ◌<◌, ◌≤◌, Bool, true, false, length, Option, Some, None, refl, sym, ap, ◌∙◌, subst}
use Rattle.sn_base.specs.Image.{ImageData}
use Rattle.sn_base.specs.declared.block.Write.{Write}
use Rattle.sn_base.specs.declared.config.Config.{Config}
use Rattle.rv_core.specs.declared.step.Want.{Want}
use Rattle.rv_core.specs.declared.step.Want.TheVariants.{Nothing, Load, Store, Amo, Lr, Sc, Input}
use Rattle.rv_core.specs.Core.{block_of}
use Rattle.rv_core.specs.Step.{want_of}
use Rattle.rv_core.specs.Wanted.{WriteFits, writes_memory, wanted_address}
use Rattle.rv_core.proofs.CoreLaws.{write_fits}
use Rattle.sn_model.specs.declared.cache.Need.TheVariants as need
use Rattle.sn_model.specs.Access.{fabric_with_write, written_in}
use Rattle.sn_model.specs.Caches.{block_count, line_of, is_present}
use Rattle.sn_model.specs.Fabric.{Fabric, Flight, node_at, first_fabric, initial_block, line_of_node}
use Rattle.sn_model.specs.Net.{flight_of}
use Rattle.sn_model.specs.Cuts.{is_unfinished}
use Rattle.sn_model.specs.FabricEvents.{FabricEvent, moved_by}
use Rattle.sn_model.specs.Machine.{State, processor_at}
use Rattle.sn_model.specs.Instructions.{found_at, found_by, written_by, step_of_retirement}
use Rattle.sn_coherence.specs.Records.{Records, no_records, loads, loads_reserved, stores, stores_conditional, unreserves}
use Rattle.sn_consistency.specs.Words.{write_block}
use Rattle.consistent_cuts.specs.Outlines.{Agrees}
use Rattle.consistent_cuts.specs.Accesses.{write_of, CanServe, CanServeWant, CanRetire, records_wanting, records_after}
use Rattle.fabric_bounds.specs.Events.{CanUse, CanWrite}
use Rattle.fabric_bounds.specs.Recorded.{KeepsRecords, MayBeRecorded, recorded_by, at_block}
use Rattle.fabric_bounds.specs.Told.{Tells}
use Rattle.fabric_bounds.specs.Coherent.{NothingUnfinished}
use Rattle.fabric_bounds.specs.Steps.{IsShaped, IsInFlight}

-- what the fabric's half says of the records, in its own words: what they tell, and that they are kept by each event and by
-- each access that is done
pub record FabricHalf : Type 0 where
  pub tell : (s : Fabric) (r : ℕ → Records) → KeepsRecords s r → (b : ℕ) → b < block_count → Tells s b (r b)
  pub event : (config : Config) (s : Fabric) (r : ℕ → Records) (event : FabricEvent) → KeepsRecords s r → MayBeRecorded s r event
      → KeepsRecords (moved_by config s event).fabric (recorded_by s r event (moved_by config s event))
  pub load : (s : Fabric) (r : ℕ → Records) (n b : ℕ) → KeepsRecords s r → CanUse s n b →
      is_present (line_of (node_at s n).cache b).state ≡ true
      → KeepsRecords s (at_block b (loads (r b) n (node_at s n).now) r)
  pub load_reserved : (s : Fabric) (r : ℕ → Records) (n b : ℕ) → KeepsRecords s r → CanUse s n b →
      is_present (line_of (node_at s n).cache b).state ≡ true
      → KeepsRecords s (at_block b (loads_reserved (r b) n (node_at s n).now) (λ o. unreserves (r o) n))
  pub store : (s : Fabric) (r : ℕ → Records) (n : ℕ) (w : Write) → KeepsRecords s r → CanWrite s n w
      → KeepsRecords (fabric_with_write s n w) (at_block (block_of w.address)
      (stores (r (block_of w.address)) n (node_at s n).now (written_in (line_of (node_at s n).cache (block_of w.address)).content w)) r)
  pub store_conditional : (s : Fabric) (r : ℕ → Records) (n : ℕ) (w : Write) → KeepsRecords s r → CanWrite s n w →
      (r (block_of w.address)).reserved n ≡ true
      → KeepsRecords (fabric_with_write s n w) (at_block (block_of w.address)
      (stores_conditional (r (block_of w.address)) n (node_at s n).now
      (written_in (line_of (node_at s n).cache (block_of w.address)).content w)) (λ o. unreserves (r o) n))
  pub undone : (s : Fabric) (r : ℕ → Records) (n : ℕ) → KeepsRecords s r → n < length s.nodes → KeepsRecords s (λ o. unreserves (r o) n)
  -- the start; that a validation comes where nothing is unfinished; and what a message in flight is
  pub start : (image : ImageData) (nodes : ℕ) → 1 ≤ nodes → nodes ≤ 16 →
      KeepsRecords (first_fabric image nodes) (λ b. no_records (initial_block image b))
  pub finished : (s : Fabric) (r : ℕ → Records) → KeepsRecords s r →
      ((b n : ℕ) → b < block_count → n < length s.nodes → s.point < (r b).reported n) → NothingUnfinished s (s.point + 1)
  pub none_unfinished : (s : Fabric) (r : ℕ → Records) → KeepsRecords s r → is_unfinished s s.point ≡ false
  pub nodes : (config : Config) (s : Fabric) (event : FabricEvent) → length (moved_by config s event).fabric.nodes ≡ length s.nodes
  pub flight : (s : Fabric) (id : ℕ) (f : Flight) → IsShaped s → flight_of s.net.flights id ≡ Some f → IsInFlight s f.message

-- what is not wanted isn't written
unwritten : (w : Want) (done : Bool) (write : Option Write) → writes_memory w done ≡ false → WriteFits w done write → write ≡ None
unwritten w done None e fits = refl
unwritten w done (Some write) e fits = absurd (let h = fits.0 in cc)

module _ (keep : FabricHalf) (config : Config) (s : State) (r : ℕ → Records) (n : ℕ)
    (kept : KeepsRecords s.fabric r) (l : n < length s.fabric.nodes) where
  -- the fabric with what is written, and the records with the content that the line has then
  abbrev Kept : Want → Bool → Option Write → Type 0
  Kept w done write =
      KeepsRecords (written_by s.fabric n write)
      (records_wanting w done r n (node_at s.fabric n).now (λ b. write_block write (line_of_node s.fabric n b).content))

  -- what doesn't write
  same : (w : Want) (done : Bool) (write : Option Write) → writes_memory w done ≡ false → WriteFits w done write → Kept w done None →
      Kept w done write
  same w done write e fits h = subst (Kept w done) (sym (unwritten w done write e fits)) h

  -- what does

  can_write : (a : ℕ) (w : Write) → w.address ≡ a → CanServe config s.fabric n (block_of a) need.Write → CanWrite s.fabric n w
  can_write a w e can = record { line = subst (λ b. CanUse s.fabric n (block_of b)) (sym e) can.line; writable = rw e can.serving }

  kept_store : (a : ℕ) (w : Write) → w.address ≡ a → CanServe config s.fabric n (block_of a) need.Write → Kept (Store a) true (Some w)
  kept_store a w e can = subst (λ b. Kept (Store b) true (Some w)) e (keep.store s.fabric r n w kept (can_write a w e can))

  kept_conditional : (a : ℕ) (w : Write) → w.address ≡ a → CanServe config s.fabric n (block_of a) need.Write →
      (r (block_of a)).reserved n ≡ true → Kept (Sc a) true (Some w)
  kept_conditional a w e can reserved =
      subst (λ b. Kept (Sc b) true (Some w)) e (keep.store_conditional s.fabric r n w kept (can_write a w e can) (rw e reserved))

  -- a write is there
  there : (w : Want) (write : Option Write) → writes_memory w true ≡ true → WriteFits w true write →
      ((x : Write) → write ≡ Some x → x.address ≡ wanted_address w → Kept w true (Some x)) → Kept w true write
  there w None e fits f = absurd (let h = fits in cc)
  there w (Some x) e fits f = f x refl fits.1

  kept_want : (w : Want) (done : Bool) (write : Option Write) → WriteFits w done write → CanServeWant w done config s n →
      ((a : ℕ) → w ≡ Sc a → done ≡ true → CanUse s.fabric n (block_of a) → (r (block_of a)).reserved n ≡ true) → Kept w done write
  kept_want Nothing done write fits can reserved = same Nothing done write refl fits kept
  kept_want Input done write fits can reserved = same Input done write refl fits kept
  kept_want (Load a) done write fits can reserved =
      same (Load a) done write refl fits (keep.load s.fabric r n (block_of a) kept can.line can.serving)
  kept_want (Lr a) done write fits can reserved =
      same (Lr a) done write refl fits (keep.load_reserved s.fabric r n (block_of a) kept can.line can.serving)
  kept_want (Store a) done write fits can reserved = there (Store a) write refl fits (λ x i at. kept_store a x at can)
  kept_want (Amo a) done write fits can reserved = there (Amo a) write refl fits (λ x i at. kept_store a x at can)
  kept_want (Sc a) true write fits can reserved =
      there (Sc a) write refl fits (λ x i at. kept_conditional a x at can (reserved a refl refl can.line))
  kept_want (Sc a) false write fits can reserved = same (Sc a) false write refl fits (keep.undone s.fabric r n kept l)

  -- a store-conditional that is done has its block reserved, by the machine and so by the records
  done_reserved : (agrees : Agrees s r) (w : Want) (done : Bool) → (found_by s n w).sc_done ≡ done → (a : ℕ) → w ≡ Sc a → done ≡ true →
      CanUse s.fabric n (block_of a) → (r (block_of a)).reserved n ≡ true
  done_reserved agrees w done is a e q can =
      agrees.reserved (block_of a) n can.block can.node ∙ sym (ap (λ w. (found_by s n w).sc_done) e) ∙ is ∙ q

  pub fabric_keeps : (image : ImageData) → Agrees s r → CanRetire image config s n →
      KeepsRecords (step_of_retirement image s n).state.fabric (records_after image s r n)
  fabric_keeps image agrees can =
      kept_want (want_of image (processor_at s n).core) (found_at image s n).sc_done (write_of image s n)
      (write_fits image (processor_at s n).core (found_at image s n).seen (found_at image s n).sc_done (found_at image s n).read) can.served
      (done_reserved agrees (want_of image (processor_at s n).core) (found_at image s n).sc_done refl)
