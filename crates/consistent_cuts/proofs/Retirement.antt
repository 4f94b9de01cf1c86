-- A retirement keeps what is joined, and so does a step, whatever it comes to.
use Rattle.std.proofs.Common.{ℕ, ◌<◌, ◌≤◌, List, [], ◌∷◌, ◌++◌, None, length, refl, sym, subst}
use Rattle.sn_base.specs.Image.{ImageData}
use Rattle.sn_base.specs.declared.config.Config.{Config}
use Rattle.sn_base.specs.declared.event.Event.TheVariants.{Step}
use Rattle.sn_model.specs.declared.cache.Need.{Need}
use Rattle.sn_model.specs.Access.{step_of_access}
use Rattle.sn_model.specs.Caches.{block_count}
use Rattle.sn_model.specs.Fabric.{node_at}
use Rattle.sn_model.specs.FabricEvents.{Access, moved_by}
use Rattle.sn_model.specs.Machine.{State}
use Rattle.sn_model.specs.Instructions.{step_of_instruction}
use Rattle.sn_model.specs.Trace.{TraceEntry, entry_at, trace_after_event}
use Rattle.sn_coherence.specs.Records.{Records}
use Rattle.sn_consistency.specs.Entries.{Entry}
use Rattle.sn_consistency.specs.Outline as sorted
use Rattle.fabric_bounds.specs.Recorded.{KeepsRecords, heard_by}
use Rattle.consistent_cuts.specs.Outlines.{outline_of, interval_of, start_places}
use Rattle.consistent_cuts.specs.RunInvariant.{RunInvariant, Joins}
use Rattle.consistent_cuts.specs.Accesses.{entry_of, write_of, records_after, MayRetire, CanRetire}
use Rattle.consistent_cuts.proofs.Traced.{traced_retired}
use Rattle.consistent_cuts.proofs.Clocks.{same_accessed}
use Rattle.consistent_cuts.proofs.Hears.{hearing_joins}
use Rattle.consistent_cuts.proofs.Made.{made_retired}
use Rattle.consistent_cuts.proofs.Retires.{interval_is}
use Rattle.consistent_cuts.proofs.Places.{after, same_length, same_point}
use Rattle.consistent_cuts.proofs.RetiredOutline.{list_after, sorted_keeps, agrees_after, shape_after}
use Rattle.consistent_cuts.proofs.Granted.{may_retire}
use Rattle.consistent_cuts.proofs.FabricAfter.{FabricHalf, fabric_keeps}
use Rattle.consistent_cuts.proofs.EntryMade.{same_record, same_out}
use Rattle.consistent_cuts.proofs.SteppedCases.{stepped_cases}

module _ (half : FabricHalf) (image : ImageData) (config : Config) (s : State) (n : ℕ) (r : ℕ → Records) (list : ℕ → List Entry) (trace : List TraceEntry) (joined : RunInvariant image s r list trace) where
  module _ (can : CanRetire image config s n) where
    pub may : MayRetire image s r n
    may = may_retire config s r n (half.tell s.fabric r joined.fabric) image can

    reached : s.fabric.point ≤ (node_at s.fabric n).now
    reached =
        let h : s.fabric.point ≤ interval_of s.fabric n = joined.sorted.point_interval n in
        subst (λ k. s.fabric.point ≤ k) (interval_is s n can.node) h

    pub retired_joins : RunInvariant image (after image s n) (records_after image s r n)
        (list_after image s r list n joined.shape joined.agrees may) (trace ++ entry_at image s n ∷ [])
    retired_joins = record {
      fabric = fabric_keeps half config s r n joined.fabric can.node image joined.agrees can;
      shape = shape_after image s r list n joined.shape joined.agrees may;
      agrees = agrees_after image s r list n joined.shape joined.agrees may;
      sorted =
          subst (λ N. sorted.Keeps image (length (after image s n).fabric.nodes) (start_places image N)
          (outline_of (after image s n) (records_after image s r n) (list_after image s r list n joined.shape joined.agrees may)))
          (sym (same_length s.fabric n (write_of image s n)))
          (sorted_keeps image s r list n joined.shape joined.agrees may (start_places image (length s.fabric.nodes)) joined.sorted);
      traced =
          traced_retired trace s (after image s n) (entry_at image s n) joined.traced reached
          (same_point s.fabric n (write_of image s n)) refl refl refl refl;
      made =
          made_retired image list trace joined.made (entry_of image s n) (entry_at image s n) (same_record image s n) (same_out image s n);
    }

  -- an access of the fabric alone
  access_joins : n < length s.fabric.nodes → (block : ℕ) (access : Need) → block < block_count →
      Joins image (record s { fabric = (step_of_access config s.fabric n block access).fabric }) trace
  unfolding moved_by
  access_joins l block access low = (
    r,
    list,
    hearing_joins image s r list trace joined (step_of_access config s.fabric n block access).fabric None
        (same_accessed config s.fabric n block access).clocks
        (subst (λ told. KeepsRecords (step_of_access config s.fabric n block access).fabric (λ b. heard_by told b (r b)))
        (same_accessed config s.fabric n block access).told
        (half.event config s.fabric r (Access n block access) joined.fabric (l, low))),
  )

-- a step keeps what is joined, with the retirement that it may add
pub stepped_joins : FabricHalf → (image : ImageData) (config : Config) (s : State) (n : ℕ) (trace : List TraceEntry) →
    n < length s.fabric.nodes → Joins image s trace →
    Joins image (step_of_instruction image config s n).state (trace_after_event image s (Step n) (step_of_instruction image config s n).answer trace)
stepped_joins half image config s n trace l (r, list, joined) =
    stepped_cases image config s n l (λ x. Joins image x.state (trace_after_event image s (Step n) x.answer trace))
    (λ can. (
      records_after image s r n,
      list_after image s r list n joined.shape joined.agrees (may half image config s n r list trace joined can),
      retired_joins half image config s n r list trace joined can,
    ))
    (λ block access low leaves. subst (Joins image (record s { fabric = (step_of_access config s.fabric n block access).fabric }))
    (sym (leaves.1 trace)) (access_joins half image config s n r list trace joined l block access low))
    (λ answer leaves. subst (Joins image s) (sym (leaves.1 trace)) (r, list, joined))
