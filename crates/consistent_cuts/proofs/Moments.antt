-- What is joined is consistent: at each moment the recovery point is a cut of an execution.
use Rattle.std.proofs.Common.{◌≡◌, ℕ, zero, suc, ◌-◌, ◌<◌, ◌≤◌, true, List, [], ◌∷◌, ◌++◌, length, Some, arith, refl, sym, ap, ◌∙◌, subst}
use Rattle.std.specs.Prelude.{get_or, slice_get}
use Rattle.std.proofs.lemmas.Bool.Decides.{nat_tests}
use Rattle.sn_base.specs.Image.{ImageData}
use Rattle.rv_core.specs.Core.{bare, is_reserved}
use Rattle.rv_core.specs.Flat.{FlatState, flat_start, core_at}
use Rattle.rv_core.specs.Execution.{IsExecution, end_of, out_of, in_of}
use Rattle.sn_model.specs.Caches.{block_count, line_of, is_present}
use Rattle.sn_model.specs.Fabric.{node_at}
use Rattle.sn_model.specs.Cuts.{names_at}
use Rattle.sn_model.specs.Machine.{State, processor_at}
use Rattle.sn_model.specs.RecoveryPoint.{KeepsCheckpoint, HasOneHolderWith, IsCut, block_in}
use Rattle.sn_model.specs.Trace.{TraceEntry}
use Rattle.sn_coherence.specs.Records.{Records}
use Rattle.sn_consistency.specs.Words as words
use Rattle.sn_consistency.specs.Entries.{Entry}
use Rattle.sn_consistency.specs.Committed.{records_committed, Begins}
use Rattle.sn_consistency.specs.Shows.{Shows}
use Rattle.sn_consistency.proofs.CommittedPart.{committed_execution, committed_out}
use Rattle.sn_consistency.proofs.Outline.{end_content, end_core, given_begins}
use Rattle.sn_consistency.proofs.Start.{start_shows}
use Rattle.fabric_bounds.specs.Coherent.{NothingUnfinished}
use Rattle.consistent_cuts.specs.Outlines.{outline_of, start_places}
use Rattle.consistent_cuts.specs.RunInvariant.{RunInvariant}
use Rattle.consistent_cuts.specs.Headline.{IsConsistent}
use Rattle.consistent_cuts.proofs.FabricAfter.{FabricHalf}
use Rattle.consistent_cuts.proofs.Made.{committed_sorted, released_sorted}

-- a block of memory is what both crates say it is
pub same_block : (memory : List ℕ) (b : ℕ) → words.block_in memory b ≡ block_in memory b
unfolding words.block_in
same_block memory b = refl

-- an element that is there is got
got : {A : Type 0} (xs : List A) (i : ℕ) (d : A) → i < length xs → slice_get xs i ≡ Some (get_or xs i d)
got [] i d l = absurd (omega (arith, l))
got (x ∷ xs) zero d l = refl
got (x ∷ xs) (suc i) d l = got xs i d (omega (arith, l))

module _ (half : FabricHalf) (image : ImageData) (s : State) (r : ℕ → Records) (list : ℕ → List Entry) (trace : List TraceEntry) (j : RunInvariant image s r list trace) where
  abbrev N : ℕ
  N = length s.fabric.nodes

  abbrev point : ℕ
  point = s.fabric.point

  shows : Shows N (flat_start image N) (start_places image N)
  shows = start_shows image N

  -- the committed records are those of the sorted list
  pub committed_is : records_committed list point ≡ s.committed
  committed_is = committed_sorted image list trace j.made point ∙ sym j.traced.committed

  pub executes : IsExecution image N s.committed
  executes =
      subst (IsExecution image N) committed_is
      (committed_execution image N (flat_start image N) (start_places image N) shows list j.sorted.good point)

  pub puts_out : s.released ≡ out_of image N s.committed
  puts_out =
      j.traced.released ∙ sym (released_sorted image list trace j.made point)
      ∙ sym (committed_out image N (flat_start image N) (start_places image N) shows list j.sorted.good point)
      ∙ ap (out_of image N) committed_is

  pub reads_first : (n : ℕ) → Begins (in_of n s.committed) (processor_at s n).given
  reads_first n = let b = given_begins image N (start_places image N) (outline_of s r list) j.sorted n refl in
      record { more = b.more; is = b.is ∙ ap (λ rs. in_of n rs ++ b.more) committed_is }

  -- the last state of the execution
  abbrev end : FlatState
  end = end_of image N s.committed

  pub end_block : (b : ℕ) → block_in end.memory b ≡ (r b).below point
  end_block b =
      sym (same_block end.memory b) ∙ ap (λ rs. words.block_in (end_of image N rs).memory b) (sym committed_is)
      ∙ end_content image N (flat_start image N) (start_places image N) shows (outline_of s r list) j.sorted b

  pub end_register : (n : ℕ) → bare (core_at end n) ≡ (outline_of s r list).checkpoint n point
  end_register n =
      ap (λ rs. bare (core_at (end_of image N rs) n)) (sym committed_is)
      ∙ end_core image N (flat_start image N) (start_places image N) shows (outline_of s r list) j.sorted n

  point_now : (n : ℕ) → n < N → point ≤ (node_at s.fabric n).now
  point_now n l = let a = j.sorted.point_interval n in grind (arith, nat_tests)

  keeps_checkpoint : (n : ℕ) → n < N → KeepsCheckpoint (node_at s.fabric n) (processor_at s n) point (core_at end n)
  keeps_checkpoint n l = record {
    kept = j.sorted.known_point n;
    reached = point_now n l;
    same =
        got (processor_at s n).checkpoints (point - (node_at s.fabric n).known) (processor_at s n).core inside
        ∙ ap Some (sym (end_register n));
  }
    where
      inside : point - (node_at s.fabric n).known < length (processor_at s n).checkpoints
      inside =
          let a = j.shape.checkpoints n l in let b = point_now n l in let c : (node_at s.fabric n).known ≤ point = j.sorted.known_point n in
          omega (arith, a, b, c)

  pub cuts : IsCut s point end
  cuts = record {
    cores = keeps_checkpoint;
    blocks =
        λ b l. subst (λ v. HasOneHolderWith s.fabric b point v (names_at s.fabric b point)) (sym (end_block b))
        (half.tell s.fabric r j.fabric b l).point;
  }

  pub point_finished : NothingUnfinished s.fabric point
  point_finished = record { now = point_now; none = half.none_unfinished s.fabric r j.fabric }

  pub reserved_copy : (n block : ℕ) → n < N → block < block_count → is_reserved (processor_at s n).core.reservation block ≡ true →
      is_present (line_of (node_at s.fabric n).cache block).state ≡ true
  reserved_copy n block l low h = ((half.tell s.fabric r j.fabric block low).reserved n l (j.agrees.reserved block n low l ∙ h)).0

  pub consistent : (nodes : ℕ) → N ≡ nodes → IsConsistent image nodes s trace
  consistent nodes e = subst (λ x. IsConsistent image x s trace) e (record {
    count = refl;
    execution = executes;
    made = j.traced.committed;
    cut = cuts;
    output = puts_out;
    input = λ n l. reads_first n;
    finished = point_finished;
    reserved = reserved_copy;
  })
