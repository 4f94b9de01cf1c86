-- What a recovery leaves is just the cut.
use Rattle.std.proofs.Common.{◌≡◌, ℕ, zero, suc, ◌+◌, ◌<◌, List, [], ◌∷◌, length, None, arith, refl, sym, ap, ◌∙◌, subst}
use Rattle.std.specs.Prelude.{slice_index_or}
use Rattle.std.proofs.lemmas.List.{get_or-map}
use Rattle.sn_base.specs.Image.{ImageData}
use Rattle.rv_core.specs.Execution.{end_of}
use Rattle.sn_model.specs.Homes.{HomeEntry, no_sharers}
use Rattle.sn_model.specs.Fabric.{Fabric, node_at, home_of, no_entry}
use Rattle.sn_model.specs.Machine.{State}
use Rattle.sn_model.specs.PointEvents.{restored_homes}
use Rattle.sn_model.specs.RecoveryPoint.{IsRestored, IsRestoredNode, IsOwned}
use Rattle.sn_model.specs.Trace.{TraceEntry}
use Rattle.sn_coherence.specs.Records.{Records}
use Rattle.sn_consistency.specs.Entries.{Entry}
use Rattle.consistent_cuts.specs.Headline.{IsUntouched}
use Rattle.consistent_cuts.specs.RunInvariant.{RunInvariant}
use Rattle.consistent_cuts.proofs.FabricAfter.{FabricHalf}
use Rattle.consistent_cuts.proofs.Moments.{end_block, end_register}
use Rattle.consistent_cuts.proofs.Points.{restored_state, restored_is, node_is, processor_is, count_nodes, given_is, taken_is}

-- nobody shares, and nothing is open
none_share : (s : Fabric) (k i : ℕ) (homes : List HomeEntry) (b : ℕ) →
    (slice_index_or (restored_homes s k i homes) b no_entry).sharers ≡ no_sharers
none_share s k i [] b = refl
none_share s k i (h ∷ homes) zero = refl
none_share s k i (h ∷ homes) (suc b) = none_share s k (i + 1) homes b

none_open : (s : Fabric) (k i : ℕ) (homes : List HomeEntry) (b : ℕ) →
    (slice_index_or (restored_homes s k i homes) b no_entry).transaction ≡ None
none_open s k i [] b = refl
none_open s k i (h ∷ homes) zero = refl
none_open s k i (h ∷ homes) (suc b) = none_open s k (i + 1) homes b

module _ (half : FabricHalf) (image : ImageData) (s : State) (r : ℕ → Records) (list : ℕ → List Entry) (trace : List TraceEntry) (j : RunInvariant image s r list trace) where
  abbrev N : ℕ
  N = length s.fabric.nodes

  abbrev point : ℕ
  point = s.fabric.point

  abbrev u : State
  u = restored_state s

  low : (n : ℕ) → n < length u.fabric.nodes → n < N
  low n l = let c = count_nodes image s r list trace j in omega (arith, l, c)

  node_restored : (n : ℕ) → n < N → IsRestoredNode (node_at u.fabric n) point
  node_restored n l = let e = node_is image s r list trace j n l in record {
    now = ap (λ x. x.now) e;
    known = ap (λ x. x.known) e;
    log = ap (λ x. x.log) e;
    miss = ap (λ x. x.cache.miss) e;
    put = ap (λ x. x.cache.put) e;
  }

  pub is_restored : IsRestored u (end_of image N s.committed)
  is_restored = record {
    nodes = λ n l. node_restored n (low n l);
    registers =
        λ n l. ap (λ p. p.core) (processor_is image s r list trace j n (low n l)) ∙ sym (end_register half image s r list trace j n);
    reported = λ n l. get_or-map (λ (k : ℕ). point) s.reported n 0 0 (let a = j.shape.reported in let b = low n l in omega (arith, a, b));
    taken = λ n l. taken_is image s r list trace j n;
    blocks = λ b l. subst (λ v. IsOwned u.fabric b v (home_of u.fabric b).holder) (sym (end_block half image s r list trace j b))
        (subst (λ f. IsOwned f b ((r b).below point) (home_of f b).holder) (ap (λ x. x.fabric) (restored_is s))
        (half.tell s.fabric r j.fabric b l).restored_to);
    sharers = λ b l. none_share s.fabric point 0 s.fabric.homes b;
    transactions = λ b l. none_open s.fabric point 0 s.fabric.homes b;
    net = refl;
    pending = refl;
    held = refl;
  }

  pub is_untouched : IsUntouched s u
  is_untouched =
      record { point = refl; committed = refl; released = refl; given = λ n. sym (given_is image s r list trace j n); dead = refl }
