-- The retirements before a saved recovery point: all of them lie in interval 0.
use Rattle.std.proofs.Common.{◌≡◌, ℕ, zero, suc, ◌+◌, ◌<◌, ◌≤◌, Bool, true, false, cond, nat_eq, nat_le, List, [], ◌∷◌, ◌++◌, map, filter, length}
use Rattle.std.proofs.Common.{Option, Some, None, arith, refl, sym, ap, ◌∙◌}
use Rattle.std.specs.Prelude.{option_to_list, filter_map, flat_map}
use Rattle.std.proofs.lemmas.Bool.Decides.{nat_tests}
use Rattle.std.proofs.lemmas.List.{append-nil}
use Rattle.sn_base.specs.Image.{ImageData}
use Rattle.rv_core.specs.declared.step.Record.{Record}
use Rattle.rv_core.specs.Flat.{FlatState, flat_step, next_by}
use Rattle.rv_core.specs.Execution.{put_out_by}
use Rattle.fabric_bounds.specs.Resumed.{entries_from}
use Rattle.sn_model.specs.Trace.{TraceEntry, of_interval, below, committed_trace, committed_output}
use Rattle.consistent_cuts.specs.Lists.{not_validated}
use Rattle.consistent_cuts.proofs.Traced.{out_cons}

module _ (image : ImageData) where
  -- their records, and the bytes that they put out
  pub did_from : (flat : FlatState) (rs : List Record) → map (λ (e : TraceEntry). e.did) (entries_from image flat rs) ≡ rs
  did_from flat [] = refl
  did_from flat (r ∷ rs) = ap (λ l. r ∷ l) (did_from (flat_step image flat r) rs)

  pub out_from : (flat : FlatState) (rs : List Record) →
      filter_map (λ (e : TraceEntry). e.out) (entries_from image flat rs) ≡ put_out_by image flat rs
  out_from flat [] = refl
  out_from flat (r ∷ rs) =
      out_cons (next_by image flat r).effect.out (record { interval = 0; did = r; out = (next_by image flat r).effect.out })
      (entries_from image (flat_step image flat r) rs) refl
      ∙ ap (λ l. option_to_list (next_by image flat r).effect.out ++ l) (out_from (flat_step image flat r) rs)

  -- what an interval has of them
  pub here_from : (flat : FlatState) (rs : List Record) → of_interval (entries_from image flat rs) 0 ≡ entries_from image flat rs
  here_from flat [] = refl
  here_from flat (r ∷ rs) =
      ap (λ l. record { interval = 0; did = r; out = (next_by image flat r).effect.out } ∷ l) (here_from (flat_step image flat r) rs)

  pub later_from : (flat : FlatState) (rs : List Record) (k : ℕ) → of_interval (entries_from image flat rs) (suc k) ≡ []
  later_from flat [] k = refl
  later_from flat (r ∷ rs) k = let e : nat_eq 0 (suc k) ≡ false = grind (arith, nat_tests) in rw e (later_from (flat_step image flat r) rs k)

  pub none_waits : (flat : FlatState) (rs : List Record) (point : ℕ) → 1 ≤ point → not_validated point (entries_from image flat rs) ≡ []
  none_waits flat [] point l = refl
  none_waits flat (r ∷ rs) point l =
      let e : nat_le point 0 ≡ false = grind (arith, nat_tests) in rw e (none_waits (flat_step image flat r) rs point l)

  -- all of them lie below each interval but the first
  pub below_from : (flat : FlatState) (rs : List Record) (k : ℕ) → below (entries_from image flat rs) (suc k) ≡ entries_from image flat rs
  below_from flat rs zero = here_from flat rs
  below_from flat rs (suc k) =
      ap (λ l. below (entries_from image flat rs) (suc k) ++ l) (later_from flat rs k)
      ∙ append-nil (below (entries_from image flat rs) (suc k)) ∙ below_from flat rs k
