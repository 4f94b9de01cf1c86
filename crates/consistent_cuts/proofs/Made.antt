-- The sorted list is that of the retirements, and what a node has taken of its input.
use Rattle.std.proofs.Common.{◌≡◌, ℕ, zero, suc, ◌+◌, Bool, true, false, not, cond, nat_eq, nat_lt, List, [], ◌∷◌, ◌++◌, map, length}
use Rattle.std.proofs.Common.{Option, Some, None, arith, refl, sym, ap, ◌∙◌, length-append, ◌==◌}
use Rattle.std.specs.Prelude.{option_to_list, filter_map}
use Rattle.std.proofs.lemmas.Bool.Decides.{nat_tests}
use Rattle.std.proofs.lemmas.List.{append-nil, map-append}
use Rattle.std.proofs.lemmas.List.Elements.{filter_map-append}
use Rattle.sn_base.specs.Image.{ImageData}
use Rattle.rv_core.specs.Execution.{in_of}
use Rattle.sn_consistency.specs.Words.{puts}
use Rattle.sn_consistency.specs.Entries.{Entry}
use Rattle.sn_consistency.specs.Shows.{records, outs}
use Rattle.sn_consistency.specs.Sorted.{retire, entries_below_cut, below as below_cut}
use Rattle.sn_consistency.specs.Committed.{records_committed, bytes_released}
use Rattle.sn_consistency.proofs.CommittedPart.{records-append, outs-append, in_of-append}
use Rattle.sn_model.specs.Machine.{Retirement}
use Rattle.sn_model.specs.Instructions.{records_of}
use Rattle.sn_model.specs.Trace.{TraceEntry, of_interval, below, committed_trace, committed_output}
use Rattle.consistent_cuts.specs.Lists.{IsSortedFrom}
use Rattle.consistent_cuts.proofs.Traced.{of_other, of_same, before, before_same, before_none, in_interval, elsewhere}

module _ (image : ImageData) (list : ℕ → List Entry) (trace : List TraceEntry) (made : IsSortedFrom image list trace) where
  -- an instruction retires
  module _ (e : Entry) (entry : TraceEntry) (same : entry.did ≡ e.did) (out : option_to_list entry.out ≡ puts image e.found e.did) where
    out_one : filter_map (λ (x : TraceEntry). x.out) (entry ∷ []) ≡ puts image e.found e.did
    out_one = go entry.out refl ∙ out
      where
        go : (o : Option ℕ) → entry.out ≡ o → filter_map (λ (x : TraceEntry). x.out) (entry ∷ []) ≡ option_to_list entry.out
        go None i = rw i refl
        go (Some byte) i = rw i refl

    did_here : (x : ℕ) (here : Bool) → nat_eq entry.interval x ≡ here →
        records (cond here (list x ++ e ∷ []) (list x)) ≡ map (λ (y : TraceEntry). y.did) (of_interval (trace ++ entry ∷ []) x)
    did_here x true i =
        records-append (list x) (e ∷ []) ∙ ap (λ rs. rs ++ e.did ∷ []) (made.did x)
        ∙ ap (λ r. map (λ (y : TraceEntry). y.did) (of_interval trace x) ++ r ∷ []) (sym same)
        ∙ sym (map-append (λ (y : TraceEntry). y.did) (of_interval trace x) (entry ∷ []))
        ∙ ap (map (λ (y : TraceEntry). y.did)) (sym (of_same trace entry x i))
    did_here x false i = made.did x ∙ ap (map (λ (y : TraceEntry). y.did)) (sym (of_other trace entry x i))

    out_here : (x : ℕ) (here : Bool) → nat_eq entry.interval x ≡ here →
        outs image (cond here (list x ++ e ∷ []) (list x)) ≡ filter_map (λ (y : TraceEntry). y.out) (of_interval (trace ++ entry ∷ []) x)
    out_here x true i =
        outs-append image (list x) (e ∷ []) ∙ ap (λ bs. bs ++ (puts image e.found e.did ++ [])) (made.out x)
        ∙ ap (λ bs. filter_map (λ (y : TraceEntry). y.out) (of_interval trace x) ++ bs) (append-nil (puts image e.found e.did) ∙ sym out_one)
        ∙ sym (filter_map-append (λ (y : TraceEntry). y.out) (of_interval trace x) (entry ∷ []))
        ∙ ap (filter_map (λ (y : TraceEntry). y.out)) (sym (of_same trace entry x i))
    out_here x false i = made.out x ∙ ap (filter_map (λ (y : TraceEntry). y.out)) (sym (of_other trace entry x i))

    turned : (x : ℕ) → (x == entry.interval) ≡ nat_eq entry.interval x
    turned x = grind (arith, nat_tests)

    pub made_retired : IsSortedFrom image (retire list entry.interval e) (trace ++ entry ∷ [])
    made_retired = record {
      did = λ x. rw (turned x) (did_here x (nat_eq entry.interval x) refl);
      out = λ x. rw (turned x) (out_here x (nat_eq entry.interval x) refl);
    }

  -- a recovery
  module _ (k : ℕ) where
    did_kept : (x : ℕ) (low : Bool) → nat_lt x k ≡ low →
        records (cond low (list x) []) ≡ map (λ (y : TraceEntry). y.did) (of_interval (before k trace) x)
    did_kept x true i = made.did x ∙ ap (map (λ (y : TraceEntry). y.did)) (sym (before_same k x (grind (arith, nat_tests)) trace))
    did_kept x false i = ap (map (λ (y : TraceEntry). y.did)) (sym (before_none k x (grind (arith, nat_tests)) trace))

    out_kept : (x : ℕ) (low : Bool) → nat_lt x k ≡ low →
        outs image (cond low (list x) []) ≡ filter_map (λ (y : TraceEntry). y.out) (of_interval (before k trace) x)
    out_kept x true i = made.out x ∙ ap (filter_map (λ (y : TraceEntry). y.out)) (sym (before_same k x (grind (arith, nat_tests)) trace))
    out_kept x false i = ap (filter_map (λ (y : TraceEntry). y.out)) (sym (before_none k x (grind (arith, nat_tests)) trace))

    pub made_recovered : IsSortedFrom image (entries_below_cut list k) (before k trace)
    made_recovered = record { did = λ x. did_kept x (nat_lt x k) refl; out = λ x. out_kept x (nat_lt x k) refl }

  -- what is committed and released is that of the sorted list
  pub committed_sorted : (k : ℕ) → records_committed list k ≡ committed_trace trace k
  unfolding below_cut
  committed_sorted zero = refl
  committed_sorted (suc k) =
      records-append (below_cut list k) (list k) ∙ ap (λ rs. rs ++ records (list k)) (committed_sorted k)
      ∙ ap (λ rs. committed_trace trace k ++ rs) (made.did k)
      ∙ sym (map-append (λ (y : TraceEntry). y.did) (below trace k) (of_interval trace k))

  pub released_sorted : (k : ℕ) → bytes_released image list k ≡ committed_output trace k
  unfolding below_cut
  released_sorted zero = refl
  released_sorted (suc k) =
      outs-append image (below_cut list k) (list k) ∙ ap (λ bs. bs ++ outs image (list k)) (released_sorted k)
      ∙ ap (λ bs. committed_output trace k ++ bs) (made.out k)
      ∙ sym (filter_map-append (λ (y : TraceEntry). y.out) (below trace k) (of_interval trace k))

-- how many bytes the records of a list read for a node, however they are parted by interval
abbrev reads_of : ℕ → List Retirement → ℕ
reads_of n pending = length (in_of n (records_of pending))

reads_cons : (n : ℕ) (r : Retirement) (rest : List Retirement) → reads_of n (r ∷ rest) ≡ length (in_of n (r.did ∷ [])) + reads_of n rest
reads_cons n r rest =
    ap length (in_of-append n (r.did ∷ []) (records_of rest)) ∙ length-append (in_of n (r.did ∷ [])) (in_of n (records_of rest))

parted_cons : (n k : ℕ) (r : Retirement) (rest : List Retirement) (here : Bool) →
    reads_of n (in_interval k rest) + reads_of n (elsewhere k rest) ≡ reads_of n rest →
    reads_of n (cond here (r ∷ in_interval k rest) (in_interval k rest)) + reads_of n
    (cond (not here) (r ∷ elsewhere k rest) (elsewhere k rest)) ≡ reads_of n (r ∷ rest)
parted_cons n k r rest true h = omega (arith, h, reads_cons n r (in_interval k rest), reads_cons n r rest)
parted_cons n k r rest false h = omega (arith, h, reads_cons n r (elsewhere k rest), reads_cons n r rest)

pub reads_parted : (n k : ℕ) (pending : List Retirement) →
    reads_of n (in_interval k pending) + reads_of n (elsewhere k pending) ≡ reads_of n pending
reads_parted n k [] = refl
reads_parted n k (r ∷ rest) = parted_cons n k r rest (nat_eq r.interval k) (reads_parted n k rest)
