-- The machine after a retirement, at each node.
use Rattle.std.proofs.Common.{◌≡◌, ◌≢◌, ℕ, ◌+◌, ◌<◌, Bool, true, false, List, [], ◌∷◌, ◌++◌, length, drop, get_or, set, Option, Some, None}
use Rattle.std.proofs.Common.{option_to_list, if◌then◌else◌, nat_eq, refl, sym, ap, ◌∙◌, ◌⊎◌, inl, inr, arith, subst, length-set}
use Rattle.std.proofs.Common.{length-append, append_assoc, drop-drop, get_or-set_same, get_or-set_other}
use Rattle.std.proofs.lemmas.Bool.Decides.{nat_tests}
use Rattle.std.proofs.lemmas.Bool.{cases_eq}
use Rattle.sn_base.specs.Image.{ImageData}
use Rattle.sn_base.specs.declared.block.Write.{Write}
use Rattle.rv_core.specs.Execution.{in_of}
use Rattle.sn_model.specs.Fabric.{Fabric, Node, node_at, first_node}
use Rattle.sn_model.specs.Machine.{State, Processor, Retirement, processor_at, first_processor}
use Rattle.sn_model.specs.Access.{with_write}
use Rattle.sn_model.specs.Instructions.{found_at, next_with, record_with, records_of, written_by, step_of_retirement, taken_by}
use Rattle.consistent_cuts.specs.Outlines.{interval_of}

-- the fabric's nodes keep their number, their intervals and the points that they know

pub same_length : (s : Fabric) (n : ℕ) (w : Option Write) → length (written_by s n w).nodes ≡ length s.nodes
same_length s n None = refl
same_length s n (Some w) = length-set s.nodes n (with_write (node_at s n) w)

set_keeps : (f : Node → ℕ) (nodes : List Node) (n m : ℕ) (v : Node) → n < length nodes → f v ≡ f (get_or nodes n first_node) →
    f (get_or (set nodes n v) m first_node) ≡ f (get_or nodes m first_node)
set_keeps f nodes n m v l e = go (cases_eq m n)
  where
    go : (m ≡ n) ⊎ (m ≢ n) → f (get_or (set nodes n v) m first_node) ≡ f (get_or nodes m first_node)
    go (inl i) = rw i (ap f (get_or-set_same nodes n v first_node l) ∙ e)
    go (inr i) = ap f (get_or-set_other nodes n m v first_node i)

pub same_now : (s : Fabric) (n m : ℕ) (w : Option Write) → n < length s.nodes → (node_at (written_by s n w) m).now ≡ (node_at s m).now
same_now s n m None l = refl
same_now s n m (Some w) l = set_keeps (λ x. x.now) s.nodes n m (with_write (node_at s n) w) l refl

pub same_known : (s : Fabric) (n m : ℕ) (w : Option Write) → n < length s.nodes → (node_at (written_by s n w) m).known ≡ (node_at s m).known
same_known s n m None l = refl
same_known s n m (Some w) l = set_keeps (λ x. x.known) s.nodes n m (with_write (node_at s n) w) l refl

pub same_point : (s : Fabric) (n : ℕ) (w : Option Write) → (written_by s n w).point ≡ s.point
same_point s n None = refl
same_point s n (Some w) = refl

pub same_interval : (s : Fabric) (n m : ℕ) (w : Option Write) → n < length s.nodes → interval_of (written_by s n w) m ≡ interval_of s m
same_interval s n m w l = rw (same_length s n w, same_now s n m w l, same_point s n w) refl

-- what was read

pub in_of_one_more : (m : ℕ) (ps : List Retirement) (p : Retirement) →
    in_of m (records_of (ps ++ p ∷ [])) ≡ in_of m (records_of ps) ++ (if nat_eq p.did.core m then option_to_list p.did.read else [])
in_of_one_more m [] p = grind (arith, nat_tests)
in_of_one_more m (q ∷ ps) p = ap (λ l. (if nat_eq q.did.core m then option_to_list q.did.read else []) ++ l) (in_of_one_more m ps p)
    ∙ sym (append_assoc (if nat_eq q.did.core m then option_to_list q.did.read else []) (in_of m (records_of ps))
    (if nat_eq p.did.core m then option_to_list p.did.read else []))

module _ (image : ImageData) (s : State) (n : ℕ) where
  abbrev pub after : State
  after = (step_of_retirement image s n).state

  pub taken_after : (m : ℕ) → taken_by after m ≡ taken_by s m + length (if nat_eq n m then option_to_list (found_at image s n).read else [])
  taken_after m =
      let e = ap length (in_of_one_more m s.pending
      (record { interval = (node_at s.fabric n).now; did = record_with n (found_at image s n) })) in
      omega (arith, e, length-append (in_of m (records_of s.pending)) (if nat_eq n m then option_to_list (found_at image s n).read else []))

  pub drop_after : (m : ℕ) (given : List ℕ) → drop (taken_by after m) given ≡
      (if nat_eq n m then drop (length (option_to_list (found_at image s n).read)) (drop (taken_by s m) given)
      else drop (taken_by s m) given)
  drop_after m given =
      ap (λ k. drop k given) (taken_after m)
      ∙ sym (drop-drop (length (if nat_eq n m then option_to_list (found_at image s n).read else [])) (taken_by s m) given)
      ∙ split (nat_eq n m)
    where
      split : (test : Bool) → drop (length (if test then option_to_list (found_at image s n).read else [])) (drop (taken_by s m) given) ≡
          (if test then drop (length (option_to_list (found_at image s n).read)) (drop (taken_by s m) given) else drop (taken_by s m) given)
      split true = refl
      split false = refl

  -- each node's processor
  abbrev pub next_processor : Processor
  next_processor = record (processor_at s n) { core = (next_with image (processor_at s n) (found_at image s n)).core }

  pub at_each_processor : (P : ℕ → Processor → Type 0) → n < length s.processors → P n next_processor →
      ((m : ℕ) → m ≢ n → P m (processor_at s m)) →
      (m : ℕ) → P m (processor_at after m)
  at_each_processor P l here there m = go (cases_eq m n)
    where
      go : (m ≡ n) ⊎ (m ≢ n) → P m (processor_at after m)
      go (inl i) =
          subst (λ k. P k (processor_at after k)) (sym i)
          (subst (P n) (sym (get_or-set_same s.processors n next_processor (first_processor 0 0) l)) here)
      go (inr i) = subst (P m) (sym (get_or-set_other s.processors n m next_processor (first_processor 0 0) i)) (there m i)
