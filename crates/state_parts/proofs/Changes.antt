-- What a change of one element leaves, of lists of nodes, homes and records.
use Rattle.std.proofs.Common.{◌≡◌, ◌≢◌, ℕ, zero, suc, ◌<◌, Bool, true, false, ◌||◌, cond, nat_eq, if◌then◌else◌, List, [], ◌∷◌, ◌++◌}
use Rattle.std.proofs.Common.{refl, ap, sym, ◌∙◌, arith, get_or-set_other, ◌⊎◌, inl, inr}
use Rattle.std.specs.Prelude.{option_to_list}
use Rattle.std.proofs.lemmas.Bool.{cases_order}
use Rattle.std.proofs.lemmas.Bool.Decides.{nat_tests}
use Rattle.rv_core.specs.Execution.{in_of}
use Rattle.sn_model.specs.Fabric.{Fabric, Node, first_node, node_at, with_node, no_entry, home_of, with_home}
use Rattle.sn_model.specs.Homes.{HomeEntry}
use Rattle.sn_model.specs.Machine.{State, Processor, Retirement, first_processor, processor_at, with_processor}
use Rattle.sn_model.specs.Instructions.{records_of}
use Rattle.state_parts.specs.Parts.{waiting_of}
use Rattle.state_parts.specs.Touched.{is_in, numbers_below}

-- what holds of both branches holds of a choice
pub either : {A : Type 0} (P : A → Type 0) (test : Bool) (a b : A) → P a → P b → P (if test then a else b)
either P true a b first second = first
either P false a b first second = second

-- who isn't the only one of a list is another
pub apart : (n k : ℕ) → is_in n (k ∷ []) ≡ false → n ≢ k
apart n k e same = absurd (grind (arith, nat_tests, e, same))

pub unequal : (n k : ℕ) → is_in n (k ∷ []) ≡ false → nat_eq k n ≡ false
unequal n k e = grind (arith, nat_tests, e)

pub node_beside : (s : Fabric) (k n : ℕ) (node : Node) → is_in n (k ∷ []) ≡ false → node_at (with_node s k node) n ≡ node_at s n
node_beside s k n node e = get_or-set_other s.nodes k n node first_node (apart n k e)

pub home_beside : (s : Fabric) (k block : ℕ) (entry : HomeEntry) → is_in block (k ∷ []) ≡ false →
    home_of (with_home s k entry) block ≡ home_of s block
home_beside s k block entry e = get_or-set_other s.homes k block entry no_entry (apart block k e)

pub processor_beside : (s : State) (k n : ℕ) (processor : Processor) → is_in n (k ∷ []) ≡ false →
    processor_at (with_processor s k processor) n ≡ processor_at s n
processor_beside s k n processor e = get_or-set_other s.processors k n processor (first_processor 0 0) (apart n k e)

-- one more record of another node
pub waiting_beside : (n : ℕ) (pending : List Retirement) (r : Retirement) → nat_eq r.did.core n ≡ false →
    waiting_of n (pending ++ r ∷ []) ≡ waiting_of n pending
waiting_beside n [] r e = rw e refl
waiting_beside n (x ∷ pending) r e = ap (λ t. cond (nat_eq x.did.core n) (x ∷ t) t) (waiting_beside n pending r e)

pub reads_beside : (n : ℕ) (pending : List Retirement) (r : Retirement) → nat_eq r.did.core n ≡ false →
    in_of n (records_of (pending ++ r ∷ [])) ≡ in_of n (records_of pending)
reads_beside n [] r e = rw e refl
reads_beside n (x ∷ pending) r e =
    ap (λ t. (if nat_eq x.did.core n then option_to_list x.did.read else []) ++ t) (reads_beside n pending r e)

-- each number below another is one of those
pub is_in-last : (n : ℕ) (numbers : List ℕ) → is_in n (numbers ++ n ∷ []) ≡ true
is_in-last n [] = grind (arith, nat_tests)
is_in-last n (x ∷ numbers) = or_true (nat_eq x n) (is_in-last n numbers) where
  or_true : (a : Bool) {b : Bool} → b ≡ true → (a || b) ≡ true
  or_true true e = refl
  or_true false e = e

or_left : (a b c : Bool) → (a || b) ≡ true → (b ≡ true → c ≡ true) → (a || c) ≡ true
or_left true b c e more = refl
or_left false b c e more = more e

is_in-more : (n k : ℕ) (numbers : List ℕ) → is_in n numbers ≡ true → is_in n (numbers ++ k ∷ []) ≡ true
is_in-more n k [] e = absurd (differ e) where
  differ : false ≡ true → ⊥
  differ e = cc
is_in-more n k (x ∷ numbers) e =
    or_left (nat_eq x n) (is_in n numbers) (is_in n (numbers ++ k ∷ [])) e (λ there. is_in-more n k numbers there)

below-more : (n count : ℕ) → (n < count → is_in n (numbers_below count) ≡ true) → ((n ≡ count) ⊎ ((n < count) ⊎ (count < n))) →
    n < suc count → is_in n (numbers_below count ++ count ∷ []) ≡ true
below-more n count before (inl e) l =
    ap (λ (k : ℕ). is_in n (numbers_below count ++ k ∷ [])) (sym e) ∙ is_in-last n (numbers_below count)
below-more n count before (inr (inl below)) l = is_in-more n count (numbers_below count) (before below)
below-more n count before (inr (inr above)) l = absurd (omega (arith, l, above))

pub is_below : (n count : ℕ) → n < count → is_in n (numbers_below count) ≡ true
is_below n zero l = absurd (omega (arith, l))
is_below n (suc count) l = below-more n count (is_below n count) (cases_order n count) l
