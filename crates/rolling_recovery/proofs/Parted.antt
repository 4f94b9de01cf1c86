-- Each block is in one part, and once every node is noted each node has its part.
use Rattle.std.proofs.Common.{◌≡◌, ℕ, ◌<◌, ◌≤◌, Bool, true, false, cond, not, List, length, take, get_or}
use Rattle.std.proofs.Common.{Some, None, refl, sym, ◌∙◌, arith}
use Rattle.std.specs.Prelude.{nat_lt, is_some, position}
use Rattle.std.specs.List.{position_or_len}
use Rattle.std.proofs.lemmas.Bool.{false≢true, eqb-true, eq-eqb, ltb-false, not-false}
use Rattle.std.proofs.lemmas.Option.{none-some}
use Rattle.std.proofs.lemmas.List.{get_or-take, length-take}
use Rattle.std.proofs.lemmas.List.Sums.{fails_before_first}
use Rattle.home_directory.specs.Home.{owner_of}
use Rattle.sn_model.specs.Caches.{block_count}
use Rattle.sn_model.specs.Cuts.{names_at}
use Rattle.sn_model.specs.Fabric.{Fabric}
use Rattle.sn_model.specs.Homes.{Holder, Itself, OfCache}
use Rattle.sn_model.specs.RecoveryPoint.{HasOneHolderWith, IsCut, block_in}
use Rattle.sn_machine.specs.Machine.{MachineData, flat_of}
use Rattle.rolling_recovery.specs.Parts.{keeper, keeper_at_cut, is_in_part}
use Rattle.rolling_recovery.specs.Rolling.{RollingData, has_part, is_noted, block_in_part, first_not_noted}

in_part : (has here : Bool) (content : List ℕ) → is_some (cond has (cond here (Some content) None) None) ≡ true → here ≡ true
in_part true true content e = refl
in_part true false content e = absurd (false≢true e)
in_part false here content e = absurd (false≢true e)

pub apart : (r : RollingData) (a b block : ℕ) → is_some (block_in_part r a block) ≡ true → is_some (block_in_part r b block) ≡ true → a ≡ b
apart r a b block p q =
    sym (eqb-true (keeper_at_cut r.machine block) a (in_part (has_part r a) (is_in_part r.machine a block) (block_in (flat_of r.machine).memory block) p))
    ∙ eqb-true (keeper_at_cut r.machine block) b (in_part (has_part r b) (is_in_part r.machine b block) (block_in (flat_of r.machine).memory block) q)

-- no mark is missing

not_within : (b : Bool) (i : ℕ) → cond b (Some i) None ≡ None → b ≡ false
not_within true i e = absurd (none-some i (sym e))
not_within false i e = refl

none_missing : (marks : List Bool) (i : ℕ) → position not marks ≡ None → i < length marks → get_or marks i false ≡ true
none_missing marks i e l =
    let past : length marks ≤ position_or_len not marks = ltb-false (position_or_len not marks) (length marks)
    (not_within (nat_lt (position_or_len not marks) (length marks)) (position_or_len not marks) e) in
    not-false (get_or marks i false) (fails_before_first not marks i false (omega (arith, past, l)))

pub all-noted : (r : RollingData) → first_not_noted r ≡ None → r.machine.config.nodes ≤ length r.noted → (n : ℕ) → n < r.machine.config.nodes →
    is_noted r n ≡ true
all-noted r e few n l =
    sym (get_or-take r.machine.config.nodes r.noted n false l)
    ∙ none_missing (take r.machine.config.nodes r.noted) n e
    (let c = length-take r.machine.config.nodes r.noted in omega (arith, c, few, l))

-- the node that a block belongs to is there

there : (s : Fabric) (block k : ℕ) (content : List ℕ) (holder : Holder) → 1 ≤ length s.nodes → HasOneHolderWith s block k content holder →
    keeper s block (owner_of holder) < length s.nodes
there s block k content (Itself named) some h = omega (arith, some)
there s block k content (OfCache owner) some h = h.0

pub keeper-there : (m : MachineData) (block : ℕ) → block < block_count → 1 ≤ length m.state.fabric.nodes →
    IsCut m.state m.state.fabric.point (flat_of m) → keeper_at_cut m block < length m.state.fabric.nodes
keeper-there m block l some cut =
    there m.state.fabric block m.state.fabric.point (block_in (flat_of m).memory block)
    (names_at m.state.fabric block m.state.fabric.point) some (cut.blocks block l)

-- and has it in its part
pub with-keeper : (r : RollingData) (block : ℕ) → has_part r (keeper_at_cut r.machine block) ≡ true →
    is_some (block_in_part r (keeper_at_cut r.machine block) block) ≡ true
with-keeper r block has =
    let here : is_in_part r.machine (keeper_at_cut r.machine block) block ≡ true = eq-eqb (keeper_at_cut r.machine block) _ refl in
    rw (has, here) refl
