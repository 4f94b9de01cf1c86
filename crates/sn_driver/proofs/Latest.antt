-- The latest interval says who is behind.
use Rattle.std.proofs.Common.{◌≡◌, ℕ, ◌<◌, ◌≤◌, Bool, true, false, length, refl, sym, ap, ◌∙◌, arith}
use Rattle.std.specs.Prelude.{nat_lt}
use Rattle.std.proofs.lemmas.Bool.Decides.{nat_tests}
use Rattle.sn_model.specs.Fabric.{Fabric, Node, first_node, node_at}
use Rattle.due_events.specs.Lists.{is_behind}
use Rattle.sn_driver.proofs.Lists.{some_passes, none_passes}

not_beyond : (a b latest : ℕ) → nat_lt a latest ≡ false → b ≤ latest → nat_lt a b ≡ false
not_beyond a b latest e l = grind (arith, nat_tests)

-- where one node is there and none is beyond it
pub behind_it : (s : Fabric) (latest k : ℕ) → k < length s.nodes → (node_at s k).now ≡ latest → ((j : ℕ) → j < length s.nodes → (node_at s j).now ≤ latest) →
    (n : ℕ) → is_behind s n ≡ nat_lt (node_at s n).now latest
behind_it s latest k l at above n = go (nat_lt (node_at s n).now latest) refl
  where
    go : (b : Bool) → nat_lt (node_at s n).now latest ≡ b → is_behind s n ≡ nat_lt (node_at s n).now latest
    go true e = some_passes (λ (other : Node). nat_lt (node_at s n).now other.now) s.nodes k first_node l (ap (λ (now : ℕ). nat_lt (node_at s n).now now) at ∙ e) ∙ sym e
    go false e = none_passes (λ (other : Node). nat_lt (node_at s n).now other.now) s.nodes first_node
        (λ j m. not_beyond (node_at s n).now (node_at s j).now latest e (above j m)) ∙ sym e
