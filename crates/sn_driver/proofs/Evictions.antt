-- The eviction that is due, by what the machine says of the least line.
use Rattle.std.proofs.Common.{◌≡◌, ℕ, ◌<◌, Bool, true, false, Option, Some, None, option_map, refl, sym, ap, ◌∙◌, arith}
use Rattle.std.specs.Prelude.{if◌then◌else◌}
use Rattle.sn_base.specs.declared.event.Event.{Event}
use Rattle.sn_base.specs.declared.event.Event.TheVariants.{Step, Evict}
use Rattle.sn_base.specs.declared.event.Answer.{Answer}
use Rattle.sn_base.specs.declared.event.Answer.TheVariants.{NeedsEvict}
use Rattle.sn_model.specs.Caches.{block_count}
use Rattle.sn_model.specs.Machine.{processor_at}
use Rattle.due_events.specs.Looks.{wanted_block, can_go_from, may_go_for}
use Rattle.due_events.specs.Machine.{MachineData, next_of}
use Rattle.due_events.specs.Lists.{needs_evict, leaves_for, least_to_leave, eviction}
use Rattle.sn_driver.proofs.Lists.{least_from, none_from}

needs-is : (a : Answer) → needs_evict a ≡ true → a ≡ NeedsEvict
needs-is NeedsEvict e = refl
needs-is _ e = absurd cc

same_for : (m : MachineData) (n : ℕ) (wanted : Option ℕ) (b : ℕ) → leaves_for m.config m.state.fabric n wanted b ≡ may_go_for m n wanted b
same_for m n None b = refl
same_for m n (Some wanted) b = refl

module _ (m : MachineData) (n : ℕ) where
  abbrev leaves : ℕ → Bool
  leaves b = leaves_for m.config m.state.fabric n (wanted_block m.image (processor_at m.state n).core) b

  abbrev eviction_by : Answer → Option ℕ → Option Event
  eviction_by answer least = if needs_evict answer then option_map (λ (block : ℕ). Evict n block) least else None

  least-none : ((b : ℕ) → b < block_count → can_go_from m n b ≡ false) → least_to_leave m.image m.config m.state n ≡ None
  unfolding least_to_leave
  least-none h = none_from leaves 0 block_count (λ b l. same_for m n _ b ∙ h b l)

  least-some : (k : ℕ) → k < block_count → can_go_from m n k ≡ true → ((b : ℕ) → b < k → can_go_from m n b ≡ false) → least_to_leave m.image m.config m.state n ≡ Some k
  unfolding least_to_leave
  least-some k l at below = least_from leaves 0 block_count k (omega arith) l (λ b lb. same_for m n _ b ∙ below b lb) (same_for m n _ k ∙ at)

  pub eviction-none : (answer : Answer) → answer ≡ (next_of m (Step n)).answer → needs_evict answer ≡ true →
      ((next_of m (Step n)).answer ≡ NeedsEvict → (b : ℕ) → b < block_count → can_go_from m n b ≡ false) → None ≡ eviction m.image m.config m.state n
  eviction-none answer is needs none =
      let a = sym is ∙ needs-is answer needs in
      sym (ap (λ x. eviction_by x (least_to_leave m.image m.config m.state n)) a ∙ ap (eviction_by NeedsEvict) (least-none (none a)))

  pub eviction-some : (k : ℕ) → k < block_count → (next_of m (Step n)).answer ≡ NeedsEvict → can_go_from m n k ≡ true → ((b : ℕ) → b < k → can_go_from m n b ≡ false) →
      Some (Evict n k) ≡ eviction m.image m.config m.state n
  eviction-some k l a at below =
      sym (ap (λ x. eviction_by x (least_to_leave m.image m.config m.state n)) a ∙ ap (eviction_by NeedsEvict) (least-some k l at below))
