-- What an event that neither moves the point nor goes back to it leaves of the rest of the machine.
use Rattle.std.proofs.Common.{◌≡◌, ◌≢◌, ℕ, ◌<◌, Bool, true, false, List, [], length, Option, Some, None, arith, refl, sym, ap, ◌∙◌, subst}
use Rattle.std.proofs.Common.{nat_eq, get_or-set_other, if◌then◌else◌}
use Rattle.std.proofs.lemmas.Bool.Decides.{nat_tests}
use Rattle.std.proofs.lemmas.List.{append-nil}
use Rattle.sn_base.specs.Image.{ImageData}
use Rattle.rv_core.specs.Core.{is_reserved}
use Rattle.sn_model.specs.declared.net.News.{News}
use Rattle.sn_model.specs.declared.net.News.TheVariants as told
use Rattle.sn_model.specs.Fabric.{FabricStep, node_at}
use Rattle.sn_model.specs.Machine.{State, Processor, processor_at, with_processor, first_processor}
use Rattle.sn_model.specs.Instructions.{MachineStep, step_of_retirement, machine_step_of, found_at, next_with}
use Rattle.sn_model.specs.MachineEvents.{state_after_news, machine_step_with_news, without_reservation, processor_with_freed}
use Rattle.sn_consistency.specs.Committed.{Begins}
use Rattle.consistent_cuts.proofs.SteppedCases.{is_point_answer}
use Rattle.consistent_cuts.proofs.Clocks.{part_set}
use Rattle.consistent_cuts.proofs.Hears.{at_itself, unreserved_is}

pub begins_same : (xs : List ℕ) → Begins xs xs
begins_same xs = record { more = []; is = sym (append-nil xs) }

-- what is committed and released stays, and given bytes only grow
pub record IsOrdinary (s : State) (x : MachineStep) : Type 0 where
  pub no_point : is_point_answer x.answer ≡ false
  pub committed : x.state.committed ≡ s.committed
  pub released : x.state.released ≡ s.released
  pub given : (n : ℕ) → Begins (processor_at s n).given (processor_at x.state n).given

-- an event of the fabric of which nobody hears
pub ordinary_carried : (s : State) (moved : FabricStep) → is_point_answer moved.answer ≡ false → IsOrdinary s (machine_step_of s moved)
ordinary_carried s moved e = record { no_point = e; committed = refl; released = refl; given = λ n. begins_same (processor_at s n).given }

-- a processor in its place, whether its node is there or not
module _ (s : State) (n : ℕ) (processor : Processor) where
  pub same_given : processor.given ≡ (processor_at s n).given → (m : ℕ) →
      (processor_at (with_processor s n processor) m).given ≡ (processor_at s m).given
  same_given e m = part_set (λ p. p.given) s.processors n m processor (first_processor 0 0) e

  pub same_core : processor.core ≡ (processor_at s n).core → (m : ℕ) →
      (processor_at (with_processor s n processor) m).core ≡ (processor_at s m).core
  same_core e m = part_set (λ p. p.core) s.processors n m processor (first_processor 0 0) e

-- one of which the rest hears
ordinary_told : (s : State) (x : Option News) (n : ℕ) → (processor_at (state_after_news s x) n).given ≡ (processor_at s n).given
ordinary_told s None n = refl
ordinary_told s (Some (told.LostCopy e block)) n = same_given s e (without_reservation (processor_at s e) block) refl n
ordinary_told s (Some (told.Ready e k)) n = refl
ordinary_told s (Some (told.Advance e k)) n = same_given s e (processor_with_freed (processor_at s e) (node_at s.fabric e).known k) refl n

committed_told : (s : State) (x : Option News) → (state_after_news s x).committed ≡ s.committed
committed_told s None = refl
committed_told s (Some (told.LostCopy e block)) = refl
committed_told s (Some (told.Ready e k)) = refl
committed_told s (Some (told.Advance e k)) = refl

released_told : (s : State) (x : Option News) → (state_after_news s x).released ≡ s.released
released_told s None = refl
released_told s (Some (told.LostCopy e block)) = refl
released_told s (Some (told.Ready e k)) = refl
released_told s (Some (told.Advance e k)) = refl

pub ordinary_hearing : (s : State) (moved : FabricStep) → is_point_answer moved.answer ≡ false → IsOrdinary s (machine_step_with_news s moved)
ordinary_hearing s moved e = record {
  no_point = e;
  committed = committed_told s moved.told;
  released = released_told s moved.told;
  given = λ n. subst (Begins (processor_at s n).given) (sym (ordinary_told s moved.told n)) (begins_same (processor_at s n).given);
}

-- an instruction that retires
pub ordinary_retired : (image : ImageData) (s : State) (n : ℕ) → IsOrdinary s (step_of_retirement image s n)
ordinary_retired image s n = record {
  no_point = refl;
  committed = refl;
  released = refl;
  given =
      λ m. subst (Begins (processor_at s m).given)
      (sym (same_given s n (record (processor_at s n) { core = (next_with image (processor_at s n) (found_at image s n)).core }) refl m))
      (begins_same (processor_at s m).given);
}

-- how a reservation is lost by what is heard
pub unreserved_told : (s : State) (x : Option News) (n block : ℕ) → n < length s.processors →
    is_reserved (processor_at s n).core.reservation block ≡ true →
    is_reserved (processor_at (state_after_news s x) n).core.reservation block ≡ false → x ≡ Some (told.LostCopy n block)
unreserved_told s None n block l a b = absurd (grind arith)
unreserved_told s (Some (told.LostCopy e lost)) n block l a b = go (nat_eq n e) (nat_eq block lost) refl refl
  where
    there : n ≢ e → ⊥
    there d =
        let h = ap (λ p. is_reserved p.core.reservation block)
        (get_or-set_other s.processors e n (without_reservation (processor_at s e) lost) (first_processor 0 0) d) in grind arith

    here : n ≡ e → is_reserved (processor_at (state_after_news s (Some (told.LostCopy e lost))) n).core.reservation block
        ≡ (if nat_eq block lost then false else is_reserved (processor_at s n).core.reservation block)
    here i =
        subst (λ x. n ≡ x → is_reserved
        (processor_at (with_processor s x (without_reservation (processor_at s x) lost)) n).core.reservation block
        ≡ (if nat_eq block lost then false else is_reserved (processor_at s n).core.reservation block)) i
        (λ same. ap (λ p. is_reserved p.core.reservation block) (at_itself s n (without_reservation (processor_at s n) lost) l)
        ∙ unreserved_is (processor_at s n).core lost block) i

    go : (p q : Bool) → nat_eq n e ≡ p → nat_eq block lost ≡ q → Some (told.LostCopy e lost) ≡ Some (told.LostCopy n block)
    go true true i k =
        let x : e ≡ n = grind (arith, nat_tests) in let y : lost ≡ block = grind (arith, nat_tests) in
        ap (λ v. Some (told.LostCopy v lost)) x ∙ ap (λ v. Some (told.LostCopy n v)) y
    go true false i k = let h = here (grind (arith, nat_tests)) in absurd (grind arith)
    go false q i k = absurd (there (grind (arith, nat_tests)))
unreserved_told s (Some (told.Ready e k)) n block l a b = absurd (grind arith)
unreserved_told s (Some (told.Advance e k)) n block l a b = absurd (kept (nat_eq n e) refl)
  where
    kept : (p : Bool) → nat_eq n e ≡ p → ⊥
    kept true i =
        let x : n ≡ e = grind (arith, nat_tests) in let h = same_core s e (processor_with_freed (processor_at s e) (node_at s.fabric e).known k) refl n in
        grind arith
    kept false i = let h = same_core s e (processor_with_freed (processor_at s e) (node_at s.fabric e).known k) refl n in grind arith
