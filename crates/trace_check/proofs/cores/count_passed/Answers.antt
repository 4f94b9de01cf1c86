use Rattle.std.proofs.Common.{◌≡◌, ◌+◌, ℕ, ◌<◌, ◌⊎◌, inl, inr, true, length, get_or, is_ok, min, Ok, take, sym, subst, ap, ◌∙◌, arith}
use Rattle.std.specs.Prelude.{IfOk}
use Rattle.std.proofs.lemmas.Bool.{cases_order}
use Rattle.std.proofs.lemmas.List.{get_or_default}
use Rattle.rv_core.specs.Core.{start_of}
use Rattle.projection_places.specs.Passes.{Passes}
use Rattle.trace_check.specs.declared.cores.Slot.{Slot}
use Rattle.trace_check.specs.Slots.{IsPassed, CoresBelow, HasReplayed}
use Rattle.trace_check.specs.TaggedEffects.{core_effects}
use Rattle.trace_check.specs.Tags.{AreKept}
use Rattle.trace_check.proofs.CorePlaces.{least_none, least_more, least_all}
use Rattle.trace_check.proofs.cores.count_passed.Goals as goal
use Rattle.trace_check.proofs.cores.count_passed.Goals.{In_ok-slots}

pub slots-init : goal.slots-init
slots-init c = record {
  least = least_none c.args.image.now c.args.nodes c.args.records.now (length c.args.records.now);
  done = λ n d l. absurd (omega (arith, l));
}

pub slots-preserved : goal.slots-preserved
slots-preserved c =
    let image = c.args.image.now in
    let rs = c.args.records.now in
    let slot = c.index-slots-place.result in
    let inside : c.slots.place < c.args.nodes = let h = c.requires.replayed.1.count in omega (arith, h, c.slots-test.true) in
    let at = c.requires.replayed.1.each c.slots.place slot inside in
    let mine : (slot.core ≡ c.slots.place) × HasReplayed image c.args.nodes c.requires.replayed.0 rs slot = subst (λ x. (x.core ≡ c.slots.place) × HasReplayed image c.args.nodes c.requires.replayed.0 rs x) (sym c.index-slots-place.is) at in
    let given : slot.passed ≡ Ok c.in_ok-slots.field-0 = ap (λ x. x.passed) c.index-slots-place.is ∙ c.in_ok-slots.was in
    let passed = subst (λ x. IfOk x (λ p. Passes (IsPassed image c.args.nodes slot.core rs) (length rs) p × AreKept c.requires.replayed.0 (core_effects image slot.core (start_of slot.core image.entry) (take p rs)) slot.tagged)) given mine.1 in
    let more = least_more image c.args.nodes rs (length rs) c.slots.place c.slots.least c.in_ok-slots.field-0 c.slots.invariant.least slot.core mine.0 passed.0 in
    record {
      least = subst (Passes (CoresBelow image c.args.nodes rs (c.slots.place + 1)) (length rs)) (sym c.min-least.ensures)
          (subst (λ n. Passes (CoresBelow image c.args.nodes rs n) (length rs) (min c.slots.least c.in_ok-slots.field-0)) (omega arith) more);
      done = λ n d l. later n d l (cases_order n c.slots.place);
    }
  where
    later : (n : ℕ) (d : Slot) → n < c.slots.place + 1 → ((n ≡ c.slots.place) ⊎ ((n < c.slots.place) ⊎ (c.slots.place < n))) → is_ok (get_or c.args.slots.now n d).passed ≡ true
    later n d l (inl e) =
        let inside : c.slots.place < length c.args.slots.now = c.slots-test.true in
        let same : get_or c.args.slots.now c.slots.place d ≡ get_or c.args.slots.now c.slots.place c.index-slots-place.result = get_or_default c.args.slots.now c.slots.place d c.index-slots-place.result inside in
        subst (λ x. is_ok (get_or c.args.slots.now x d).passed ≡ true) (sym e)
        (ap (λ x. is_ok x.passed) same ∙ ap is_ok c.in_ok-slots.was)
    later n d l (inr (inl h)) = c.slots.invariant.done n d h
    later n d l (inr (inr h)) = absurd (omega (arith, l, h))

pub returns-clause-passed : goal.returns-clause-passed
returns-clause-passed c =
    least_all c.args.image.now c.args.nodes c.args.records.now (length c.args.records.now) c.slots.place c.slots.least
    c.requires.some (let h = c.requires.replayed.1.count in omega (arith, h, c.slots-test.false, c.slots.auto.place-end)) c.slots.invariant.least

pub returns-clause-done : goal.returns-clause-done
returns-clause-done c = λ n d l. c.slots.invariant.done n d (let h = c.requires.replayed.1.count in omega (arith, h, l, c.slots-test.false, c.slots.auto.place-end))
