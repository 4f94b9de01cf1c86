-- Along every run what is committed and released grows at its end alone.
use Rattle.std.proofs.Common.{◌≡◌, ◌≢◌, ◌⊎◌, inl, inr, ⊎_elim, ℕ, List, [], ◌∷◌, ◌++◌, refl, sym, ap, ◌∙◌, append_assoc}
use Rattle.std.proofs.lemmas.List.{append-nil}
use Rattle.sn_base.specs.Image.{ImageData}
use Rattle.sn_base.specs.declared.config.Config.{Config}
use Rattle.sn_base.specs.declared.event.Answer.{Answer}
use Rattle.sn_base.specs.declared.event.Answer.TheVariants as answer
use Rattle.sn_base.specs.declared.event.Event.{Event}
use Rattle.sn_model.specs.Instructions.{MachineStep}
use Rattle.sn_model.specs.Machine.{State}
use Rattle.sn_model.specs.Step.{step_of, state_after}
use Rattle.sn_model.specs.Trace.{TraceEntry, trace_after_event}
use Rattle.sn_consistency.specs.Committed.{Begins}
use Rattle.consistent_cuts.specs.Headline.{IsRun, IsStepOfRun}
use Rattle.consistent_cuts.specs.Origins.{Origin, MayBegin, AddsTo, state_at, entries_at, reached_from}
use Rattle.consistent_cuts.specs.RunInvariant.{Holds}
use Rattle.consistent_cuts.specs.Runs.{AllFit}
use Rattle.consistent_cuts.proofs.Run.{step_holds, holds_next, origin_holds}

same_begins : {A : Type 0} (xs ys : List A) → ys ≡ xs → Begins xs ys
same_begins xs ys e = record { more = []; is = e ∙ sym (append-nil xs) }

begins_along : {A : Type 0} (xs ys zs : List A) → Begins xs ys → Begins ys zs → Begins xs zs
begins_along xs ys zs a b = record { more = a.more ++ b.more; is = b.is ∙ ap (λ l. l ++ b.more) a.is ∙ append_assoc xs a.more b.more }

adds_along : (s t u : State) → AddsTo s t → AddsTo t u → AddsTo s u
adds_along s t u a b = record {
  committed = begins_along s.committed t.committed u.committed a.committed b.committed;
  released = begins_along s.released t.released u.released a.released b.released;
}

validates_or : (a : Answer) → ((k : ℕ) × (a ≡ answer.Validated k)) ⊎ ((k : ℕ) → a ≢ answer.Validated k)
validates_or (answer.Validated k) = inl (k, refl)
validates_or _ = inr (λ k e. cc)

step_adds : (image : ImageData) (config : Config) (s : State) (event : Event) (next : MachineStep) → IsStepOfRun image config s event next →
    AddsTo s next.state
step_adds image config s event next step = ⊎_elim
    (λ (v : (k : ℕ) × (next.answer ≡ answer.Validated k)). let g = step.grows v.0 v.1 in
    record { committed = record { more = _; is = g.0 }; released = record { more = _; is = g.1 } })
    (λ (other : (k : ℕ) → next.answer ≢ answer.Validated k). let g = step.stays other in
    record { committed = same_begins s.committed next.state.committed g.0; released = same_begins s.released next.state.released g.1 })
    (validates_or next.answer)

run_adds : (image : ImageData) (config : Config) (s : State) (trace : List TraceEntry) (events : List Event) → AllFit config.nodes events →
    Holds image config.nodes s trace → AddsTo s (state_after image config s events)
run_adds image config s trace [] fits h = record { committed = same_begins s.committed s.committed refl; released = same_begins s.released s.released refl }
run_adds image config s trace (event ∷ events) fits h =
    adds_along s (step_of image config s event).state (state_after image config (step_of image config s event).state events)
    (step_adds image config s event (step_of image config s event) (holds_next image config s trace event h fits.0))
    (run_adds image config (step_of image config s event).state (trace_after_event image s event (step_of image config s event).answer trace) events
    fits.1 (step_holds image config config.nodes s trace event h fits.0))

pub origin_adds : (image : ImageData) (config : Config) (origin : Origin) (events : List Event) → MayBegin image config origin →
    IsRun config events → AddsTo (state_at image config origin) (reached_from image config origin events)
origin_adds image config origin events may run =
    run_adds image config (state_at image config origin) (entries_at image origin) events run.events_fit
    (origin_holds image config origin may run.fits)
