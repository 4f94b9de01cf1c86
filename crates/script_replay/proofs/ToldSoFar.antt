-- What the probes were told so far, and what is left.
use Rattle.std.proofs.Common.{◌≡◌, ℕ, ◌+◌, List, [], ◌∷◌, ◌++◌, map, ap, sym, ◌∙◌, append_assoc, append-nil}
use Rattle.std.proofs.lemmas.List.{map-id}
use Rattle.std.proofs.lemmas.Simd.{map-map}
use Rattle.sn_base.specs.declared.event.Event.{Event}
use Rattle.sn_base.specs.declared.event.Answer.{Answer}
use Rattle.due_events.specs.Machine.{MachineData, IsApplied}
use Rattle.sn_probe.specs.Probes.{Meter, told_of}
use Rattle.script_replay.specs.Played.{after_event, told_next, told_left}

-- one event and then the others are all of them
told_left-event : (m : MachineData) (event : Event) (events : List Event) (probes : List Meter) →
    told_left (after_event m event) events (told_next m event probes) ≡ told_left m (event ∷ events) probes
told_left-event m event events probes = map-map _ _ probes

-- whatever is still to come, these events were told before it
abbrev pub IsToldSoFar : MachineData → List Event → List Meter → MachineData → List Meter → Type 0
IsToldSoFar start done before m now_ = (rest : List Event) → told_left m rest now_ ≡ told_left start (done ++ rest) before

-- one more is told
pub told-next : (start m next : MachineData) (done : List Event) (before now_ behind : List Meter) (event : Event) →
    next ≡ after_event m event → behind ≡ told_next m event now_ →
    IsToldSoFar start done before m now_ → IsToldSoFar start (done ++ event ∷ []) before next behind
told-next start m next done before now_ behind event is told h rest =
    ap (λ (t : MachineData). told_left t rest behind) is ∙ ap (told_left (after_event m event) rest) told
    ∙ told_left-event m event rest now_ ∙ h (event ∷ rest)
    ∙ ap (λ t. told_left start t before) (sym (append_assoc done (event ∷ []) rest))

-- these were told and no others
pub told-done : (start m : MachineData) (done : List Event) (before now_ : List Meter) →
    IsToldSoFar start done before m now_ → now_ ≡ told_left start done before
told-done start m done before now_ h =
    sym (map-id now_) ∙ h [] ∙ ap (λ t. told_left start t before) (append-nil done)

-- what the set of probes is told of an applied event is its number and its answer
pub told-applied : (m n : MachineData) (event : Event) (said : Answer) (number : ℕ) (now_ behind : List Meter) → IsApplied m n event said →
    number ≡ n.applied → behind ≡ map (told_of number event said) now_ → behind ≡ told_next m event now_
told-applied m n event said number now_ behind applied at told =
    told ∙ ap (λ k. map (told_of k event said) now_) (at ∙ ap (λ (t : MachineData). t.applied) applied.left)
    ∙ ap (λ a. map (told_of (m.applied + 1) event a) now_) applied.answer
