-- What a probe is to a contract, and what being told of events makes of it.
use Rattle.std.specs.Prelude.{◌≡◌, ℕ, ◌+◌, List, [], ◌∷◌, map}
use Rattle.std.specs.declared.alloc.Global.{Global}
use Rattle.std.specs.declared.dyn_box.DynBox.{DynBox}
use Rattle.sn_base.specs.declared.event.Event.{Event}
use Rattle.sn_base.specs.declared.event.Answer.{Answer}

-- a probe: its tally at first, its tally now, and what an event with its number and its answer makes of a tally
pub record Meter : Type 0 where
  pub first : List ℕ
  pub tally : List ℕ
  pub step : List ℕ → ℕ → Event → Answer → List ℕ

-- what these probes are, by what each has at first, has now and does
abbrev pub meters_of : {B : Type 0} → (B → List ℕ) → (B → List ℕ) → (B → List ℕ → ℕ → Event → Answer → List ℕ) → List B → List Meter
meters_of first tally step probes = map (λ b. record { first = first b; tally = tally b; step = step b }) probes

-- the same of probes in boxes, where these are known by what stands in the boxes
abbrev pub meters_in : {I : Type 0} → {D : I → Type 0} → ((x : I) × D x → List ℕ) → ((x : I) × D x → List ℕ) →
    ((x : I) × D x → List ℕ → ℕ → Event → Answer → List ℕ) → List (DynBox I Global D) → List Meter
meters_in first tally step boxes =
    meters_of (λ b. first (b.vtable, b.value)) (λ b. tally (b.vtable, b.value)) (λ b. step (b.vtable, b.value)) boxes

-- one that has been told one more event
abbrev pub told_of : ℕ → Event → Answer → Meter → Meter
told_of number event answer m = record m { tally = m.step m.tally number event answer }

-- an event that was applied, and its answer
pub record Observation : Type 0 where
  pub event : Event
  pub answer : Answer

-- one that has been told all these, the first of which has this number
abbrev pub told_from : ℕ → List Observation → Meter → Meter
told_from number [] m = m
told_from number (told ∷ more) m = told_from (number + 1) more (told_of number told.event told.answer m)

-- the tallies of these probes
abbrev pub tallies_of : List Meter → List (List ℕ)
tallies_of meters = map (λ m. m.tally) meters

-- each has the tally that it has at first
abbrev pub AreFresh : List Meter → Type 0
AreFresh meters = tallies_of meters ≡ map (λ m. m.first) meters
