-- The first of some probes are told, one after another.
use Rattle.std.proofs.Common.{◌≡◌, ℕ, ◌+◌, ◌<◌, List, ◌++◌, length, map, take, drop, set, get_or, sym, subst, ap, ◌∙◌, append-nil, arith}
use Rattle.std.proofs.lemmas.List.{map-set, get_or-map, length-map, take_all, drop_all}
use Rattle.std.proofs.lemmas.List.Edits.{map_over_more}
use Rattle.sn_base.specs.declared.event.Event.{Event}
use Rattle.sn_base.specs.declared.event.Answer.{Answer}
use Rattle.sn_probe.specs.Probes.{Meter, told_of}

-- the first so many of some probes were told, and the others not yet
abbrev pub IsToldUpTo : {B : Type 0} → (B → Meter) → (Meter → Meter) → ℕ → List B → List B → Type 0
IsToldUpTo meter f i old now = map meter now ≡ map f (take i (map meter old)) ++ drop i (map meter old)

pub told-one : (old new : Meter) (number : ℕ) (event : Event) (answer : Answer) → new.tally ≡ old.step old.tally number event answer →
    new.first ≡ old.first → new.step ≡ old.step → new ≡ told_of number event answer old
told-one old new number event answer tally first step =
    ap (λ t. record new { tally = t }) tally
    ∙ ap (λ t. record new { tally = old.step old.tally number event answer; first = t }) first
    ∙ ap (λ t. record { first = old.first; tally = old.step old.tally number event answer; step = t }) step

pub told-next : {B : Type 0} (meter : B → Meter) (f : Meter → Meter) (i : ℕ) (old now : List B) (a b : B) → i < length old →
    i < length now → a ≡ get_or now i a → meter b ≡ f (meter a) → IsToldUpTo meter f i old now →
    IsToldUpTo meter f (i + 1) old (set now i b)
told-next meter f i old now a b below there read is h =
    map-set meter now i b ∙ ap (set (map meter now) i) is
    ∙ map_over_more f (map meter old) (map meter now) i (meter a) (subst (λ n. i < n) (sym (length-map old meter)) below) h
    (ap meter read ∙ sym (get_or-map meter now i a (meter a) there))

pub told-all : {B : Type 0} (meter : B → Meter) (f : Meter → Meter) (i : ℕ) (old new : List B) → length old ≡ i →
    IsToldUpTo meter f i old new → map meter new ≡ map f (map meter old)
told-all meter f i old new e h =
    let short : length (map meter old) ≡ i = length-map old meter ∙ e in
    h ∙ ap (λ t. map f t ++ drop i (map meter old)) (take_all i (map meter old) (omega (arith, short)))
    ∙ ap (λ t. map f (map meter old) ++ t) (drop_all i (map meter old) (omega (arith, short))) ∙ append-nil (map f (map meter old))
