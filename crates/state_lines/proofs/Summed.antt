-- How the texts of the summary go on: cores, the numbers of a probe, and the probes.
use Rattle.std.proofs.Common.{◌≡◌, ℕ, zero, suc, ◌+◌, ◌<◌, ◌≤◌, Bool, true, false, List, [], ◌∷◌, ◌++◌, take, length, get_or}
use Rattle.std.proofs.Common.{Option, Some, None, refl, ap, sym, subst, ◌∙◌, arith}
use Rattle.std.specs.Prelude.{codes, map, slice_get, IfSome}
use Rattle.std.proofs.lemmas.List.{take_more, take_all, map-append, length-map}
use Rattle.std.proofs.lemmas.Option.{slice_get_within, slice_get-get_or}
use Rattle.rv_core.specs.Core.{bare}
use Rattle.rv_core.specs.Flat.{FlatState, core_at}
use Rattle.sn_probe.specs.Probes.{Meter, tallies_of}
use Rattle.state_json.specs.Json.{comma_after, with_commas, large}
use Rattle.state_json.specs.Values.{core_text}
use Rattle.state_json.specs.Lines.{core_texts, tally_text}
use Rattle.state_texts.proofs.Lists.{AreBehind, none-behind, more}
use Rattle.state_lines.proofs.Added.{behind-one}

cores-more : (i m : ℕ) (flat : FlatState) → m ≡ suc i → core_texts m flat ≡ core_texts i flat ++ core_text (bare (core_at flat i)) ∷ []
cores-more i m flat e = rw e refl

pub cores-next : (start old comma new : List ℕ) (i : ℕ) (flat : FlatState) (others : Bool) → AreBehind start old (core_texts i flat) others →
    comma ≡ old ++ comma_after others → new ≡ comma ++ core_text (bare (core_at flat i)) →
    AreBehind start new (core_texts (i + 1) flat) true
cores-next start old comma new i flat others before e f =
    let next : i + 1 ≡ suc i = omega arith in
    subst (λ t. AreBehind start new t true) (sym (cores-more i (i + 1) flat next))
    (behind-one start old comma new (core_text (bare (core_at flat i))) (core_texts i flat) others before e f)

-- the first so many numbers of a probe are told
pub record AreTold (start : List ℕ) (place : ℕ) (text : List ℕ) (others : Bool) (m : Meter) : Type 0 where
  pub there : place ≤ length m.tally
  pub behind : AreBehind start text (map large (take place m.tally)) others

pub numbers-none : (found : Option Meter) (start : List ℕ) → IfSome found (AreTold start 0 start false)
numbers-none None start = tt
numbers-none (Some m) start = record { there = omega arith; behind = none-behind start }

numbers-more : (tally : List ℕ) (place value : ℕ) → slice_get tally place ≡ Some value →
    map large (take (place + 1) tally) ≡ map large (take place tally) ++ large value ∷ []
numbers-more tally place value found =
    let below : place < length tally = slice_get_within tally place value found in
    let read : Some (get_or tally place value) ≡ Some value = sym (slice_get-get_or tally place value below) ∙ found in
    let same : get_or tally place value ≡ value = cc in
    ap (map large) (take_more tally place value below ∙ ap (λ v. take place tally ++ v ∷ []) same)
    ∙ map-append large (take place tally) (value ∷ [])

pub numbers-next : (found : Option Meter) (start old comma new : List ℕ) (place value : ℕ) (said : Option ℕ) (others : Bool) →
    IfSome found (λ m. said ≡ slice_get m.tally place) → said ≡ Some value → comma ≡ old ++ comma_after others → new ≡ comma ++ large value →
    IfSome found (AreTold start place old others) → IfSome found (AreTold start (place + 1) new true)
numbers-next None start old comma new place value said others reads is e f h = tt
numbers-next (Some m) start old comma new place value said others reads is e f h =
    let found : slice_get m.tally place ≡ Some value = sym reads ∙ is in
    let below : place < length m.tally = slice_get_within m.tally place value found in
    record {
      there = omega (arith, below);
      behind = subst (λ t. AreBehind start new t true) (sym (numbers-more m.tally place value found))
          (behind-one start old comma new (large value) (map large (take place m.tally)) others h.behind e f);
    }

past-end : (xs : List ℕ) (i : ℕ) → slice_get xs i ≡ None → length xs ≤ i
past-end [] i none = omega arith
past-end (x ∷ xs) zero none = cc
past-end (x ∷ xs) (suc i) none = let short : length xs ≤ i = past-end xs i none in omega (arith, short)

said-none : (said : Option ℕ) → ((value : ℕ) → said ≡ Some value → ⊥) → said ≡ None
said-none None never = refl
said-none (Some value) never = absurd (never value refl)

pub numbers-end : (found : Option Meter) (start text : List ℕ) (place most : ℕ) (said : Option ℕ) (others : Bool) → place ≤ most →
    IfSome found (λ m. said ≡ slice_get m.tally place) → ((value : ℕ) → said ≡ Some value → ⊥) →
    IfSome found (AreTold start place text others) → IfSome found (λ m. text ≡ start ++ with_commas false (map large (take most m.tally)))
numbers-end None start text place most said others few reads never h = tt
numbers-end (Some m) start text place most said others few reads never h =
    let short : length m.tally ≤ place = past-end m.tally place (sym reads ∙ said-none said never) in
    h.behind.same
    ∙ ap (λ t. start ++ with_commas false (map large t)) (take_all place m.tally short ∙ sym (take_all most m.tally (omega (arith, short, few))))

pub numbers-most : (found : Option Meter) (start text : List ℕ) (place most : ℕ) (others : Bool) → place ≡ most →
    IfSome found (AreTold start place text others) → IfSome found (λ m. text ≡ start ++ with_commas false (map large (take most m.tally)))
numbers-most None start text place most others e h = tt
numbers-most (Some m) start text place most others e h =
    h.behind.same ∙ ap (λ n. start ++ with_commas false (map large (take n m.tally))) e

-- a probe's numbers with what stands round them
pub tally-whole : (found : Option Meter) (start opened listed new : List ℕ) → opened ≡ start ++ codes "[" →
    IfSome found (λ m. listed ≡ opened ++ with_commas false (map large (take 16 m.tally))) → new ≡ listed ++ codes "]" →
    IfSome found (λ m. new ≡ start ++ tally_text m.tally)
tally-whole None start opened listed new e f g = tt
tally-whole (Some m) start opened listed new e f g =
    let numbers : List ℕ = with_commas false (map large (take 16 m.tally)) in
    more start listed new (codes "[" ++ numbers) (codes "]") (more start opened listed (codes "[") numbers e f) g

-- the probes

taken : (meters : List Meter) (i : ℕ) → i < length meters →
    (m : Meter) × (slice_get meters i ≡ Some m) × (take (suc i) (tallies_of meters) ≡ take i (tallies_of meters) ++ m.tally ∷ [])
taken [] i b = absurd (omega (arith, b))
taken (m ∷ meters) zero b = (m, refl, refl)
taken (m ∷ meters) (suc i) b =
    let more = taken meters i (omega (arith, b)) in
    (more.0, more.1, ap (λ t. m.tally ∷ t) more.2)

pub tallies-next : {B : Type 0} (meter : B → Meter) (boxes : List B) (i : ℕ) (start old comma new : List ℕ) (others : Bool) → i < length boxes →
    AreBehind start old (map tally_text (take i (tallies_of (map meter boxes)))) others → comma ≡ old ++ comma_after others →
    IfSome (slice_get (map meter boxes) i) (λ m. new ≡ comma ++ tally_text m.tally) →
    AreBehind start new (map tally_text (take (i + 1) (tallies_of (map meter boxes)))) true
tallies-next meter boxes i start old comma new others below before e f =
    let meters : List Meter = map meter boxes in
    let there : i < length meters = omega (arith, below, length-map boxes meter) in
    let next : suc i ≡ i + 1 = omega arith in
    let one = taken meters i there in
    let put : new ≡ comma ++ tally_text (one.0).tally =
    subst (λ (o : Option Meter). IfSome o (λ m. new ≡ comma ++ tally_text m.tally)) one.1 f in
    subst (λ n. AreBehind start new (map tally_text (take n (tallies_of meters))) true) next
    (subst (λ t. AreBehind start new t true)
    (sym (ap (map tally_text) one.2 ∙ map-append tally_text (take i (tallies_of meters)) ((one.0).tally ∷ [])))
    (behind-one start old comma new (tally_text (one.0).tally) (map tally_text (take i (tallies_of meters))) others before e put))
