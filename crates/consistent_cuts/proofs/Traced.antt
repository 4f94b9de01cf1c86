-- What is pending, committed, held and released is made from the retirements along the run.
use Rattle.std.proofs.Common.{◌≡◌, ℕ, zero, suc, ◌+◌, ◌<◌, ◌≤◌, Bool, true, false, not, cond, nat_eq, nat_lt, nat_le, List, [], ◌∷◌, ◌++◌}
use Rattle.std.proofs.Common.{map, filter, Option, Some, None, arith, refl, sym, ap, ◌∙◌}
use Rattle.std.specs.Prelude.{option_to_list, filter_map, flat_map}
use Rattle.std.proofs.lemmas.Bool.Decides.{nat_tests}
use Rattle.std.proofs.lemmas.List.{append-nil, map-append}
use Rattle.std.proofs.lemmas.List.Elements.{filter-append, filter_map-append}
use Rattle.std.proofs.lemmas.Grind.{flat_map-append}
use Rattle.rv_core.specs.declared.step.Record.{Record}
use Rattle.sn_model.specs.Machine.{State, Retirement, HeldByte}
use Rattle.sn_model.specs.Instructions.{held_in, records_of}
use Rattle.sn_model.specs.MachineEvents.{bytes_of}
use Rattle.sn_model.specs.Trace.{TraceEntry, of_interval, below, committed_trace, committed_output}
use Rattle.consistent_cuts.specs.Lists.{not_validated, retirement_of, held_of, IsTraced}

-- what waits of an interval, and what waits of others
abbrev pub in_interval : ℕ → List Retirement → List Retirement
in_interval k pending = filter (λ r. nat_eq r.interval k) pending

abbrev pub elsewhere : ℕ → List Retirement → List Retirement
elsewhere k pending = filter (λ r. not (nat_eq r.interval k)) pending

abbrev pub held_in_interval : ℕ → List HeldByte → List HeldByte
held_in_interval k held = filter (λ b. nat_eq b.interval k) held

abbrev pub held_elsewhere : ℕ → List HeldByte → List HeldByte
held_elsewhere k held = filter (λ b. not (nat_eq b.interval k)) held

-- the interval that the point leaves behind

committed_cons : (point : ℕ) (e : TraceEntry) (rest : List TraceEntry) (before : List Record) →
    records_of (in_interval point (map retirement_of (not_validated point rest))) ≡ before → (is_point reached : Bool) →
    nat_eq e.interval point ≡ is_point → nat_le point e.interval ≡ reached →
    records_of (in_interval point (map retirement_of (cond reached (e ∷ not_validated point rest) (not_validated point rest))))
    ≡ cond is_point (e.did ∷ before) before
committed_cons point e rest before h true true a b = rw a (ap (λ rs. e.did ∷ rs) h)
committed_cons point e rest before h false true a b = rw a h
committed_cons point e rest before h true false a b = absurd (grind (arith, nat_tests, a, b))
committed_cons point e rest before h false false a b = h

map_cond : (is_point : Bool) (e : TraceEntry) (rest : List TraceEntry) →
    map (λ (x : TraceEntry). x.did) (cond is_point (e ∷ rest) rest)
    ≡ cond is_point (e.did ∷ map (λ (x : TraceEntry). x.did) rest) (map (λ (x : TraceEntry). x.did) rest)
map_cond true e rest = refl
map_cond false e rest = refl

pub leaves_records : (point : ℕ) (trace : List TraceEntry) →
    records_of (in_interval point (map retirement_of (not_validated point trace))) ≡ map (λ (e : TraceEntry). e.did) (of_interval trace point)
leaves_records point [] = refl
leaves_records point (e ∷ trace) =
    committed_cons point e trace _ (leaves_records point trace) (nat_eq e.interval point) (nat_le point e.interval) refl refl
    ∙ sym (map_cond (nat_eq e.interval point) e (of_interval trace point))

waiting_cons : (point : ℕ) (e : TraceEntry) (rest : List TraceEntry) →
    elsewhere point (map retirement_of (not_validated point rest)) ≡ map retirement_of (not_validated (point + 1) rest) →
    (reached later : Bool) → nat_le point e.interval ≡ reached → nat_le (point + 1) e.interval ≡ later →
    elsewhere point (map retirement_of (cond reached (e ∷ not_validated point rest) (not_validated point rest)))
    ≡ map retirement_of (cond later (e ∷ not_validated (point + 1) rest) (not_validated (point + 1) rest))
waiting_cons point e rest h true true a b =
    let other : nat_eq e.interval point ≡ false = grind (arith, nat_tests, a, b) in
    rw other (ap (λ rs. retirement_of e ∷ rs) h)
waiting_cons point e rest h true false a b =
    let here : nat_eq e.interval point ≡ true = grind (arith, nat_tests, a, b) in
    rw here h
waiting_cons point e rest h false true a b = absurd (grind (arith, nat_tests, a, b))
waiting_cons point e rest h false false a b = h

pub leaves_waiting : (point : ℕ) (trace : List TraceEntry) →
    elsewhere point (map retirement_of (not_validated point trace)) ≡ map retirement_of (not_validated (point + 1) trace)
leaves_waiting point [] = refl
leaves_waiting point (e ∷ trace) =
    waiting_cons point e trace (leaves_waiting point trace) (nat_le point e.interval) (nat_le (point + 1) e.interval) refl refl

-- the same of the bytes

held_here : (point interval : ℕ) (out : Option ℕ) (rest : List HeldByte) → nat_eq interval point ≡ true →
    bytes_of (held_in_interval point (held_in interval out ++ rest)) ≡ option_to_list out ++ bytes_of (held_in_interval point rest)
held_here point interval None rest is = refl
held_here point interval (Some byte) rest is = rw is refl

held_there : (point interval : ℕ) (out : Option ℕ) (rest : List HeldByte) → nat_eq interval point ≡ false →
    bytes_of (held_in_interval point (held_in interval out ++ rest)) ≡ bytes_of (held_in_interval point rest)
held_there point interval None rest is = refl
held_there point interval (Some byte) rest is = rw is refl

stays_here : (point interval : ℕ) (out : Option ℕ) (rest : List HeldByte) → nat_eq interval point ≡ true →
    held_elsewhere point (held_in interval out ++ rest) ≡ held_elsewhere point rest
stays_here point interval None rest is = refl
stays_here point interval (Some byte) rest is = rw is refl

stays_there : (point interval : ℕ) (out : Option ℕ) (rest : List HeldByte) → nat_eq interval point ≡ false →
    held_elsewhere point (held_in interval out ++ rest) ≡ held_in interval out ++ held_elsewhere point rest
stays_there point interval None rest is = refl
stays_there point interval (Some byte) rest is = rw is refl

pub out_cons : (out : Option ℕ) (e : TraceEntry) (rest : List TraceEntry) → e.out ≡ out →
    filter_map (λ (x : TraceEntry). x.out) (e ∷ rest) ≡ option_to_list out ++ filter_map (λ (x : TraceEntry). x.out) rest
out_cons None e rest is = rw is refl
out_cons (Some byte) e rest is = rw is refl

bytes_cons : (point : ℕ) (e : TraceEntry) (rest same : List TraceEntry) →
    bytes_of (held_in_interval point (flat_map held_of (not_validated point rest))) ≡ filter_map (λ (x : TraceEntry). x.out) same →
    (is_point reached : Bool) → nat_eq e.interval point ≡ is_point → nat_le point e.interval ≡ reached →
    bytes_of (held_in_interval point (flat_map held_of (cond reached (e ∷ not_validated point rest) (not_validated point rest))))
    ≡ filter_map (λ (x : TraceEntry). x.out) (cond is_point (e ∷ same) same)
bytes_cons point e rest same h true true a b =
    held_here point e.interval e.out _ a ∙ ap (λ bs. option_to_list e.out ++ bs) h ∙ sym (out_cons e.out e same refl)
bytes_cons point e rest same h false true a b = held_there point e.interval e.out _ a ∙ h
bytes_cons point e rest same h true false a b = absurd (grind (arith, nat_tests, a, b))
bytes_cons point e rest same h false false a b = h

pub leaves_bytes : (point : ℕ) (trace : List TraceEntry) →
    bytes_of (held_in_interval point (flat_map held_of (not_validated point trace)))
    ≡ filter_map (λ (e : TraceEntry). e.out) (of_interval trace point)
leaves_bytes point [] = refl
leaves_bytes point (e ∷ trace) =
    bytes_cons point e trace _ (leaves_bytes point trace) (nat_eq e.interval point) (nat_le point e.interval) refl refl

held_cons : (point : ℕ) (e : TraceEntry) (rest : List TraceEntry) →
    held_elsewhere point (flat_map held_of (not_validated point rest)) ≡ flat_map held_of (not_validated (point + 1) rest) →
    (reached later : Bool) → nat_le point e.interval ≡ reached → nat_le (point + 1) e.interval ≡ later →
    held_elsewhere point (flat_map held_of (cond reached (e ∷ not_validated point rest) (not_validated point rest)))
    ≡ flat_map held_of (cond later (e ∷ not_validated (point + 1) rest) (not_validated (point + 1) rest))
held_cons point e rest h true true a b =
    let other : nat_eq e.interval point ≡ false = grind (arith, nat_tests, a, b) in
    stays_there point e.interval e.out _ other ∙ ap (λ bs. held_of e ++ bs) h
held_cons point e rest h true false a b =
    let here : nat_eq e.interval point ≡ true = grind (arith, nat_tests, a, b) in
    stays_here point e.interval e.out _ here ∙ h
held_cons point e rest h false true a b = absurd (grind (arith, nat_tests, a, b))
held_cons point e rest h false false a b = h

pub leaves_held : (point : ℕ) (trace : List TraceEntry) →
    held_elsewhere point (flat_map held_of (not_validated point trace)) ≡ flat_map held_of (not_validated (point + 1) trace)
leaves_held point [] = refl
leaves_held point (e ∷ trace) =
    held_cons point e trace (leaves_held point trace) (nat_le point e.interval) (nat_le (point + 1) e.interval) refl refl

-- what stands in the trace below an interval, where it grows at its end

pub of_other : (xs : List TraceEntry) (x : TraceEntry) (k : ℕ) → nat_eq x.interval k ≡ false → of_interval (xs ++ x ∷ []) k ≡ of_interval xs k
of_other xs x k differs = filter-append (λ (y : TraceEntry). nat_eq y.interval k) xs (x ∷ []) ∙ rw differs (append-nil (of_interval xs k))

pub of_same : (xs : List TraceEntry) (x : TraceEntry) (k : ℕ) → nat_eq x.interval k ≡ true →
    of_interval (xs ++ x ∷ []) k ≡ of_interval xs k ++ x ∷ []
of_same xs x k same = filter-append (λ (y : TraceEntry). nat_eq y.interval k) xs (x ∷ []) ∙ rw same refl

push_low : (xs : List TraceEntry) (x : TraceEntry) (j : ℕ) → j ≤ x.interval → below (xs ++ x ∷ []) j ≡ below xs j
push_low xs x zero low = refl
push_low xs x (suc j) low =
    let differs : nat_eq x.interval j ≡ false = grind (arith, nat_tests, low) in
    ap (λ t. t ++ of_interval (xs ++ x ∷ []) j) (push_low xs x j (omega (arith, low))) ∙ ap (λ t. below xs j ++ t) (of_other xs x j differs)

-- an instruction more, of an interval from the point on
module _ (trace : List TraceEntry) (s new : State) (e : TraceEntry) (made : IsTraced s trace) (reached : s.fabric.point ≤ e.interval) (point : new.fabric.point ≡ s.fabric.point) where
  made_since : not_validated s.fabric.point (trace ++ e ∷ []) ≡ not_validated s.fabric.point trace ++ e ∷ []
  made_since =
      let is : nat_le s.fabric.point e.interval ≡ true = grind (arith, nat_tests, reached) in
      filter-append (λ (x : TraceEntry). nat_le s.fabric.point x.interval) trace (e ∷ []) ∙ rw is refl

  made_below : below (trace ++ e ∷ []) s.fabric.point ≡ below trace s.fabric.point
  made_below = push_low trace e s.fabric.point reached

  pub traced_retired : new.committed ≡ s.committed → new.released ≡ s.released → new.pending ≡ s.pending ++ retirement_of e ∷ [] →
      new.held ≡ s.held ++ held_of e → IsTraced new (trace ++ e ∷ [])
  traced_retired committed released pending held = record {
    committed =
        committed ∙ made.committed ∙ ap (map (λ (x : TraceEntry). x.did)) (sym made_below)
        ∙ ap (committed_trace (trace ++ e ∷ [])) (sym point);
    released =
        released ∙ made.released ∙ ap (filter_map (λ (x : TraceEntry). x.out)) (sym made_below)
        ∙ ap (committed_output (trace ++ e ∷ [])) (sym point);
    pending =
        pending ∙ ap (λ ps. ps ++ retirement_of e ∷ []) made.pending
        ∙ sym (map-append retirement_of (not_validated s.fabric.point trace) (e ∷ [])) ∙ ap (map retirement_of) (sym made_since)
        ∙ ap (λ (k : ℕ). map retirement_of (not_validated k (trace ++ e ∷ []))) (sym point);
    held =
        held ∙ ap (λ hs. hs ++ held_of e) made.held
        ∙ ap (λ hs. flat_map held_of (not_validated s.fabric.point trace) ++ hs) (sym (append-nil (held_of e)))
        ∙ sym (flat_map-append held_of (not_validated s.fabric.point trace) (e ∷ [])) ∙ ap (flat_map held_of) (sym made_since)
        ∙ ap (λ (k : ℕ). flat_map held_of (not_validated k (trace ++ e ∷ []))) (sym point);
  }

-- the point rises by one
module _ (trace : List TraceEntry) (s new : State) (made : IsTraced s trace) (point : new.fabric.point ≡ s.fabric.point + 1) where
  next : s.fabric.point + 1 ≡ suc s.fabric.point
  next = omega arith

  -- what is committed and released then
  pub newly_committed : records_of (in_interval s.fabric.point s.pending) ≡ map (λ (e : TraceEntry). e.did) (of_interval trace s.fabric.point)
  newly_committed = ap (λ ps. records_of (in_interval s.fabric.point ps)) made.pending ∙ leaves_records s.fabric.point trace

  pub newly_released : bytes_of (held_in_interval s.fabric.point s.held)
      ≡ filter_map (λ (e : TraceEntry). e.out) (of_interval trace s.fabric.point)
  newly_released = ap (λ hs. bytes_of (held_in_interval s.fabric.point hs)) made.held ∙ leaves_bytes s.fabric.point trace

  pub traced_validated : new.committed ≡ s.committed ++ records_of (in_interval s.fabric.point s.pending) →
      new.released ≡ s.released ++ bytes_of (held_in_interval s.fabric.point s.held) →
      new.pending ≡ elsewhere s.fabric.point s.pending → new.held ≡ held_elsewhere s.fabric.point s.held → IsTraced new trace
  traced_validated committed released pending held = record {
    committed =
        committed ∙ ap (λ rs. s.committed ++ rs) newly_committed
        ∙ ap (λ cs. cs ++ map (λ (e : TraceEntry). e.did) (of_interval trace s.fabric.point)) made.committed
        ∙ sym (map-append (λ (e : TraceEntry). e.did) (below trace s.fabric.point) (of_interval trace s.fabric.point))
        ∙ ap (committed_trace trace) (sym next) ∙ ap (committed_trace trace) (sym point);
    released =
        released ∙ ap (λ rs. s.released ++ rs) newly_released
        ∙ ap (λ cs. cs ++ filter_map (λ (e : TraceEntry). e.out) (of_interval trace s.fabric.point)) made.released
        ∙ sym (filter_map-append (λ (e : TraceEntry). e.out) (below trace s.fabric.point) (of_interval trace s.fabric.point))
        ∙ ap (committed_output trace) (sym next) ∙ ap (committed_output trace) (sym point);
    pending =
        pending ∙ ap (elsewhere s.fabric.point) made.pending ∙ leaves_waiting s.fabric.point trace
        ∙ ap (λ (k : ℕ). map retirement_of (not_validated k trace)) (sym point);
    held =
        held ∙ ap (held_elsewhere s.fabric.point) made.held ∙ leaves_held s.fabric.point trace
        ∙ ap (λ (k : ℕ). flat_map held_of (not_validated k trace)) (sym point);
  }

-- a recovery to the point
abbrev pub before : ℕ → List TraceEntry → List TraceEntry
before point trace = filter (λ (e : TraceEntry). nat_lt e.interval point) trace

before_cons : (point k : ℕ) (e : TraceEntry) (rest : List TraceEntry) → k < point → of_interval (before point rest) k ≡ of_interval rest k →
    (is earlier : Bool) → nat_eq e.interval k ≡ is → nat_lt e.interval point ≡ earlier →
    of_interval (cond earlier (e ∷ before point rest) (before point rest)) k ≡ cond is (e ∷ of_interval rest k) (of_interval rest k)
before_cons point k e rest low h true true a b = rw a (ap (λ es. e ∷ es) h)
before_cons point k e rest low h false true a b = rw a h
before_cons point k e rest low h true false a b = absurd (grind (arith, nat_tests, a, b, low))
before_cons point k e rest low h false false a b = h

pub before_same : (point k : ℕ) → k < point → (trace : List TraceEntry) → of_interval (before point trace) k ≡ of_interval trace k
before_same point k low [] = refl
before_same point k low (e ∷ trace) =
    before_cons point k e trace low (before_same point k low trace) (nat_eq e.interval k) (nat_lt e.interval point) refl refl

before_none_cons : (point k : ℕ) (e : TraceEntry) (rest : List TraceEntry) → point ≤ k → of_interval (before point rest) k ≡ [] →
    (earlier : Bool) → nat_lt e.interval point ≡ earlier → of_interval (cond earlier (e ∷ before point rest) (before point rest)) k ≡ []
before_none_cons point k e rest high h true a =
    let no : nat_eq e.interval k ≡ false = grind (arith, nat_tests, a, high) in
    rw no h
before_none_cons point k e rest high h false a = h

pub before_none : (point k : ℕ) → point ≤ k → (trace : List TraceEntry) → of_interval (before point trace) k ≡ []
before_none point k high [] = refl
before_none point k high (e ∷ trace) = before_none_cons point k e trace high (before_none point k high trace) (nat_lt e.interval point) refl

before_below : (point : ℕ) (trace : List TraceEntry) (j : ℕ) → j ≤ point → below (before point trace) j ≡ below trace j
before_below point trace zero low = refl
before_below point trace (suc j) low =
    ap (λ es. es ++ of_interval (before point trace) j) (before_below point trace j (omega (arith, low)))
    ∙ ap (λ es. below trace j ++ es) (before_same point j (omega (arith, low)) trace)

none_cons : (point : ℕ) (e : TraceEntry) (rest : List TraceEntry) → not_validated point (before point rest) ≡ [] → (earlier : Bool) →
    nat_lt e.interval point ≡ earlier → not_validated point (cond earlier (e ∷ before point rest) (before point rest)) ≡ []
none_cons point e rest h true a =
    let no : nat_le point e.interval ≡ false = grind (arith, nat_tests, a) in
    rw no h
none_cons point e rest h false a = h

none_since : (point : ℕ) (trace : List TraceEntry) → not_validated point (before point trace) ≡ []
none_since point [] = refl
none_since point (e ∷ trace) = none_cons point e trace (none_since point trace) (nat_lt e.interval point) refl

pub traced_recovered : (trace : List TraceEntry) (s new : State) → IsTraced s trace → new.fabric.point ≡ s.fabric.point →
    new.committed ≡ s.committed → new.released ≡ s.released → new.pending ≡ [] → new.held ≡ [] → IsTraced new (before s.fabric.point trace)
traced_recovered trace s new made point committed released pending held = record {
  committed =
      committed ∙ made.committed ∙ ap (map (λ (e : TraceEntry). e.did)) (sym (before_below s.fabric.point trace s.fabric.point (omega arith)))
      ∙ ap (committed_trace (before s.fabric.point trace)) (sym point);
  released =
      released ∙ made.released
      ∙ ap (filter_map (λ (e : TraceEntry). e.out)) (sym (before_below s.fabric.point trace s.fabric.point (omega arith)))
      ∙ ap (committed_output (before s.fabric.point trace)) (sym point);
  pending =
      pending ∙ ap (map retirement_of) (sym (none_since s.fabric.point trace))
      ∙ ap (λ (k : ℕ). map retirement_of (not_validated k (before s.fabric.point trace))) (sym point);
  held =
      held ∙ ap (flat_map held_of) (sym (none_since s.fabric.point trace))
      ∙ ap (λ (k : ℕ). flat_map held_of (not_validated k (before s.fabric.point trace))) (sym point);
}

-- an event that leaves these lists
pub traced_same : (trace : List TraceEntry) (s new : State) → IsTraced s trace → new.fabric.point ≡ s.fabric.point →
    new.committed ≡ s.committed → new.released ≡ s.released → new.pending ≡ s.pending → new.held ≡ s.held → IsTraced new trace
traced_same trace s new made point committed released pending held = record {
  committed = committed ∙ made.committed ∙ ap (committed_trace trace) (sym point);
  released = released ∙ made.released ∙ ap (committed_output trace) (sym point);
  pending = pending ∙ made.pending ∙ ap (λ (k : ℕ). map retirement_of (not_validated k trace)) (sym point);
  held = held ∙ made.held ∙ ap (λ (k : ℕ). flat_map held_of (not_validated k trace)) (sym point);
}
