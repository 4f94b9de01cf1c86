-- The lists of what waits, in the machine's words.
use Rattle.std.proofs.Common.{◌≡◌, ℕ, ◌+◌, ◌≤◌, Bool, true, false, not, ◌&&◌, cond, List, [], ◌∷◌, ◌++◌, map, filter, length, Option, Some}
use Rattle.std.proofs.Common.{None, option_to_list, refl, sym, ap, ◌∙◌, arith, if◌then◌else◌}
use Rattle.std.specs.Prelude.{nat_eq, is_some}
use Rattle.std.specs.List.{All}
use Rattle.std.proofs.lemmas.List.Elements.{All-head, All-tail, All-nil, All-cons}
use Rattle.rv_core.specs.declared.step.Record.{Record}
use Rattle.rv_core.specs.Execution.{in_of}
use Rattle.interval_list.specs.declared.Waiting.{Waiting}
use Rattle.interval_list.specs.WaitingList.{entries_in, entries_below, waiting_from, waiting_below}
use Rattle.interval_list.proofs.Intervals.{below-next, from-next, below-none}
use Rattle.sn_history.specs.History.{HistoryData, reads_of, pending_records}
use Rattle.sn_history.specs.History as history
use Rattle.sn_history.proofs.Counts.{reads-append}
use Rattle.sn_model.specs.Machine.{Retirement, HeldByte}
use Rattle.sn_model.specs.Instructions.{records_of, taken_by}
use Rattle.sn_model.specs.MachineEvents.{bytes_of}
use Rattle.sn_machine.specs.declared.hardware.Hardware.{Hardware}
use Rattle.sn_machine.specs.Parts.{retirement_as, held_as, state_of}

-- entries that wait, in words of the machine that give each its interval and what it is
module _ {T M : Type 0} (shown : Waiting T → M) (interval_of : M → ℕ) (entry_of : M → T) (same : (w : Waiting T) → interval_of (shown w) ≡ w.interval) (is : (w : Waiting T) → entry_of (shown w) ≡ w.entry) where
  reached : (point : ℕ) (ws : List (Waiting T)) → All (λ (m : M). point ≤ interval_of m) (map shown ws) →
      All (λ (w : Waiting T). point ≤ w.interval) ws
  reached point [] all = All-nil (λ (w : Waiting T). point ≤ w.interval)
  reached point (w ∷ ws) all =
      All-cons (λ (v : Waiting T). point ≤ v.interval) w ws
      (let l = All-head (λ (m : M). point ≤ interval_of m) (shown w) (map shown ws) all in omega (arith, l, same w))
      (reached point ws (All-tail (λ (m : M). point ≤ interval_of m) (shown w) (map shown ws) all))

  -- those of an interval, and those that aren't
  those_step : (w : Waiting T) (ws : List (Waiting T)) (ms : List M) → map shown ws ≡ ms → (a b : Bool) → a ≡ b →
      map shown (cond a (w ∷ ws) ws) ≡ cond b (shown w ∷ ms) ms
  those_step w ws ms e true true q = ap (λ xs. shown w ∷ xs) e
  those_step w ws ms e false false q = e
  those_step w ws ms e true false q = cc
  those_step w ws ms e false true q = cc

  others_are : (point : ℕ) (ws : List (Waiting T)) →
      map shown (filter (λ (w : Waiting T). not (nat_eq w.interval point)) ws)
      ≡ filter (λ (m : M). not (nat_eq (interval_of m) point)) (map shown ws)
  others_are point [] = refl
  others_are point (w ∷ ws) =
      those_step w _ _ (others_are point ws) (not (nat_eq w.interval point)) (not (nat_eq (interval_of (shown w)) point))
      (ap (λ i. not (nat_eq i point)) (sym (same w)))

  entries_step : (w : Waiting T) (ws : List (Waiting T)) (ms : List M) → map (λ (v : Waiting T). v.entry) ws ≡ map entry_of ms →
      (a b : Bool) → a ≡ b →
      map (λ (v : Waiting T). v.entry) (cond a (w ∷ ws) ws) ≡ map entry_of (cond b (shown w ∷ ms) ms)
  entries_step w ws ms e true true q = ap (λ x. x ∷ map (λ (v : Waiting T). v.entry) ws) (sym (is w)) ∙ ap (λ xs. entry_of (shown w) ∷ xs) e
  entries_step w ws ms e false false q = e
  entries_step w ws ms e true false q = cc
  entries_step w ws ms e false true q = cc

  entries_are : (point : ℕ) (ws : List (Waiting T)) →
      entries_in point ws ≡ map entry_of (filter (λ (m : M). nat_eq (interval_of m) point) (map shown ws))
  entries_are point [] = refl
  entries_are point (w ∷ ws) =
      entries_step w _ _ (entries_are point ws) (nat_eq w.interval point) (nat_eq (interval_of (shown w)) point)
      (ap (λ i. nat_eq i point) (sym (same w)))

  -- where none is below the point, what stays above it is what isn't of it, what is committed is what is of it, and nothing is below it
  module _ (point : ℕ) (ws : List (Waiting T)) (all : All (λ (m : M). point ≤ interval_of m) (map shown ws)) where
    pub later : map shown (waiting_from (point + 1) ws) ≡ filter (λ (m : M). not (nat_eq (interval_of m) point)) (map shown ws)
    later = ap (map shown) (from-next point ws (reached point ws all)) ∙ others_are point ws

    pub committed : entries_below (point + 1) ws ≡ map entry_of (filter (λ (m : M). nat_eq (interval_of m) point) (map shown ws))
    committed = below-next point ws (reached point ws all) ∙ entries_are point ws

    pub dropped : waiting_below point ws ≡ []
    dropped = below-none point ws (reached point ws all)

-- records that are pending, and bytes that are held

pub pending-later : (point : ℕ) (ps : List (Waiting Record)) → All (λ (r : Retirement). point ≤ r.interval) (map retirement_as ps) →
    map retirement_as (waiting_from (point + 1) ps) ≡ filter (λ r. not (nat_eq r.interval point)) (map retirement_as ps)
pending-later = later retirement_as (λ r. r.interval) (λ r. r.did) (λ w. refl) (λ w. refl)

pub records-next : (point : ℕ) (ps : List (Waiting Record)) → All (λ (r : Retirement). point ≤ r.interval) (map retirement_as ps) →
    entries_below (point + 1) ps ≡ records_of (filter (λ r. nat_eq r.interval point) (map retirement_as ps))
records-next = committed retirement_as (λ r. r.interval) (λ r. r.did) (λ w. refl) (λ w. refl)

pub held-later : (point : ℕ) (hs : List (Waiting ℕ)) → All (λ (b : HeldByte). point ≤ b.interval) (map held_as hs) →
    map held_as (waiting_from (point + 1) hs) ≡ filter (λ b. not (nat_eq b.interval point)) (map held_as hs)
held-later = later held_as (λ b. b.interval) (λ b. b.byte) (λ w. refl) (λ w. refl)

pub bytes-next : (point : ℕ) (hs : List (Waiting ℕ)) → All (λ (b : HeldByte). point ≤ b.interval) (map held_as hs) →
    entries_below (point + 1) hs ≡ bytes_of (filter (λ b. nat_eq b.interval point) (map held_as hs))
bytes-next = committed held_as (λ b. b.interval) (λ b. b.byte) (λ w. refl) (λ w. refl)

pub held-dropped : (point : ℕ) (hs : List (Waiting ℕ)) → All (λ (b : HeldByte). point ≤ b.interval) (map held_as hs) →
    waiting_below point hs ≡ []
held-dropped = dropped held_as (λ b. b.interval) (λ b. b.byte) (λ w. refl) (λ w. refl)

-- how many bytes of input a node has taken

read_step : (own : Bool) (read : Option ℕ) (one rest : ℕ) (bytes : List ℕ) → one ≡ 0 + cond (own && is_some read) 1 0 →
    rest ≡ length bytes → one + rest ≡ length ((if own then option_to_list read else []) ++ bytes)
read_step true None one rest bytes o e = omega (arith, o, e)
read_step true (Some byte) one rest bytes o e = omega (arith, o, e)
read_step false read one rest bytes o e = omega (arith, o, e)

pub reads-are_in : (n : ℕ) (rs : List Record) → reads_of n rs ≡ length (in_of n rs)
reads-are_in n [] = refl
reads-are_in n (r ∷ rs) =
    reads-append n (r ∷ []) rs
    ∙ read_step (nat_eq r.core n) r.read (reads_of n (r ∷ [])) (reads_of n rs) (in_of n rs) refl (reads-are_in n rs)

records_as : (ps : List (Waiting Record)) → pending_records ps ≡ records_of (map retirement_as ps)
records_as [] = refl
records_as (p ∷ ps) = ap (λ rs. p.entry ∷ rs) (records_as ps)

pub taken-is : (h : Hardware) (n : ℕ) → history.taken_by h.history n ≡ taken_by (state_of h) n
taken-is h n =
    let a = reads-are_in n h.history.committed in
    let b = reads-are_in n (pending_records h.history.pending) ∙ ap (λ rs. length (in_of n rs)) (records_as h.history.pending) in
    omega (arith, a, b)
