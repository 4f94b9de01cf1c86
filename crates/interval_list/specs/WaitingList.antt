-- Entries that wait by interval, and those that are committed.
use Rattle.std.specs.Prelude.{ℕ, zero, suc, List, [], ◌++◌, map, nat_eq, nat_le, nat_lt, refl}
use Rattle.std.specs.List.{filter}
use Rattle.std.specs.Coded.{Coded, code_by, coded×, coded_list, coded_ℕ}
pub use Rattle.interval_list.specs.declared.Waiting.{Waiting}

-- the entries that wait, in the order in which they came, those that are committed, and how many more may come
pub record WaitingList (T : Type 0) : Type 0 where
  pub waiting : List (Waiting T)
  pub committed : List T
  pub room : ℕ

module _ {T : Type 0} where
  abbrev pub waiting_code : Coded T → Coded (Waiting T)
  waiting_code c = code_by (ℕ × T) (coded× coded_ℕ c) (λ w. (w.interval, w.entry)) (λ p. record { interval = p.0; entry = p.1 }) (λ _. refl)

  abbrev pub waiting_list_code : Coded T → Coded (WaitingList T)
  waiting_list_code c =
      code_by
      (List (Waiting T) × (List T × ℕ))
      (coded× (coded_list (waiting_code c)) (coded× (coded_list c) coded_ℕ))
      (λ w. (w.waiting, (w.committed, w.room)))
      (λ p. record { waiting = p.0; committed = p.1.0; room = p.1.1 })
      (λ _. refl)

  -- the entries of one interval, in the order in which they came
  abbrev pub entries_in : ℕ → List (Waiting T) → List T
  entries_in interval waiting = map (λ w. w.entry) (filter (λ w. nat_eq w.interval interval) waiting)

  -- the entries of the intervals below k: those of interval 0, then those of interval 1, and so on
  abbrev pub entries_below : ℕ → List (Waiting T) → List T
  entries_below zero waiting = []
  entries_below (suc k) waiting = entries_below k waiting ++ entries_in k waiting

  -- what waits of the intervals from k on, and of those below it
  abbrev pub waiting_from : ℕ → List (Waiting T) → List (Waiting T)
  waiting_from k waiting = filter (λ w. nat_le k w.interval) waiting

  abbrev pub waiting_below : ℕ → List (Waiting T) → List (Waiting T)
  waiting_below k waiting = filter (λ w. nat_lt w.interval k) waiting
