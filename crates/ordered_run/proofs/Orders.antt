-- The journal of an order, turn by turn and to its end.
use Rattle.std.proofs.Common.{◌≡◌, ◌⊎◌, inl, inr, ⊎_elim, ℕ, zero, suc, ◌+◌, ◌-◌, ◌≤◌, Bool, true, false, ◌||◌, nat_le, if◌then◌else◌}
use Rattle.std.proofs.Common.{List, [], ◌∷◌, ◌++◌, length, Option, Some, None, is_some, refl, sym, ap, ◌∙◌, arith, length-append}
use Rattle.std.proofs.lemmas.Bool.Decides.{nat_tests}
use Rattle.sn_base.specs.declared.event.Event.{Event}
use Rattle.due_events.specs.Due.{is_over, due_of}
use Rattle.run_journals.specs.declared.entry.JournalEntry.{JournalEntry}
use Rattle.run_journals.specs.Journal.{Began, entry_of, state_of, numbers_of}
use Rattle.node_run.specs.Finish.{Finish}
use Rattle.node_run.specs.Finish.TheVariants.{Over}
use Rattle.node_run.specs.Shared.{cut_off_or_spent}
use Rattle.node_run.specs.Finishes.{finish_by}
use Rattle.turn_orders.specs.declared.order.Order.{Order}
use Rattle.ordered_run.specs.Ordered.{next_worker, due_after, with_due, with_turn, journal_after, ordered_journal}

-- no event is due where the machine is over, or nodes are cut off
shut : (b : Bool) (event : Event) → b ≡ true → (if b then None else Some event) ≡ None
shut true event e = refl
shut false event e = absurd cc

abbrev pub IsShut : Began → List JournalEntry → Type 0
IsShut began journal =
    (is_over began.image began.config (state_of began journal) || is_some (numbers_of began journal).cut_off) ≡ true

pub none-due : (began : Began) (journal : List JournalEntry) (worker : ℕ) → IsShut began journal → due_after began journal worker ≡ None
unfolding due_of
none-due began journal worker e =
    shut (is_over began.image began.config (state_of began journal) || is_some (numbers_of began journal).cut_off) _ e

-- there is no turn any more where that is so, or where the budget is spent
no_more : (over : Bool) (cut : Option (ℕ × ℕ)) (spent : Bool) (finish : Finish) →
    (if over then Some Over else cut_off_or_spent cut spent) ≡ Some finish → ((over || is_some cut) ≡ true) ⊎ (spent ≡ true)
no_more true cut spent finish e = inl refl
no_more false (Some nodes) spent finish e = inl refl
no_more false None true finish e = inr refl
no_more false None false finish e = absurd cc

module _ (order : Order) (began : Began) where
  pub ordered-none : (journal : List JournalEntry) → journal ≡ [] → journal ≡ journal_after order began (length journal)
  unfolding journal_after
  ordered-none journal none = none ∙ ap (λ (l : List JournalEntry). journal_after order began (length l)) (sym none)

  -- the turn after a journal of the order
  next-turn : (journal : List JournalEntry) (turns : ℕ) → journal ≡ journal_after order began turns →
      with_turn order began journal ≡ journal_after order began (suc turns)
  unfolding journal_after
  next-turn journal turns is = ap (λ (l : List JournalEntry). with_turn order began l) is

  -- a turn that was had
  pub ordered-snoc : (journal longer : List JournalEntry) (worker : ℕ) (event : Event) → journal ≡ journal_after order began (length journal) →
      worker ≡ next_worker order began journal → due_after began journal worker ≡ Some event →
      longer ≡ journal ++ entry_of worker event ∷ [] → longer ≡ journal_after order began (length longer)
  ordered-snoc journal longer worker event ordered whose due is =
      let many : length longer ≡ suc (length journal) =
      ap (λ (l : List JournalEntry). length l) is ∙ length-append journal (entry_of worker event ∷ []) ∙ omega arith in
      is ∙ ap (λ (o : Option Event). with_due journal worker o) (sym due)
      ∙ ap (λ (w : ℕ). with_due journal w (due_after began journal w)) whose
      ∙ next-turn journal (length journal) ordered ∙ ap (λ (n : ℕ). journal_after order began n) (sym many)

  -- turns in which nothing is due
  idle : (journal : List JournalEntry) → ((worker : ℕ) → due_after began journal worker ≡ None) → with_turn order began journal ≡ journal
  idle journal none = ap (λ (o : Option Event). with_due journal (next_worker order began journal) o) (none (next_worker order began journal))

  pub stays : (journal : List JournalEntry) (turns : ℕ) → journal ≡ journal_after order began turns →
      ((worker : ℕ) → due_after began journal worker ≡ None) → (more all : ℕ) → all ≡ turns + more → journal ≡ journal_after order began all
  stays journal turns is none zero all e = is ∙ ap (λ (n : ℕ). journal_after order began n) (omega (arith, e))
  stays journal turns is none (suc more) all e =
      sym (idle journal none) ∙ next-turn journal (turns + more) (stays journal turns is none more (turns + more) refl)
      ∙ ap (λ (n : ℕ). journal_after order began n) (omega (arith, e))

  -- where there is no turn any more, it is the whole run's
  module _ (journal : List JournalEntry) (ordered : journal ≡ journal_after order began (length journal)) (few : length journal ≤ began.budget) where
    by_rest : IsShut began journal → journal ≡ ordered_journal order began
    by_rest e =
        stays journal (length journal) ordered (λ worker. none-due began journal worker e) (began.budget - length journal) began.budget
        (omega (arith, few))

    by_budget : nat_le began.budget (length journal) ≡ true → journal ≡ ordered_journal order began
    by_budget spent =
        let same : length journal ≡ began.budget = grind (arith, nat_tests, spent, few) in
        ordered ∙ ap (λ (n : ℕ). journal_after order began n) same

    pub whole : (finish : Finish) → finish_by began journal ≡ Some finish → journal ≡ ordered_journal order began
    whole finish is =
        ⊎_elim by_rest by_budget
        (no_more (is_over began.image began.config (state_of began journal)) (numbers_of began journal).cut_off
        (nat_le began.budget (length journal)) finish is)
