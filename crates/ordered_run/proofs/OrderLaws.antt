-- What follows from the definition of an order's journal.
use Rattle.std.proofs.Common.{◌≡◌, ◌⊎◌, inl, inr, ℕ, zero, suc, ◌<◌, Bool, true, false, ◌||◌, nat_le, nat_lt, if◌then◌else◌}
use Rattle.std.proofs.Common.{List, [], ◌∷◌, ◌++◌, length, get_or, Option, Some, None, is_some, IsSome, refl, sym, ap, subst, ◌∙◌, arith, length-append}
use Rattle.std.specs.Prelude.{option_and_then, unwrap_or}
use Rattle.std.proofs.lemmas.Bool.Decides.{nat_tests}
use Rattle.std.proofs.lemmas.Grind.{common_steps}
use Rattle.rv_core.specs.Flat.{FlatState}
use Rattle.sn_base.specs.declared.event.Event.{Event}
use Rattle.sn_probe.specs.Probes.{Meter}
use Rattle.sink_pieces.specs.Pieces.{Ends}
use Rattle.due_events.specs.Due.{is_over, due_of}
use Rattle.run_journals.specs.declared.entry.JournalEntry.{JournalEntry}
use Rattle.run_journals.specs.Journal.{Began, IsDue, draws_of, entry_of, state_of, numbers_of}
use Rattle.run_journals.proofs.Dues.{IsDue-snoc}
use Rattle.node_run.specs.Finish.TheVariants.{Over}
use Rattle.node_run.specs.Shared.{cut_off_or_spent}
use Rattle.node_run.specs.declared.ending.Ending.{Ending}
use Rattle.node_run.specs.declared.job.Run.{Run}
use Rattle.node_run.specs.Endings.{ending_by, flat_after}
use Rattle.turn_orders.specs.declared.order.Order.{Order}
use Rattle.turn_orders.specs.Orders.{worker_of}
use Rattle.ordered_run.specs.Ordered.{next_worker, due_after, with_due, journal_after, ordered_journal, ordered_end}
use Rattle.ordered_run.specs.Shown.{IsDone}
use Rattle.ordered_run.proofs.Orders.{IsShut, none-due}

pub done-same : (order : Order) (r : Run) (probes : List Meter) (ending other : Ending) (before x y : Ends) (told known : List Meter) →
    IsDone order r probes ending before x told → IsDone order r probes other before y known →
    (ending ≡ other) × (x ≡ y) × (told ≡ known)
done-same order r probes ending other before x y told known h k = (
  ap (λ (o : Option Ending). unwrap_or o ending) (sym h.0.ended ∙ k.0.ended),
  h.0.put ∙ sym k.0.put,
  h.1 ∙ sym k.1,
)

module _ (order : Order) (began : Began) where
  -- it is due
  due-none : IsDue began []
  unfolding IsDue draws_of
  due-none = refl

  due-with : (journal : List JournalEntry) (worker : ℕ) (o : Option Event) → due_after began journal worker ≡ o → IsDue began journal →
      IsDue began (with_due journal worker o)
  due-with journal worker None e h = h
  due-with journal worker (Some event) e h = IsDue-snoc began journal worker event h e

  pub due-ordered : (turns : ℕ) → IsDue began (journal_after order began turns)
  unfolding journal_after
  due-ordered zero = due-none
  due-ordered (suc turns) =
      let journal = journal_after order began turns in
      due-with journal (next_worker order began journal) (due_after began journal (next_worker order began journal)) refl (due-ordered turns)

  -- its turns are the order's
  abbrev HasWorkers : List JournalEntry → Type 0
  HasWorkers journal = (i : ℕ) (d : JournalEntry) → i < length journal →
      (get_or journal i d).worker ≡ worker_of order began.seed began.config.nodes i

  workers-snoc : (journal : List JournalEntry) (event : Event) → HasWorkers journal →
      HasWorkers (journal ++ entry_of (next_worker order began journal) event ∷ [])
  workers-snoc journal event has i d l = at (nat_lt i (length journal)) refl
    where
      entry : JournalEntry
      entry = entry_of (next_worker order began journal) event

      at : (b : Bool) → nat_lt i (length journal) ≡ b →
          (get_or (journal ++ entry ∷ []) i d).worker ≡ worker_of order began.seed began.config.nodes i
      at true before = let below : i < length journal = grind (arith, nat_tests, before) in let r = has i d below in grind (arith, common_steps, below, r)
      at false before =
          let many = length-append journal (entry ∷ []) in
          let last : i ≡ length journal = grind (arith, nat_tests, before, many, l) in
          subst (λ (k : ℕ). (get_or (journal ++ entry ∷ []) k d).worker ≡ worker_of order began.seed began.config.nodes k) (sym last)
          (grind (arith, common_steps))

  workers-with : (journal : List JournalEntry) (o : Option Event) → HasWorkers journal →
      HasWorkers (with_due journal (next_worker order began journal) o)
  workers-with journal None has = has
  workers-with journal (Some event) has = workers-snoc journal event has

  pub workers-ordered : (turns : ℕ) → HasWorkers (journal_after order began turns)
  unfolding journal_after
  workers-ordered zero = λ i d l. absurd (omega (arith, l))
  workers-ordered (suc turns) =
      let journal = journal_after order began turns in
      workers-with journal (due_after began journal (next_worker order began journal)) (workers-ordered turns)

  -- it has as many turns as it may, or no event is due any more
  shut-of : (b : Bool) (event : Event) → (if b then None else Some event) ≡ None → b ≡ true
  shut-of true event e = refl
  shut-of false event e = absurd cc

  is-shut : (journal : List JournalEntry) (worker : ℕ) → due_after began journal worker ≡ None → IsShut began journal
  unfolding due_of
  is-shut journal worker e =
      shut-of (is_over began.image began.config (state_of began journal) || is_some (numbers_of began journal).cut_off) _ e

  abbrev IsFull : List JournalEntry → ℕ → Type 0
  IsFull journal turns = (length journal ≡ turns) ⊎ IsShut began journal

  full-with : (journal : List JournalEntry) (turns worker : ℕ) (o : Option Event) → due_after began journal worker ≡ o →
      IsFull journal turns → IsFull (with_due journal worker o) (suc turns)
  full-with journal turns worker None e h = inr (is-shut journal worker e)
  full-with journal turns worker (Some event) e (inl many) =
      let grown = length-append journal (entry_of worker event ∷ []) in inl (omega (arith, grown, many))
  full-with journal turns worker (Some event) e (inr is) = absurd (none-some (sym (none-due began journal worker is) ∙ e))
    where
      none-some : None ≡ Some event → ⊥
      none-some x = cc

  full-ordered : (turns : ℕ) → IsFull (journal_after order began turns) turns
  unfolding journal_after
  full-ordered zero = inl refl
  full-ordered (suc turns) =
      let journal = journal_after order began turns in
      let worker = next_worker order began journal in
      full-with journal turns worker (due_after began journal worker) refl (full-ordered turns)

  -- so it has an end
  ends-some : (nodes : ℕ) (flat : FlatState) (over : Bool) (cut : Option (ℕ × ℕ)) (spent : Bool) →
      (spent ≡ true) ⊎ ((over || is_some cut) ≡ true) →
      IsSome (option_and_then (ending_by nodes flat) (if over then Some Over else cut_off_or_spent cut spent))
  ends-some nodes flat true cut spent h = refl
  ends-some nodes flat false (Some pair) spent h = refl
  ends-some nodes flat false None true h = refl
  ends-some nodes flat false None false (inl e) = absurd cc
  ends-some nodes flat false None false (inr e) = absurd cc

  pub ordered-ends : IsSome (ordered_end order began)
  ordered-ends =
      let journal = ordered_journal order began in
      ends-some began.config.nodes (flat_after began journal) (is_over began.image began.config (state_of began journal))
      (numbers_of began journal).cut_off (nat_le began.budget (length journal)) (stands (full-ordered began.budget))
    where
      stands : IsFull (ordered_journal order began) began.budget →
          (nat_le began.budget (length (ordered_journal order began)) ≡ true) ⊎ IsShut began (ordered_journal order began)
      stands (inl many) = inl (grind (arith, nat_tests, many))
      stands (inr is) = inr is
