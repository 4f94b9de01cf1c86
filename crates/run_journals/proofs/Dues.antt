-- A due event goes on with due events.
use Rattle.std.proofs.Common.{◌≡◌, ℕ, suc, List, [], ◌∷◌, ◌++◌, length, Option, Some, None, sym, ap, ◌∙◌, arith, subst}
use Rattle.std.proofs.lemmas.List.{length-map}
use Rattle.sn_base.specs.Image.{ImageData}
use Rattle.sn_base.specs.declared.config.Config.{Config}
use Rattle.sn_base.specs.declared.event.Event.{Event}
use Rattle.sn_base.specs.declared.rules.Rules.{Rules}
use Rattle.sn_model.specs.Machine.{State}
use Rattle.sn_model.specs.Step.{step_of, state_after}
use Rattle.due_events.specs.Numbers.{Numbers, first_numbers, numbers_after}
use Rattle.due_events.specs.Due.{due_of}
use Rattle.due_events.specs.Runs.{Draw, numbers_along, then_others, events_due}
use Rattle.run_journals.specs.declared.entry.JournalEntry.{JournalEntry}
use Rattle.run_journals.specs.Journal.{Began, start, IsDue, entry_of, draws_of, next_pick, next_draw, state_of, numbers_of}
use Rattle.run_journals.proofs.Draws.{draws_of-snoc, length-draws_of}
use Rattle.run_journals.proofs.Folds.{events_of-snoc}

-- where the first is due and those after it can go on, all of them can
goes_on : (first : Option Event) (rest more : Event → List Event) (event : Event) (n : ℕ) (P : List Event → Type 0) →
    ((e : Event) → length (rest e) ≡ n → P (e ∷ rest e) → more e ≡ rest e ++ event ∷ []) →
    length (then_others first rest) ≡ suc n → P (then_others first rest) → then_others first more ≡ then_others first rest ++ event ∷ []
goes_on None rest more event n P step full at = absurd (omega (arith, full))
goes_on (Some e) rest more event n P step full at = ap (λ (l : List Event). e ∷ l) (step e (omega (arith, full)) at)

events_due-snoc : (rules : Rules) (image : ImageData) (config : Config) (draw : Draw) (event : Event) (s : State) (x : Numbers)
    (draws : List Draw) →
    length (events_due rules image config s x draws) ≡ length draws →
    due_of rules image config (state_after image config s (events_due rules image config s x draws))
    (numbers_along image config s x (events_due rules image config s x draws)) draw.worker draw.pick ≡ Some event →
    events_due rules image config s x (draws ++ draw ∷ []) ≡ events_due rules image config s x draws ++ event ∷ []
events_due-snoc rules image config draw event s x [] full due =
    ap (λ (o : Option Event). then_others o (λ e. [])) due
events_due-snoc rules image config draw event s x (d ∷ draws) full due =
    goes_on (due_of rules image config s x d.worker d.pick)
    (λ e. events_due rules image config (step_of image config s e).state (numbers_after x e (step_of image config s e).answer) draws)
    (λ e. events_due rules image config (step_of image config s e).state (numbers_after x e (step_of image config s e).answer)
    (draws ++ draw ∷ []))
    event (length draws)
    (λ l. due_of rules image config (state_after image config s l) (numbers_along image config s x l) draw.worker draw.pick ≡ Some event)
    (λ e here at. events_due-snoc rules image config draw event (step_of image config s e).state
    (numbers_after x e (step_of image config s e).answer) draws here at)
    full due

pub IsDue-snoc : (began : Began) (journal : List JournalEntry) (worker : ℕ) (event : Event) → IsDue began journal →
    due_of began.rules began.image began.config (state_of began journal) (numbers_of began journal) worker
    (next_pick began.seed journal worker) ≡ Some event →
    IsDue began (journal ++ entry_of worker event ∷ [])
unfolding IsDue state_of numbers_of
IsDue-snoc began journal worker event due next =
    let E : List Draw → List Event = events_due began.rules began.image began.config (start began) first_numbers in
    let N : List Event → Type 0 = λ l. due_of began.rules began.image began.config (state_after began.image began.config (start began) l)
    (numbers_along began.image began.config (start began) first_numbers l) worker (next_pick began.seed journal worker) ≡ Some event in
    ap E (draws_of-snoc began.seed journal (entry_of worker event))
    ∙ events_due-snoc began.rules began.image began.config (next_draw began.seed journal worker) event (start began) first_numbers
    (draws_of began.seed journal)
    (ap (λ (l : List Event). length l) due ∙ length-map journal (λ (e : JournalEntry). e.event) ∙ sym (length-draws_of began.seed journal))
    (subst N (sym due) next)
    ∙ ap (λ (l : List Event). l ++ event ∷ []) due
    ∙ sym (events_of-snoc journal (entry_of worker event))
