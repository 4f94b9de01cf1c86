-- What a run leaves, by what the lock kept.
use Rattle.std.proofs.Common.{◌≡◌, ℕ, Bool, true, false, nat_le, if◌then◌else◌, List, [], length, Option, Some, None, Result, Ok, Err}
use Rattle.std.proofs.Common.{is_err, IsOk, IsErr, rules, refl, sym, ap, subst, ◌∙◌}
use Rattle.sn_base.specs.declared.event.Answer.{Answer}
use Rattle.sn_model.specs.Machine.{State}
use Rattle.sn_io.specs.declared.outside.Failed.{Failed}
use Rattle.shared_machine.specs.Machine.{MachineData}
use Rattle.shared_machine.specs.Numbers.{Numbers}
use Rattle.shared_machine.specs.Due.{is_over}
use Rattle.shared_machine.specs.JournalEntry.{JournalEntry}
use Rattle.shared_machine.specs.Journal.{Began, state_of, numbers_of}
use Rattle.shared_machine.specs.declared.finish.Finish.{Finish}
use Rattle.shared_machine.specs.declared.finish.Finish.TheVariants.{Over, CutOff, Budget, Stopped}
use Rattle.shared_machine.specs.Shared.{LockedData, began_with, refusal_of, cut_off_or_spent}
use Rattle.shared_machine.specs.Invariant.{FollowsJournal}
use Rattle.node_threads.specs.Finishes.{finish_by, IsRunOf, Put, Ends}

pub run-of : (s : LockedData) (began : Began) (m : MachineData) (journal : List JournalEntry) (answers : List Answer) → FollowsJournal s →
    began_with s ≡ began →
    m ≡ s.machine → journal ≡ s.journal → answers ≡ s.answers → IsRunOf began m journal answers
run-of s began m journal answers kept same machine_is journal_is answers_is =
    subst (λ (b : Began). IsRunOf b m journal answers) same
    (subst (λ (x : MachineData). IsRunOf (began_with s) x journal answers) (sym machine_is)
    (subst (λ (l : List JournalEntry). IsRunOf (began_with s) s.machine l answers) (sym journal_is)
    (subst (λ (l : List Answer). IsRunOf (began_with s) s.machine s.journal l) (sym answers_is)
    (record {
      image = refl;
      config = refl;
      state = kept.state;
      applied = kept.applied;
      few = kept.few;
      answers_are = kept.answers;
      due = kept.due;
      workers = kept.workers;
      fit = kept.fit;
    }))))

by_kept : (s : LockedData) → FollowsJournal s →
    finish_by (began_with s) s.journal ≡ refusal_of s.driver s.machine (nat_le s.budget (length s.journal))
by_kept s kept =
    let spent = nat_le s.budget (length s.journal) in
    ap (λ (x : State). if is_over s.machine.image s.machine.config x then Some Over
    else cut_off_or_spent (numbers_of (began_with s) s.journal).cut_off spent) (sym kept.state)
    ∙ ap (λ (x : Numbers). if is_over s.machine.image s.machine.config s.machine.state then Some Over else cut_off_or_spent x.cut_off spent)
    (sym kept.numbers)

pub finish-kept : (s : LockedData) (began : Began) (journal : List JournalEntry) (closed : Finish) → FollowsJournal s → began_with s ≡ began →
    journal ≡ s.journal →
    refusal_of s.driver s.machine (nat_le s.budget (length s.journal)) ≡ Some closed → finish_by began journal ≡ Some closed
finish-kept s began journal closed kept same journal_is refused =
    ap (λ (b : Began). finish_by b journal) (sym same) ∙ ap (λ (l : List JournalEntry). finish_by (began_with s) l) journal_is ∙ by_kept s kept
    ∙ refused

-- no journal says that a run was stopped
spent-unstopped : (spent : Bool) → (if spent then Some Budget else None) ≡ Some Stopped → ⊥
spent-unstopped true e = cc
spent-unstopped false e = cc

cut-unstopped : (cut : Option (ℕ × ℕ)) (spent : Bool) → cut_off_or_spent cut spent ≡ Some Stopped → ⊥
cut-unstopped (Some nodes) spent e = cc
cut-unstopped None spent e = spent-unstopped spent e

unstopped : (over : Bool) (cut : Option (ℕ × ℕ)) (spent : Bool) → (if over then Some Over else cut_off_or_spent cut spent) ≡ Some Stopped →
    ⊥
unstopped true cut spent e = cc
unstopped false cut spent e = cut-unstopped cut spent e

module _ (began : Began) (journal : List JournalEntry) (released : List ℕ) (before after : Option (List ℕ)) (was is : ℕ) where
  whole : (closed : Finish) → finish_by began journal ≡ Some closed → Put (Ok tt) released before after was is →
      Ends began journal closed released before after was is
  whole Over by put = (put.0, by)
  whole (CutOff a b) by put = (put.0, by)
  whole Budget by put = (put.0, by)
  whole Stopped by put =
      absurd (unstopped (is_over began.image began.config (state_of began journal)) (numbers_of began journal).cut_off
      (nat_le began.budget (length journal)) by)

  pub ends-of : (put : Result (Unit {0}) Failed) (closed finish : Finish) → finish ≡ (if is_err put then Stopped else closed) →
      (is_err put ≡ false → finish_by began journal ≡ Some closed) → Put put released before after was is →
      Ends began journal finish released before after was is
  ends-of (Ok done) closed finish told by h =
      subst (λ (f : Finish). Ends began journal f released before after was is) (sym told) (whole closed (by refl) h)
  ends-of (Err e) closed finish told by h = subst (λ (f : Finish). Ends began journal f released before after was is) (sym told) h

-- where the rest was put, nothing had failed before
pub drained-ok : (d r : Result (Unit {0}) Failed) → (IsErr d → IsErr r) → is_err r ≡ false → IsOk d
drained-ok (Ok done) r fails sound = search rules
drained-ok (Err e) (Ok done) fails sound = let h = fails (search rules) in absurd (search rules)
drained-ok (Err e) (Err f) fails sound = absurd cc
