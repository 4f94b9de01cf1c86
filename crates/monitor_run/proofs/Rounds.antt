-- The turns go round.
use Rattle.std.proofs.Common.{◌≡◌, ℕ, ◌%◌, ◌<◌, Bool, true, false, nat_lt, List, [], ◌∷◌, ◌++◌, length, get_or, refl, sym, subst, arith}
use Rattle.std.proofs.Common.{length-append}
use Rattle.std.proofs.lemmas.Bool.Decides.{nat_tests}
use Rattle.std.proofs.lemmas.Grind.{common_steps}
use Rattle.sn_base.specs.declared.event.Event.{Event}
use Rattle.run_journals.specs.declared.entry.JournalEntry.{JournalEntry}
use Rattle.run_journals.specs.Journal.{entry_of}
use Rattle.monitor_run.specs.Seen.{IsInRounds}

pub rounds-none : (nodes : ℕ) (journal : List JournalEntry) → length journal ≡ 0 → IsInRounds nodes journal
rounds-none nodes journal none i d l = absurd (omega (arith, none, l))

pub rounds-snoc : (nodes later : ℕ) (journal longer : List JournalEntry) (worker : ℕ) (event : Event) → later ≡ nodes →
    longer ≡ journal ++ entry_of worker event ∷ [] → worker ≡ length journal % nodes → IsInRounds nodes journal → IsInRounds later longer
rounds-snoc nodes later journal longer worker event same is whose rounds =
    subst (λ (k : ℕ). IsInRounds k longer) (sym same)
    (subst (λ (l : List JournalEntry). IsInRounds nodes l) (sym is) (λ i d l. at i d (nat_lt i (length journal)) refl l))
  where
    at : (i : ℕ) (d : JournalEntry) (b : Bool) → nat_lt i (length journal) ≡ b → i < length (journal ++ entry_of worker event ∷ []) →
        (get_or (journal ++ entry_of worker event ∷ []) i d).worker ≡ i % nodes
    at i d true before l = let below : i < length journal = grind (arith, nat_tests, before) in let r = rounds i d below in grind (arith, common_steps, below, r)
    at i d false before l =
        let many = length-append journal (entry_of worker event ∷ []) in
        let last : i ≡ length journal = grind (arith, nat_tests, before, many, l) in
        subst (λ (k : ℕ). (get_or (journal ++ entry_of worker event ∷ []) k d).worker ≡ k % nodes) (sym last)
        (grind (arith, common_steps, whose))
