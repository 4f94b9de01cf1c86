-- What the workers draw.
use Rattle.std.proofs.Common.{◌≡◌, ℕ, suc, ◌+◌, ◌%◌, ◌^◌, nat_eq, cond, List, [], ◌∷◌, ◌++◌, length, refl, sym, ap, ◌∙◌, append_assoc}
use Rattle.std.proofs.Common.{append-nil, arith, add-one}
use Rattle.std.proofs.lemmas.List.Sums.{sum_by-append}
use Rattle.sn_base.specs.declared.event.Event.{Event}
use Rattle.rand_core.specs.Pcg32Seed.{pcg32_seed}
use Rattle.rand_pcg.specs.Pcg.{pcg32, pcg32_of_seed}
use Rattle.due_events.specs.Runs.{Draw}
use Rattle.run_journals.specs.declared.entry.JournalEntry.{JournalEntry}
use Rattle.run_journals.specs.Picks.{first_generator, after_words, generator_at, pick_of}
use Rattle.run_journals.specs.Journal.{entry_of, turns_of, next_draw, draws_from, draws_of}

pub generator_at-first : (seed worker : ℕ) → generator_at seed worker 0 ≡ pcg32_of_seed (pcg32_seed 16 ((seed + worker) % 2 ^ 64))
unfolding generator_at first_generator after_words
generator_at-first seed worker = refl

pub generator_at-next : (seed worker place : ℕ) →
    pcg32 (generator_at seed worker place) ≡ (pick_of seed worker place, generator_at seed worker (place + 1))
unfolding generator_at pick_of after_words
generator_at-next seed worker place =
    ap (λ (n : ℕ). ((pcg32 (after_words (first_generator seed worker) place)).0, after_words (first_generator seed worker) n))
    (sym (add-one place))

pub turns_of-snoc : (journal : List JournalEntry) (worker other : ℕ) (event : Event) →
    turns_of other (journal ++ entry_of worker event ∷ []) ≡ turns_of other journal + cond (nat_eq worker other) 1 0
turns_of-snoc journal worker other event =
    let e = sum_by-append (λ (e : JournalEntry). cond (nat_eq e.worker other) 1 0) journal (entry_of worker event ∷ []) in omega (arith, e)

draws_from-append : (seed : ℕ) (before journal : List JournalEntry) (e : JournalEntry) →
    draws_from seed before (journal ++ e ∷ []) ≡ draws_from seed before journal ++ next_draw seed (before ++ journal) e.worker ∷ []
draws_from-append seed before [] e = ap (λ (l : List JournalEntry). next_draw seed l e.worker ∷ []) (sym (append-nil before))
draws_from-append seed before (d ∷ journal) e =
    ap (λ (l : List Draw). next_draw seed before d.worker ∷ l)
    (draws_from-append seed (before ++ d ∷ []) journal e
    ∙ ap (λ (l : List JournalEntry). draws_from seed (before ++ d ∷ []) journal ++ next_draw seed l e.worker ∷ [])
    (append_assoc before (d ∷ []) journal))

pub draws_of-snoc : (seed : ℕ) (journal : List JournalEntry) (e : JournalEntry) →
    draws_of seed (journal ++ e ∷ []) ≡ draws_of seed journal ++ next_draw seed journal e.worker ∷ []
unfolding draws_of
draws_of-snoc seed journal e = draws_from-append seed [] journal e

length-draws_from : (seed : ℕ) (before journal : List JournalEntry) → length (draws_from seed before journal) ≡ length journal
length-draws_from seed before [] = refl
length-draws_from seed before (d ∷ journal) = ap (λ n. suc n) (length-draws_from seed (before ++ d ∷ []) journal)

pub length-draws_of : (seed : ℕ) (journal : List JournalEntry) → length (draws_of seed journal) ≡ length journal
unfolding draws_of
length-draws_of seed journal = length-draws_from seed [] journal
