-- A run's probes are told one event after another.
use Rattle.std.proofs.Common.{◌≡◌, ℕ, ◌+◌, ◌<◌, ◌≤◌, List, [], ◌∷◌, map, drop, length, get_or, refl, ap, sym, ◌∙◌, arith}
use Rattle.std.proofs.lemmas.List.{drop_more, drop_all, map-id}
use Rattle.std.proofs.lemmas.Simd.{map-map}
use Rattle.sn_base.specs.declared.event.Answer.{Answer}
use Rattle.sn_probe.specs.Probes.{Meter, Observation, told_of, told_from}
use Rattle.shared_machine.specs.JournalEntry.{JournalEntry}
use Rattle.node_threads.specs.Told.{told_in, told_all}

-- what is left of a journal after its first entries
abbrev pub left : List JournalEntry → List Answer → ℕ → List Observation
left journal answers place = told_in (drop place journal) (drop place answers)

-- the first entries were told: told of what is left, the probes know all
abbrev pub IsToldUpTo : List JournalEntry → List Answer → ℕ → List Meter → List Meter → Type 0
IsToldUpTo journal answers place before now_ =
    map (told_from (place + 1) (left journal answers place)) now_ ≡ told_all journal answers before

left-more : (journal : List JournalEntry) (answers : List Answer) (place : ℕ) (e : JournalEntry) (a : Answer) → place < length journal →
    place < length answers →
    left journal answers place ≡ record { event = (get_or journal place e).event; answer = get_or answers place a }
    ∷ left journal answers (place + 1)
left-more journal answers place e a there answered =
    ap (λ l. told_in l (drop place answers)) (drop_more journal place e there)
    ∙ ap (λ l. told_in (get_or journal place e ∷ drop (place + 1) journal) l) (drop_more answers place a answered)

-- one more is told
pub told-next : (journal : List JournalEntry) (answers : List Answer) (place number : ℕ) (e : JournalEntry) (a : Answer)
    (before now_ behind : List Meter) → place < length journal → place < length answers →
    e ≡ get_or journal place e → a ≡ get_or answers place a → number ≡ place + 1 → behind ≡ map (told_of number e.event a) now_ →
    IsToldUpTo journal answers place before now_ → IsToldUpTo journal answers (place + 1) before behind
told-next journal answers place number e a before now_ behind there answered is_entry is_answer is_number told h =
    let rest : List Observation = left journal answers (place + 1) in
    let one : Observation = record { event = e.event; answer = a } in
    let split : left journal answers place ≡ one ∷ rest =
    left-more journal answers place e a there answered
    ∙ ap (λ (x : JournalEntry). record { event = x.event; answer = get_or answers place a } ∷ rest) (sym is_entry)
    ∙ ap (λ (x : Answer). record { event = e.event; answer = x } ∷ rest) (sym is_answer) in
    ap (map (told_from (place + 1 + 1) rest)) (told ∙ ap (λ n. map (told_of n e.event a) now_) is_number)
    ∙ map-map (told_from (place + 1 + 1) rest) (told_of (place + 1) e.event a) now_
    ∙ sym (ap (λ l. map (told_from (place + 1) l) now_) split) ∙ h

-- nothing is left
pub told-all : (journal : List JournalEntry) (answers : List Answer) (place : ℕ) (before now_ : List Meter) → length journal ≤ place →
    IsToldUpTo journal answers place before now_ → now_ ≡ told_all journal answers before
told-all journal answers place before now_ e h =
    sym (map-id now_) ∙ sym (ap (λ l. map (told_from (place + 1) (told_in l (drop place answers))) now_) (drop_all place journal e)) ∙ h
