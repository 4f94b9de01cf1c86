-- The text of a journal, with a marked summary behind it, is read as the journal's events.
use Rattle.std.proofs.Common.{◌≡◌, ℕ, suc, ◌+◌, ◌<◌, ◌≤◌, List, [], ◌∷◌, ◌++◌, length, refl, ap, sym, subst, ◌∙◌, append_assoc}
use Rattle.std.proofs.Common.{append-nil, arith}
use Rattle.std.proofs.lemmas.Bool.Decides.{nat_tests}
use Rattle.std.specs.Prelude.{true, false, nat_le, Ok, codes}
use Rattle.sn_base.specs.Events.{event_fits}
use Rattle.sn_base.specs.declared.event.Event.{Event}
use Rattle.consistent_cuts.specs.Runs.{AllFit}
use Rattle.text_lines.specs.Lines.{lines_from}
use Rattle.sn_text.specs.Items.{most_items, is_skipped, items_and, items_from}
use Rattle.sn_text.specs.Script.{event_of, script_of}
use Rattle.sn_text.specs.Text.{count_line, event_text, script_line}
use Rattle.sn_text.specs.Written.{HasNumbers}
use Rattle.sn_text.proofs.Comments.{AreComments, comments-count}
use Rattle.sn_text.proofs.Lines.{IsLine, line-first, read-past}
use Rattle.sn_text.proofs.Written.{event-back, event-line}
use Rattle.node_threads.specs.JournalEntry.{JournalEntry}
use Rattle.node_threads.specs.Journal.{events_of}
use Rattle.node_run.specs.Pieces.{entry_lines, journal_text}
use Rattle.node_run.specs.Reported.{HaveNumbers}

says : (line : List ℕ) → IsLine line → is_skipped line ≡ false
says [] a = absurd a
says (x ∷ xs) a = grind (arith, nat_tests, a.0)

module _ (nodes : ℕ) (small : nodes ≤ 16) where
  -- a text is read as these events, wherever it stands after so many others
  abbrev Reads : ℕ → List ℕ → List Event → Type 0
  Reads count text events = (line : ℕ) → items_from (event_of nodes) line count (lines_from [] text) ≡ Ok events

  read-comments : (count : ℕ) (text rest : List ℕ) (events : List Event) → AreComments text → Reads count rest events →
      Reads count (text ++ rest) events
  read-comments count text rest events comments h = λ line.
      ap (items_from (event_of nodes) line count) (comments.before rest)
      ∙ read-past (event_of nodes) line count comments.lines (lines_from [] rest) comments.skipped ∙ h (line + length comments.lines)

  read-one : (line count : ℕ) (text : List ℕ) (lines : List (List ℕ)) (event : Event) (events : List Event) → is_skipped text ≡ false →
      event_of nodes text ≡ Ok event → count < most_items →
      items_from (event_of nodes) (line + 1) (count + 1) lines ≡ Ok events →
      items_from (event_of nodes) line count (text ∷ lines) ≡ Ok (event ∷ events)
  unfolding items_from
  read-one line count text lines event events said back few h =
      let room : nat_le most_items count ≡ false = grind (arith, nat_tests, few) in
      rw (said, back, room) (ap (items_and (event ∷ [])) h)

  read-nothing : (count : ℕ) → Reads count [] []
  unfolding items_from lines_from
  read-nothing count = λ line. refl

  read-event : (count : ℕ) (event : Event) (rest : List ℕ) (events : List Event) → event_fits nodes event ≡ true → HasNumbers event →
      count < most_items →
      Reads (count + 1) rest events → Reads count (script_line event ++ rest) (event ∷ events)
  unfolding script_line
  read-event count event rest events fits numbers few h = λ line.
      let is_line : IsLine (event_text event) = event-line nodes event small fits numbers in
      ap (λ t. items_from (event_of nodes) line count (lines_from [] t)) (append_assoc (event_text event) (10 ∷ []) rest)
      ∙ ap (items_from (event_of nodes) line count) (line-first (event_text event) rest is_line)
      ∙ read-one line count (event_text event) (lines_from [] rest) event events (says (event_text event) is_line)
      (event-back nodes event small fits numbers) few (h (line + 1))

  read-entry : (count : ℕ) (entry : JournalEntry) (rest : List ℕ) (events : List Event) → event_fits nodes entry.event ≡ true →
      HasNumbers entry.event → count < most_items →
      Reads (count + 1) rest events → Reads count (entry_lines entry ++ rest) (entry.event ∷ events)
  unfolding entry_lines
  read-entry count entry rest events fits numbers few h =
      subst (λ (t : List ℕ). Reads count t (entry.event ∷ events))
      (sym (append_assoc (count_line (codes "# ") (codes "worker") entry.worker) (script_line entry.event) rest))
      (read-comments count (count_line (codes "# ") (codes "worker") entry.worker) (script_line entry.event ++ rest) (entry.event ∷ events)
      (comments-count (codes "worker") entry.worker refl)
      (read-event count entry.event rest events fits numbers few h))

  read-journal : (count : ℕ) (journal : List JournalEntry) (summary : List ℕ) → AllFit nodes (events_of journal) →
      HaveNumbers journal → count + length journal ≤ most_items →
      AreComments summary → Reads count (journal_text journal ++ summary) (events_of journal)
  read-journal count [] summary fits numbers few h =
      subst (λ (t : List ℕ). Reads count t []) (append-nil summary) (read-comments count summary [] [] h (read-nothing count))
  read-journal count (entry ∷ entries) summary fits numbers few h =
      let more_numbers : HaveNumbers entries = λ k d l. numbers (suc k) d (omega (arith, l)) in
      subst (λ (t : List ℕ). Reads count t (events_of (entry ∷ entries)))
      (sym (append_assoc (entry_lines entry) (journal_text entries) summary))
      (read-entry count entry (journal_text entries ++ summary) (events_of entries) fits.0.numbers
      (numbers 0 entry (omega arith)) (omega (arith, few))
      (read-journal (count + 1) entries summary fits.1 more_numbers (omega (arith, few)) h))

  pub journal-read : (journal : List JournalEntry) (summary : List ℕ) → AllFit nodes (events_of journal) → HaveNumbers journal →
      length journal ≤ most_items →
      AreComments summary → script_of nodes (journal_text journal ++ summary) ≡ Ok (events_of journal)
  journal-read journal summary fits numbers few h = read-journal 0 journal summary fits numbers (omega (arith, few)) h 1
