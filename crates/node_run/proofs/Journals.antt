-- Laws of the pieces of a journal.
use Rattle.std.proofs.Common.{◌≡◌, ℕ, ◌+◌, ◌<◌, List, [], ◌∷◌, take, drop, length, get_or, All, refl, ap, sym, subst, ◌∙◌, arith}
use Rattle.std.proofs.lemmas.List.{drop_more, drop_all, take_more, take_all}
use Rattle.std.proofs.lemmas.List.Elements.{All-nil, All-push}
use Rattle.std.specs.Prelude.{Option, Result, Ok, Err, OnOk, OnErr, codes}
use Rattle.sn_io.specs.declared.outside.Failed.{Failed}
use Rattle.rv_core.specs.declared.step.Record.{Record}
use Rattle.sn_text.specs.Written.{HasNumbers, HasValues}
use Rattle.script_replay.specs.Machine.{MachineData}
use Rattle.sink_pieces.specs.Pieces.{Piece, Report, Ends, ends, after, Breaks}
use Rattle.sink_pieces.proofs.PieceLaws.{after-append, after-nil, Breaks-more, Breaks-after}
use Rattle.sink_pieces.proofs.SoFar.{SoFar, SoFar-more, SoFar-breaks, SoFar-whole}
use Rattle.script_replay.specs.declared.job.ReportKind.TheVariants as replayed
use Rattle.script_replay.specs.Played.{summary_pieces_of, end_now}
use Rattle.node_threads.specs.JournalEntry.{JournalEntry}
use Rattle.node_run.specs.Pieces.{entry_lines, journal_pieces}
use Rattle.sn_base.specs.declared.report.RunReport.{RunReport}
use Rattle.sn_base.specs.declared.report.RunReport.TheVariants.{Summary, Trace, Accesses, Journal}
use Rattle.node_run.specs.declared.job.RunShowing.{RunShowing}
use Rattle.node_run.specs.Reported.{script_now, rows_now, report_by_kind, report_now, HaveNumbers}

-- the turns, one after another
journal_pieces-drop : (journal : List JournalEntry) (i : ℕ) (entry : JournalEntry) → i < length journal → entry ≡ get_or journal i entry →
    journal_pieces (drop i journal) ≡ Report (entry_lines entry) ∷ journal_pieces (drop (i + 1) journal)
unfolding journal_pieces
journal_pieces-drop journal i entry below is =
    ap journal_pieces (drop_more journal i entry below) ∙ ap (λ e. Report (entry_lines e) ∷ journal_pieces (drop (i + 1) journal)) (sym is)

journal_pieces-end : (journal : List JournalEntry) (i : ℕ) → length journal ≡ i → journal_pieces (drop i journal) ≡ []
unfolding journal_pieces
journal_pieces-end journal i e = rw (drop_all i journal (omega arith))

pub turn-next : (journal : List JournalEntry) (i : ℕ) (entry : JournalEntry) (line bytes : List ℕ) (a b d : Ends) → i < length journal →
    entry ≡ get_or journal i entry → line ≡ entry_lines entry → bytes ≡ line →
    SoFar (journal_pieces journal) (journal_pieces (drop i journal)) a b → d ≡ after b (Report bytes ∷ []) →
    SoFar (journal_pieces journal) (journal_pieces (drop (i + 1) journal)) a d
turn-next journal i entry line bytes a b d below is put same h more =
    SoFar-more (journal_pieces journal) (Report (entry_lines entry) ∷ []) _ a b d
    (subst (λ (t : List Piece). SoFar (journal_pieces journal) t a b) (journal_pieces-drop journal i entry below is) h)
    (more ∙ ap (λ t. after b (Report t ∷ [])) (same ∙ put))

pub turn-breaks : (journal : List JournalEntry) (i : ℕ) (entry : JournalEntry) (line bytes : List ℕ) (a b d : Ends) → i < length journal →
    entry ≡ get_or journal i entry → line ≡ entry_lines entry → bytes ≡ line →
    SoFar (journal_pieces journal) (journal_pieces (drop i journal)) a b → Breaks (Report bytes ∷ []) b d →
    Breaks (journal_pieces journal) a d
turn-breaks journal i entry line bytes a b d below is put same h broken =
    SoFar-breaks (journal_pieces journal) (Report (entry_lines entry) ∷ []) _ a b d
    (subst (λ (t : List Piece). SoFar (journal_pieces journal) t a b) (journal_pieces-drop journal i entry below is) h)
    (subst (λ (t : List ℕ). Breaks (Report t ∷ []) b d) (same ∙ put) broken)

pub turns-whole : (journal : List JournalEntry) (i : ℕ) (a b : Ends) → length journal ≡ i →
    SoFar (journal_pieces journal) (journal_pieces (drop i journal)) a b → b ≡ after a (journal_pieces journal)
turns-whole journal i a b e h =
    SoFar-whole (journal_pieces journal) [] a b b
    (subst (λ (t : List Piece). SoFar (journal_pieces journal) t a b) (journal_pieces-end journal i e) h) (sym (after-nil b))

-- their numbers
pub numbers-none : (journal : List JournalEntry) → HaveNumbers (take 0 journal)
numbers-none journal = All-nil (λ (e : JournalEntry). HasNumbers e.event)

pub numbers-next : (journal : List JournalEntry) (i : ℕ) (entry : JournalEntry) → i < length journal → entry ≡ get_or journal i entry →
    HasNumbers entry.event → HaveNumbers (take i journal) → HaveNumbers (take (i + 1) journal)
numbers-next journal i entry below is here before =
    subst (λ (l : List JournalEntry). HaveNumbers l) (sym (take_more journal i entry below))
    (All-push (λ (e : JournalEntry). HasNumbers e.event) (take i journal) (get_or journal i entry) before
    (subst (λ (e : JournalEntry). HasNumbers e.event) is here))

pub numbers-all : (journal : List JournalEntry) (i : ℕ) → length journal ≡ i → HaveNumbers (take i journal) → HaveNumbers journal
numbers-all journal i e h = subst (λ (l : List JournalEntry). HaveNumbers l) (take_all i journal (omega (arith, e))) h

-- and then the summary
module _ (m : MachineData) (journal : List JournalEntry) (watch : Option ℕ) (tallies : List (List ℕ)) where
  pub script-all : (a b d : Ends) → b ≡ after a (journal_pieces journal) → d ≡ after b (summary_pieces_of (codes "# ") m watch tallies) →
      d ≡ after a (script_now m journal watch tallies)
  script-all a b d first second =
      second ∙ ap (λ e. after e (summary_pieces_of (codes "# ") m watch tallies)) first
      ∙ after-append a (journal_pieces journal) (summary_pieces_of (codes "# ") m watch tallies)

  pub script-breaks_first : (a b : Ends) → Breaks (journal_pieces journal) a b → Breaks (script_now m journal watch tallies) a b
  script-breaks_first a b broken = Breaks-more (journal_pieces journal) (summary_pieces_of (codes "# ") m watch tallies) a b broken

  pub script-breaks_second : (a b d : Ends) → b ≡ after a (journal_pieces journal) → Breaks (summary_pieces_of (codes "# ") m watch tallies) b d →
      Breaks (script_now m journal watch tallies) a d
  script-breaks_second a b d first broken =
      Breaks-after (journal_pieces journal) (summary_pieces_of (codes "# ") m watch tallies) a d
      (subst (λ (e : Ends). Breaks (summary_pieces_of (codes "# ") m watch tallies) e d) first broken)

-- a report that broke, of the kind that was asked for
module _ (m : MachineData) (journal : List JournalEntry) (showing : RunShowing) (tallies : List (List ℕ)) (r : Result (Unit {0}) Failed) (before behind : Option (List ℕ)) where
  abbrev BreaksIn : List Piece → Type 0
  BreaksIn pieces = OnErr r ((c : Option (List ℕ)) → Breaks pieces (ends c before) (ends c behind))

  of_kind : (kind : RunReport) → showing.report ≡ kind → BreaksIn (report_by_kind kind m journal showing tallies) →
      BreaksIn (report_now m journal showing tallies)
  of_kind kind is h = subst (λ (k : RunReport). BreaksIn (report_by_kind k m journal showing tallies)) (sym is) h

  pub summary-breaks : showing.report ≡ Summary → BreaksIn (summary_pieces_of [] m showing.watch tallies) →
      BreaksIn (report_now m journal showing tallies)
  summary-breaks is h = of_kind Summary is h

  pub trace-breaks : showing.report ≡ Trace → BreaksIn (end_now m (record { report = replayed.Trace; watch = showing.watch }) tallies) →
      BreaksIn (report_now m journal showing tallies)
  trace-breaks is h = of_kind Trace is h

  pub rows-breaks : showing.report ≡ Accesses → BreaksIn (rows_now m showing.watch tallies) → BreaksIn (report_now m journal showing tallies)
  rows-breaks is h = of_kind Accesses is h

  pub script-breaks : showing.report ≡ Journal → BreaksIn (script_now m journal showing.watch tallies) →
      BreaksIn (report_now m journal showing tallies)
  script-breaks is h = of_kind Journal is h

-- the numbers of a journal that was put where it was asked for
on-ok : (r : Result (Unit {0}) Failed) (P Q : Type 0) → (P → Q) → OnOk r P → OnOk r Q
on-ok (Ok done) P Q f h = f h
on-ok (Err e) P Q f h = tt

always : (r : Result (Unit {0}) Failed) (P : Type 0) → P → OnOk r P
always (Ok done) P h = h
always (Err e) P h = tt

no-summary : Summary ≡ Journal → ⊥
no-summary e = cc

no-trace : Trace ≡ Journal → ⊥
no-trace e = cc

no-rows : Accesses ≡ Journal → ⊥
no-rows e = cc

no-summary_traced : Summary ≡ Trace → ⊥
no-summary_traced e = cc

no-rows_traced : Accesses ≡ Trace → ⊥
no-rows_traced e = cc

no-journal_traced : Journal ≡ Trace → ⊥
no-journal_traced e = cc

module _ (journal : List JournalEntry) (showing : RunShowing) (r : Result (Unit {0}) Failed) where
  abbrev IfAsked : Type 0
  IfAsked = showing.report ≡ Journal → HaveNumbers journal

  pub summary-numbers : showing.report ≡ Summary → OnOk r IfAsked
  summary-numbers is = always r IfAsked (λ kind. absurd (no-summary (sym is ∙ kind)))

  pub trace-numbers : showing.report ≡ Trace → OnOk r IfAsked
  trace-numbers is = always r IfAsked (λ kind. absurd (no-trace (sym is ∙ kind)))

  pub rows-numbers : showing.report ≡ Accesses → OnOk r IfAsked
  rows-numbers is = always r IfAsked (λ kind. absurd (no-rows (sym is ∙ kind)))

  pub script-numbers : OnOk r (HaveNumbers journal) → OnOk r IfAsked
  script-numbers h = on-ok r (HaveNumbers journal) IfAsked (λ all kind. all) h

-- and the values of a trace that was
module _ (records : List Record) (showing : RunShowing) (r : Result (Unit {0}) Failed) where
  abbrev IfTraced : Type 0
  IfTraced = showing.report ≡ Trace → All HasValues records

  pub summary-values : showing.report ≡ Summary → OnOk r IfTraced
  summary-values is = always r IfTraced (λ kind. absurd (no-summary_traced (sym is ∙ kind)))

  pub trace-values : OnOk r (replayed.Trace ≡ replayed.Trace → All HasValues records) → OnOk r IfTraced
  trace-values h = on-ok r (replayed.Trace ≡ replayed.Trace → All HasValues records) IfTraced (λ all kind. all refl) h

  pub rows-values : showing.report ≡ Accesses → OnOk r IfTraced
  rows-values is = always r IfTraced (λ kind. absurd (no-rows_traced (sym is ∙ kind)))

  pub script-values : showing.report ≡ Journal → OnOk r IfTraced
  script-values is = always r IfTraced (λ kind. absurd (no-journal_traced (sym is ∙ kind)))
