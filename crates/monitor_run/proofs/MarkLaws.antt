-- Laws of the pieces of what was seen.
use Rattle.std.proofs.Common.{◌≡◌, ℕ, ◌+◌, ◌<◌, List, [], ◌∷◌, ◌++◌, drop, length, get_or, ap, sym, subst, ◌∙◌, arith}
use Rattle.std.proofs.lemmas.List.{drop_more, drop_all}
use Rattle.std.specs.Prelude.{Option}
use Rattle.sn_machine.specs.Machine.{MachineData}
use Rattle.sink_pieces.specs.Pieces.{Piece, Report, Ends, after, Breaks, console_piece}
use Rattle.sink_pieces.proofs.PieceLaws.{after-append, after-nil, Breaks-more, Breaks-after}
use Rattle.sink_pieces.proofs.SoFar.{SoFar, SoFar-more, SoFar-breaks, SoFar-whole}
use Rattle.script_replay.specs.Played.{summary_pieces_of}
use Rattle.monitor_run.specs.declared.marks.Mark.{Mark}
use Rattle.monitor_run.specs.Seen.{seen_line, seen_pieces}
use Rattle.monitor_run.specs.Reported.{report_now}

pieces-drop : (marks : List Mark) (i : ℕ) (d : Mark) → i < length marks →
    seen_pieces (drop i marks) ≡ Report (seen_line (get_or marks i d)) ∷ seen_pieces (drop (i + 1) marks)
unfolding seen_pieces
pieces-drop marks i d below = ap seen_pieces (drop_more marks i d below)

pieces-end : (marks : List Mark) (i : ℕ) → length marks ≡ i → seen_pieces (drop i marks) ≡ []
unfolding seen_pieces
pieces-end marks i e = rw (drop_all i marks (omega arith))

module _ (marks : List Mark) (i : ℕ) (d : Mark) (line bytes : List ℕ) (a b e : Ends) (below : i < length marks) (put : line ≡ seen_line (get_or marks i d)) (same : bytes ≡ line) (h : SoFar (seen_pieces marks) (seen_pieces (drop i marks)) a b) where
  so-far : SoFar (seen_pieces marks) (Report (seen_line (get_or marks i d)) ∷ seen_pieces (drop (i + 1) marks)) a b
  so-far = subst (λ (t : List Piece). SoFar (seen_pieces marks) t a b) (pieces-drop marks i d below) h

  pub mark-next : e ≡ after b (Report bytes ∷ []) → SoFar (seen_pieces marks) (seen_pieces (drop (i + 1) marks)) a e
  mark-next more =
      SoFar-more (seen_pieces marks) (Report (seen_line (get_or marks i d)) ∷ []) _ a b e so-far
      (more ∙ ap (λ t. after b (Report t ∷ [])) (same ∙ put))

  pub mark-breaks : Breaks (Report bytes ∷ []) b e → Breaks (seen_pieces marks) a e
  mark-breaks broken =
      SoFar-breaks (seen_pieces marks) (Report (seen_line (get_or marks i d)) ∷ []) _ a b e so-far
      (subst (λ (t : List ℕ). Breaks (Report t ∷ []) b e) (same ∙ put) broken)

pub marks-whole : (marks : List Mark) (i : ℕ) (a b : Ends) → length marks ≡ i →
    SoFar (seen_pieces marks) (seen_pieces (drop i marks)) a b → b ≡ after a (seen_pieces marks)
marks-whole marks i a b e h =
    SoFar-whole (seen_pieces marks) [] a b b
    (subst (λ (t : List Piece). SoFar (seen_pieces marks) t a b) (pieces-end marks i e) h) (sym (after-nil b))

-- and what is put after it
module _ (first second : List Piece) where
  pub both-put : (a b d : Ends) → b ≡ after a first → d ≡ after b second → d ≡ after a (first ++ second)
  both-put a b d one other = other ∙ ap (λ e. after e second) one ∙ after-append a first second

  pub first-breaks : (a b : Ends) → Breaks first a b → Breaks (first ++ second) a b
  first-breaks a b broken = Breaks-more first second a b broken

  pub second-breaks : (a b d : Ends) → b ≡ after a first → Breaks second b d → Breaks (first ++ second) a d
  second-breaks a b d one broken = Breaks-after first second a d (subst (λ (e : Ends). Breaks second e d) one broken)

-- what was seen, and then the summary
module _ (m : MachineData) (marks : List Mark) (watch : Option ℕ) (tallies : List (List ℕ)) where
  pub report-put : (a b d : Ends) → b ≡ after a (seen_pieces marks) → d ≡ after b (summary_pieces_of [] m watch tallies) →
      d ≡ after a (report_now m marks watch tallies)
  report-put a b d one other = both-put (seen_pieces marks) (summary_pieces_of [] m watch tallies) a b d one other

  pub seen-breaks : (a b : Ends) → Breaks (seen_pieces marks) a b → Breaks (report_now m marks watch tallies) a b
  seen-breaks a b broken = first-breaks (seen_pieces marks) (summary_pieces_of [] m watch tallies) a b broken

  pub summary-breaks : (a b d : Ends) → b ≡ after a (seen_pieces marks) → Breaks (summary_pieces_of [] m watch tallies) b d →
      Breaks (report_now m marks watch tallies) a d
  summary-breaks a b d one broken = second-breaks (seen_pieces marks) (summary_pieces_of [] m watch tallies) a b d one broken

-- the released bytes come before it
module _ (text released : List ℕ) (is : text ≡ released) (rest : List Piece) where
  same-piece : console_piece text ≡ console_piece released
  same-piece = ap console_piece is

  pub all-put : (a b d : Ends) → b ≡ after a (console_piece text) → d ≡ after b rest → d ≡ after a (console_piece released ++ rest)
  all-put a b d one other = both-put (console_piece released) rest a b d (one ∙ ap (after a) same-piece) other

  pub console-breaks : (a b : Ends) → Breaks (console_piece text) a b → Breaks (console_piece released ++ rest) a b
  console-breaks a b broken =
      first-breaks (console_piece released) rest a b (subst (λ (t : List Piece). Breaks t a b) same-piece broken)

  pub rest-breaks : (a b d : Ends) → b ≡ after a (console_piece text) → Breaks rest b d → Breaks (console_piece released ++ rest) a d
  rest-breaks a b d one broken = second-breaks (console_piece released) rest a b d (one ∙ ap (after a) same-piece) broken
