-- What the console and the report have after pieces: all of their text, or its beginning.
use Rattle.std.proofs.Common.{◌≡◌, ℕ, List, [], ◌∷◌, ◌++◌, take, drop, refl, ap, sym, ◌∙◌, append_assoc, append-nil}
use Rattle.std.proofs.lemmas.List.{take-append-drop}
use Rattle.sn_io.specs.Outside.{followed_by}
use Rattle.sink_pieces.specs.Pieces.{Piece, Console, Report, console_text, report_text, first_bytes, Ends, after, console_piece}
use Rattle.sink_pieces.specs.Pieces.{HasBeginning}
use Rattle.sink_pieces.proofs.PieceLaws.{console_text-append, report_text-append}

pub console_text-piece : (bytes : List ℕ) → console_text (console_piece bytes) ≡ bytes
console_text-piece [] = refl
console_text-piece (byte ∷ bytes) = append-nil (byte ∷ bytes)

pub report_text-piece : (bytes : List ℕ) → report_text (console_piece bytes) ≡ []
report_text-piece [] = refl
report_text-piece (byte ∷ bytes) = refl

pub console-after : (a b : Ends) (pieces : List Piece) → b ≡ after a pieces → b.console ≡ followed_by a.console (console_text pieces)
unfolding after
console-after a b pieces e = ap (λ (t : Ends). t.console) e

pub report-after : (a b : Ends) (pieces : List Piece) → b ≡ after a pieces → b.report ≡ followed_by a.report (report_text pieces)
unfolding after
report-after a b pieces e = ap (λ (t : Ends). t.report) e

-- the beginning of a text, where a part of the middle is there
begins : (first middle last text : List ℕ) (n : ℕ) → text ≡ first ++ (middle ++ last) →
    (first ++ take n middle) ++ (drop n middle ++ last) ≡ text
begins first middle last text n is =
    append_assoc first (take n middle) (drop n middle ++ last)
    ∙ ap (λ t. first ++ t) (sym (append_assoc (take n middle) (drop n middle) last) ∙ ap (λ t. t ++ last) (take-append-drop n middle))
    ∙ sym is

pub console-begun : (pieces whole rest : List Piece) (piece : Piece) (n : ℕ) (before behind : Ends) → pieces ≡ whole ++ piece ∷ rest →
    behind ≡ after before (whole ++ first_bytes n piece ∷ []) → HasBeginning (console_text pieces) before.console behind.console
console-begun pieces whole rest (Console bytes) n before behind all put = record {
  put = console_text whole ++ take n bytes;
  left = drop n bytes ++ console_text rest;
  whole =
      begins (console_text whole) bytes (console_text rest) (console_text pieces) n
      (ap (λ t. console_text t) all ∙ console_text-append whole (Console bytes ∷ rest));
  written = console-after before behind (whole ++ Console (take n bytes) ∷ []) put
      ∙ ap (followed_by before.console)
      (console_text-append whole (Console (take n bytes) ∷ []) ∙ ap (λ t. console_text whole ++ t) (append-nil (take n bytes)));
}
console-begun pieces whole rest (Report bytes) n before behind all put = record {
  put = console_text whole;
  left = console_text rest;
  whole = sym (ap (λ t. console_text t) all ∙ console_text-append whole (Report bytes ∷ rest));
  written = console-after before behind (whole ++ Report (take n bytes) ∷ []) put
      ∙ ap (followed_by before.console) (console_text-append whole (Report (take n bytes) ∷ []) ∙ append-nil (console_text whole));
}

pub report-begun : (pieces whole rest : List Piece) (piece : Piece) (n : ℕ) (before behind : Ends) → pieces ≡ whole ++ piece ∷ rest →
    behind ≡ after before (whole ++ first_bytes n piece ∷ []) → HasBeginning (report_text pieces) before.report behind.report
report-begun pieces whole rest (Report bytes) n before behind all put = record {
  put = report_text whole ++ take n bytes;
  left = drop n bytes ++ report_text rest;
  whole =
      begins (report_text whole) bytes (report_text rest) (report_text pieces) n
      (ap (λ t. report_text t) all ∙ report_text-append whole (Report bytes ∷ rest));
  written = report-after before behind (whole ++ Report (take n bytes) ∷ []) put
      ∙ ap (followed_by before.report)
      (report_text-append whole (Report (take n bytes) ∷ []) ∙ ap (λ t. report_text whole ++ t) (append-nil (take n bytes)));
}
report-begun pieces whole rest (Console bytes) n before behind all put = record {
  put = report_text whole;
  left = report_text rest;
  whole = sym (ap (λ t. report_text t) all ∙ report_text-append whole (Console bytes ∷ rest));
  written = report-after before behind (whole ++ Console (take n bytes) ∷ []) put
      ∙ ap (followed_by before.report) (report_text-append whole (Console (take n bytes) ∷ []) ∙ append-nil (report_text whole));
}
