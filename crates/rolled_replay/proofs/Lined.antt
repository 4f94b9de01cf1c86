-- The lines of controls are put one after another.
use Rattle.std.proofs.Common.{◌≡◌, ℕ, ◌+◌, ◌<◌, List, [], ◌∷◌, ◌++◌, drop, length, get_or, refl, ap, sym, subst, ◌∙◌, arith}
use Rattle.std.proofs.lemmas.List.{drop_more, drop_all}
use Rattle.sink_pieces.specs.Pieces.{Piece, Report, Ends, after, Breaks}
use Rattle.sink_pieces.proofs.PieceLaws.{after-nil}
use Rattle.sink_pieces.proofs.SoFar.{SoFar, SoFar-more, SoFar-breaks, SoFar-whole}
use Rattle.rolling_recovery.specs.declared.controls.Control.{Control}
use Rattle.rolled_replay.specs.declared.stage.Stage.{Stage}
use Rattle.rolled_replay.specs.Stages.{reply_to, next_stage, stage_after}
use Rattle.rolled_replay.specs.Text.{control_line}
use Rattle.rolled_replay.specs.Pieces.{control_pieces}

pieces-next : (done : ℕ) (stage : Stage) (call : Control) (calls : List Control) →
    control_pieces done stage (call ∷ calls)
    ≡ Report (control_line (done + 1) call (reply_to stage call)) ∷ control_pieces (done + 1) (next_stage stage call) calls
unfolding control_pieces
pieces-next done stage call calls = refl

pieces-none : (done : ℕ) (stage : Stage) → control_pieces done stage [] ≡ []
unfolding control_pieces
pieces-none done stage = refl

-- so many controls of these led from one stage to another, and their lines were put
pub record IsLed (first : Stage) (controls : List Control) (i : ℕ) (stage : Stage) : Type 0 where
  pub last : stage_after stage (drop i controls) ≡ stage_after first controls

module _ (controls : List Control) (i : ℕ) (call : Control) (below : i < length controls) (is : call ≡ get_or controls i call) where
  pub left-next : drop i controls ≡ call ∷ drop (i + 1) controls
  left-next = drop_more controls i call below ∙ ap (λ c. c ∷ drop (i + 1) controls) (sym is)

  pub last-next : (first stage : Stage) → stage_after stage (drop i controls) ≡ stage_after first controls →
      stage_after (next_stage stage call) (drop (i + 1) controls) ≡ stage_after first controls
  last-next first stage h = ap (stage_after stage) (sym left-next) ∙ h

  module _ (all : List Piece) (stage : Stage) (place : ℕ) (at : place ≡ i) (bytes : List ℕ) (same : bytes ≡ control_line (place + 1) call (reply_to stage call)) (a b d : Ends) (h : SoFar all (control_pieces i stage (drop i controls)) a b) where
    line : bytes ≡ control_line (i + 1) call (reply_to stage call)
    line = same ∙ ap (λ k. control_line (k + 1) call (reply_to stage call)) at

    split : SoFar all ((Report (control_line (i + 1) call (reply_to stage call)) ∷ [])
        ++ control_pieces (i + 1) (next_stage stage call) (drop (i + 1) controls)) a b
    split = subst (λ (t : List Piece). SoFar all t a b)
        (ap (control_pieces i stage) left-next ∙ pieces-next i stage call (drop (i + 1) controls)) h

    pub line-next : d ≡ after b (Report bytes ∷ []) →
        SoFar all (control_pieces (i + 1) (next_stage stage call) (drop (i + 1) controls)) a d
    line-next more = SoFar-more all (Report (control_line (i + 1) call (reply_to stage call)) ∷ []) _ a b d split
        (more ∙ ap (λ t. after b (Report t ∷ [])) line)

    pub line-breaks : Breaks (Report bytes ∷ []) b d → Breaks all a d
    line-breaks broken = SoFar-breaks all (Report (control_line (i + 1) call (reply_to stage call)) ∷ []) _ a b d split
        (subst (λ (t : List ℕ). Breaks (Report t ∷ []) b d) line broken)

pub lines-whole : (all : List Piece) (controls : List Control) (i : ℕ) (stage : Stage) (a b : Ends) → length controls ≡ i →
    SoFar all (control_pieces i stage (drop i controls)) a b → b ≡ after a all
lines-whole all controls i stage a b e h =
    SoFar-whole all [] a b b
    (subst (λ (t : List Piece). SoFar all t a b)
    (ap (control_pieces i stage) (drop_all i controls (omega (arith, e))) ∙ pieces-none i stage) h) (sym (after-nil b))

pub last-whole : (first : Stage) (controls : List Control) (i : ℕ) (stage : Stage) → length controls ≡ i →
    stage_after stage (drop i controls) ≡ stage_after first controls → stage ≡ stage_after first controls
last-whole first controls i stage e h = ap (stage_after stage) (sym (drop_all i controls (omega (arith, e)))) ∙ h
