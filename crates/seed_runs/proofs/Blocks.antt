-- A block that is put part by part: its head, what stands in the middle, and its tail.
use Rattle.std.proofs.Common.{◌≡◌, ℕ, Bool, true, false, List, [], ◌∷◌, ◌++◌, ap, sym, subst, ◌∙◌}
use Rattle.sink_pieces.specs.Pieces.{Piece, Report, Ends, after, Breaks}
use Rattle.sink_pieces.proofs.PieceLaws.{after-append, after-nil, Breaks-more, Breaks-after}
use Rattle.seed_runs.specs.Pieces.{piece_if}

module _ (head : Piece) (middle tail : List Piece) where
  -- the first two parts are put
  two-put : (e0 e1 e2 : Ends) → e1 ≡ after e0 (head ∷ []) → e2 ≡ after e1 middle → e2 ≡ after e0 (head ∷ middle)
  two-put e0 e1 e2 h k = k ∙ ap (λ (e : Ends). after e middle) h ∙ after-append e0 (head ∷ []) middle

  pub block-put : (e0 e1 e2 e3 : Ends) → e1 ≡ after e0 (head ∷ []) → e2 ≡ after e1 middle → e3 ≡ after e2 tail →
      e3 ≡ after e0 (head ∷ (middle ++ tail))
  block-put e0 e1 e2 e3 h k l =
      l ∙ ap (λ (e : Ends). after e tail) (two-put e0 e1 e2 h k) ∙ after-append e0 (head ∷ middle) tail

  -- one of the parts breaks
  pub head-breaks : (e0 e : Ends) → Breaks (head ∷ []) e0 e → Breaks (head ∷ (middle ++ tail)) e0 e
  head-breaks e0 e broken = Breaks-more (head ∷ []) (middle ++ tail) e0 e broken

  pub middle-breaks : (e0 e1 e : Ends) → e1 ≡ after e0 (head ∷ []) → Breaks middle e1 e → Breaks (head ∷ (middle ++ tail)) e0 e
  middle-breaks e0 e1 e h broken =
      Breaks-after (head ∷ []) (middle ++ tail) e0 e
      (subst (λ (t : Ends). Breaks (middle ++ tail) t e) h (Breaks-more middle tail e1 e broken))

  pub tail-breaks : (e0 e1 e2 e : Ends) → e1 ≡ after e0 (head ∷ []) → e2 ≡ after e1 middle → Breaks tail e2 e →
      Breaks (head ∷ (middle ++ tail)) e0 e
  tail-breaks e0 e1 e2 e h k broken =
      Breaks-after (head ∷ middle) tail e0 e (subst (λ (t : Ends). Breaks tail t e) (two-put e0 e1 e2 h k) broken)

-- the same of two parts
pub both-put : (middle tail : List Piece) (e0 e1 e2 : Ends) → e1 ≡ after e0 middle → e2 ≡ after e1 tail → e2 ≡ after e0 (middle ++ tail)
both-put middle tail e0 e1 e2 h k = k ∙ ap (λ (e : Ends). after e tail) h ∙ after-append e0 middle tail

pub first-breaks : (middle tail : List Piece) (e0 e : Ends) → Breaks middle e0 e → Breaks (middle ++ tail) e0 e
first-breaks middle tail e0 e broken = Breaks-more middle tail e0 e broken

pub last-breaks : (middle tail : List Piece) (e0 e1 e : Ends) → e1 ≡ after e0 middle → Breaks tail e1 e → Breaks (middle ++ tail) e0 e
last-breaks middle tail e0 e1 e h broken = Breaks-after middle tail e0 e (subst (λ (t : Ends). Breaks tail t e) h broken)

-- a text where it is asked for, and where it isn't
pub if-put : (asked : Bool) (text : List ℕ) (before behind : Ends) → asked ≡ true → behind ≡ after before (Report text ∷ []) →
    behind ≡ after before (piece_if asked text)
if-put asked text before behind is put = put ∙ ap (λ (b : Bool). after before (piece_if b text)) (sym is)

pub if-broke : (asked : Bool) (text : List ℕ) (before behind : Ends) → asked ≡ true → Breaks (Report text ∷ []) before behind →
    Breaks (piece_if asked text) before behind
if-broke asked text before behind is broken = subst (λ (b : Bool). Breaks (piece_if b text) before behind) (sym is) broken

pub if-none : (asked : Bool) (text : List ℕ) (e : Ends) → asked ≡ false → e ≡ after e (piece_if asked text)
if-none asked text e isnt = sym (after-nil e) ∙ ap (λ (b : Bool). after e (piece_if b text)) (sym isnt)
