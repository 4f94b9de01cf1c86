-- What has been put so far of a list of pieces, and what is left.
use Rattle.std.proofs.Common.{◌≡◌, List, [], ◌++◌, refl, ap, sym, subst, ◌∙◌, append_assoc}
use Rattle.sink_pieces.specs.Pieces.{Piece, Ends, after, Breaks}
use Rattle.sink_pieces.proofs.PieceLaws.{after-append, after-nil, Breaks-more, Breaks-after}

-- some of the pieces have been put, and these are left
pub record SoFar (all left : List Piece) (before now_ : Ends) : Type 0 where
  pub done : List Piece
  pub put : now_ ≡ after before done
  pub split : done ++ left ≡ all

pub SoFar-start : (all : List Piece) (e : Ends) → SoFar all all e e
SoFar-start all e = record { done = []; put = sym (after-nil e); split = refl }

-- the first of those that are left are put
pub SoFar-more : (all ps left : List Piece) (a b d : Ends) → SoFar all (ps ++ left) a b → d ≡ after b ps → SoFar all left a d
SoFar-more all ps left a b d h e = record {
  done = h.done ++ ps;
  put = e ∙ ap (λ t. after t ps) h.put ∙ after-append a h.done ps;
  split = append_assoc h.done ps left ∙ h.split;
}

-- the first of those that are left are broken off
pub SoFar-breaks : (all ps left : List Piece) (a b d : Ends) → SoFar all (ps ++ left) a b → Breaks ps b d → Breaks all a d
SoFar-breaks all ps left a b d h broken =
    subst (λ (t : List Piece). Breaks t a d) h.split
    (Breaks-after h.done (ps ++ left) a d (subst (λ (t : Ends). Breaks (ps ++ left) t d) h.put (Breaks-more ps left b d broken)))

-- all are put
pub SoFar-whole : (all ps : List Piece) (a b d : Ends) → SoFar all ps a b → d ≡ after b ps → d ≡ after a all
SoFar-whole all ps a b d h e = e ∙ ap (λ t. after t ps) h.put ∙ after-append a h.done ps ∙ ap (after a) h.split

-- the last are broken off
pub SoFar-breaks_last : (all ps : List Piece) (a b d : Ends) → SoFar all ps a b → Breaks ps b d → Breaks all a d
SoFar-breaks_last all ps a b d h broken =
    subst (λ (t : List Piece). Breaks t a d) h.split (Breaks-after h.done ps a d (subst (λ (t : Ends). Breaks ps t d) h.put broken))
