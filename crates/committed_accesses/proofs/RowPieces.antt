-- Rows that are put, one after another.
use Rattle.std.proofs.Common.{◌≡◌, ℕ, ◌+◌, ◌<◌, List, [], ◌∷◌, drop, length, get_or, sym, ap, subst, ◌∙◌, arith}
use Rattle.std.proofs.lemmas.List.{drop_all}
use Rattle.sn_base.specs.Image.{ImageData}
use Rattle.rv_core.specs.declared.state.CoreState.{CoreState}
use Rattle.rv_core.specs.declared.step.Record.{Record}
use Rattle.sink_pieces.specs.Pieces.{Piece, Report, Ends, after, Breaks}
use Rattle.sink_pieces.proofs.PieceLaws.{after-append, after-nil, Breaks-more, Breaks-after}
use Rattle.sink_pieces.proofs.SoFar.{SoFar, SoFar-more, SoFar-breaks, SoFar-whole}
use Rattle.committed_accesses.specs.Rows.{AccessRow, access_row, access_rows_from}
use Rattle.committed_accesses.specs.Lines.{row_line, row_pieces, header_line, access_pieces}
use Rattle.committed_accesses.specs.Cores.{AreGood, core_in, cores_after}
use Rattle.committed_accesses.proofs.Stepping.{rows_next, is_inside, good_next, dropped}

-- the pieces of records that these cores do
abbrev pub pieces_from : ImageData → List CoreState → List Record → List Piece
pieces_from image cores rs = row_pieces (access_rows_from image (core_in cores) rs)

module _ (image : ImageData) (cores : List CoreState) (rs : List Record) (i : ℕ) (r : Record) (below : i < length rs) (is : r ≡ get_or rs i r) (good : AreGood image cores (drop i rs)) where
  pub good_here : AreGood image cores (r ∷ drop (i + 1) rs)
  good_here = subst (λ (t : List Record). AreGood image cores t) (dropped rs i r below is) good

  pub good_later : (later : List CoreState) → later ≡ cores_after image cores r → AreGood image later (drop (i + 1) rs)
  good_later later e =
      subst (λ (cs : List CoreState). AreGood image cs (drop (i + 1) rs)) (sym e)
      (good_next image cores r (drop (i + 1) rs) good_here)

  here : pieces_from image cores (drop i rs)
      ≡ Report (row_line (access_row image (core_in cores r.core) r)) ∷ pieces_from image (cores_after image cores r) (drop (i + 1) rs)
  unfolding row_pieces
  here =
      ap (pieces_from image cores) (dropped rs i r below is)
      ∙ ap row_pieces (rows_next image cores r (is_inside image cores r (drop (i + 1) rs) good_here) (drop (i + 1) rs))

  module _ (all : List Piece) (line : List ℕ) (a b d : Ends) (wrote : line ≡ row_line (access_row image (core_in cores r.core) r)) (h : SoFar all (pieces_from image cores (drop i rs)) a b) where
    pub rows-next : (later : List CoreState) → later ≡ cores_after image cores r → d ≡ after b (Report line ∷ []) →
        SoFar all (pieces_from image later (drop (i + 1) rs)) a d
    rows-next later e put =
        subst (λ (cs : List CoreState). SoFar all (pieces_from image cs (drop (i + 1) rs)) a d) (sym e)
        (SoFar-more all (Report (row_line (access_row image (core_in cores r.core) r)) ∷ []) _ a b d
        (subst (λ (t : List Piece). SoFar all t a b) here h) (put ∙ ap (λ t. after b (Report t ∷ [])) wrote))

    pub rows-broken : Breaks (Report line ∷ []) b d → Breaks all a d
    rows-broken broken =
        SoFar-breaks all (Report (row_line (access_row image (core_in cores r.core) r)) ∷ []) _ a b d
        (subst (λ (t : List Piece). SoFar all t a b) here h) (subst (λ (t : List ℕ). Breaks (Report t ∷ []) b d) wrote broken)

pub rows-whole : (image : ImageData) (cores : List CoreState) (rs : List Record) (i : ℕ) (all : List Piece) (a b : Ends) → length rs ≡ i →
    SoFar all (pieces_from image cores (drop i rs)) a b → b ≡ after a all
unfolding row_pieces
rows-whole image cores rs i all a b e h =
    SoFar-whole all [] a b b
    (subst (λ (t : List Record). SoFar all (pieces_from image cores t) a b) (drop_all i rs (omega (arith, e))) h) (sym (after-nil b))

-- the header, and then the rows
module _ (rows made : List AccessRow) (same : made ≡ rows) where
  pub all-put : (a b d : Ends) → b ≡ after a (Report header_line ∷ []) → d ≡ after b (row_pieces made) → d ≡ after a (access_pieces rows)
  all-put a b d first second =
      second ∙ ap (λ e. after e (row_pieces made)) first ∙ after-append a (Report header_line ∷ []) (row_pieces made)
      ∙ ap (λ (t : List AccessRow). after a (access_pieces t)) same

  pub header-broken : (a b : Ends) → Breaks (Report header_line ∷ []) a b → Breaks (access_pieces rows) a b
  header-broken a b broken = Breaks-more (Report header_line ∷ []) (row_pieces rows) a b broken

  pub rows-broken_off : (a b d : Ends) → b ≡ after a (Report header_line ∷ []) → Breaks (row_pieces made) b d → Breaks (access_pieces rows) a d
  rows-broken_off a b d first broken =
      subst (λ (t : List AccessRow). Breaks (access_pieces t) a d) same
      (Breaks-after (Report header_line ∷ []) (row_pieces made) a d (subst (λ (e : Ends). Breaks (row_pieces made) e d) first broken))
