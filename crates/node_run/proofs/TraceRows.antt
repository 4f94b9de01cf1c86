-- The rows of the committed trace of a machine, and then the summary.
use Rattle.std.proofs.Common.{◌≡◌, ℕ, List, ap, sym, subst, ◌∙◌}
use Rattle.std.specs.Prelude.{Option, codes}
use Rattle.sn_base.specs.Image.{ImageData}
use Rattle.rv_core.specs.declared.step.Record.{Record}
use Rattle.rv_core.specs.Execution.{IsExecution}
use Rattle.script_replay.specs.Machine.{MachineData, IsConsistentWithItsRun}
use Rattle.sink_pieces.specs.Pieces.{Piece, Ends, after, Breaks}
use Rattle.sink_pieces.proofs.PieceLaws.{after-append, Breaks-more, Breaks-after}
use Rattle.committed_accesses.specs.Rows.{access_rows_of}
use Rattle.committed_accesses.specs.Lines.{access_pieces}
use Rattle.script_replay.specs.Played.{summary_pieces_of}
use Rattle.node_run.specs.Reported.{rows_now}

-- what the rows are made of is the machine's
module _ (shown m : MachineData) (image : ImageData) (nodes : ℕ) (records : List Record) (is : shown ≡ m) (image_is : image ≡ m.image) (nodes_is : nodes ≡ m.config.nodes) (records_is : records ≡ shown.state.committed) where
  its-records : records ≡ m.state.committed
  its-records = records_is ∙ ap (λ (t : MachineData). t.state.committed) is

  -- a machine's committed trace is an execution
  pub committed-executes : IsConsistentWithItsRun m → IsExecution image nodes records
  committed-executes with_run =
      let all : IsExecution m.image m.config.nodes m.state.committed = (with_run.consistent with_run.origin with_run.events with_run.led).execution in
      subst (λ (i : ImageData). IsExecution i nodes records) (sym image_is)
      (subst (λ (n : ℕ). IsExecution m.image n records) (sym nodes_is)
      (subst (λ (rs : List Record). IsExecution m.image m.config.nodes rs) (sym its-records) all))

  abbrev rows-due : List Piece
  rows-due = access_pieces (access_rows_of m.image m.config.nodes m.state.committed)

  rows-are : access_pieces (access_rows_of image nodes records) ≡ rows-due
  rows-are =
      ap (λ (i : ImageData). access_pieces (access_rows_of i nodes records)) image_is
      ∙ ap (λ (n : ℕ). access_pieces (access_rows_of m.image n records)) nodes_is
      ∙ ap (λ (rs : List Record). access_pieces (access_rows_of m.image m.config.nodes rs)) its-records

  module _ (watch : Option ℕ) (tallies : List (List ℕ)) where
    abbrev summed : List Piece
    summed = summary_pieces_of (codes "# ") m watch tallies

    pub rows-all : (a b d : Ends) → b ≡ after a (access_pieces (access_rows_of image nodes records)) → d ≡ after b summed →
        d ≡ after a (rows_now m watch tallies)
    rows-all a b d first second =
        second ∙ ap (λ (e : Ends). after e summed) (first ∙ ap (after a) rows-are) ∙ after-append a rows-due summed

    pub rows-breaks_first : (a b : Ends) → Breaks (access_pieces (access_rows_of image nodes records)) a b →
        Breaks (rows_now m watch tallies) a b
    rows-breaks_first a b broken =
        Breaks-more rows-due summed a b (subst (λ (ps : List Piece). Breaks ps a b) rows-are broken)

    pub rows-breaks_second : (a b d : Ends) → b ≡ after a (access_pieces (access_rows_of image nodes records)) → Breaks summed b d →
        Breaks (rows_now m watch tallies) a d
    rows-breaks_second a b d first broken =
        Breaks-after rows-due summed a d (subst (λ (e : Ends). Breaks summed e d) (first ∙ ap (after a) rows-are) broken)
