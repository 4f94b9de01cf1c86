-- The pieces of the end: the rows of the committed trace, and then the summary.
use Rattle.std.proofs.Common.{◌≡◌, ℕ, List, ap, sym, subst, ◌∙◌}
use Rattle.std.specs.Prelude.{Option, codes}
use Rattle.sn_base.specs.Image.{ImageData}
use Rattle.rv_core.specs.declared.step.Record.{Record}
use Rattle.rv_core.specs.Execution.{IsExecution}
use Rattle.sn_machine.specs.Machine.{MachineData, IsConsistentWithItsRun}
use Rattle.sink_pieces.specs.Pieces.{Piece, Ends, after, Breaks}
use Rattle.sink_pieces.proofs.PieceLaws.{after-append, Breaks-more, Breaks-after}
use Rattle.committed_accesses.specs.Rows.{AccessRow, access_rows_of}
use Rattle.committed_accesses.specs.Lines.{access_pieces}
use Rattle.script_replay.specs.Pieces.{summary_pieces}
use Rattle.accesses_replay.specs.Pieces.{end_pieces}

-- a machine's committed trace is an execution
pub committed-executes : (shown m : MachineData) (image : ImageData) (nodes : ℕ) (records : List Record) → IsConsistentWithItsRun m →
    shown ≡ m → image ≡ m.image → nodes ≡ m.config.nodes → records ≡ shown.state.committed → IsExecution image nodes records
committed-executes shown m image nodes records with_run is image_is nodes_is records_is =
    let all : IsExecution m.image m.config.nodes m.state.committed = (with_run.consistent with_run.origin with_run.events with_run.led).execution in
    subst (λ (i : ImageData). IsExecution i nodes records) (sym image_is)
    (subst (λ (n : ℕ). IsExecution m.image n records) (sym nodes_is)
    (subst (λ (rs : List Record). IsExecution m.image m.config.nodes rs)
    (sym (records_is ∙ ap (λ (t : MachineData). t.state.committed) is)) all))

abbrev summed : MachineData → Option ℕ → List (List ℕ) → List Piece
summed m watch tallies = summary_pieces (codes "# ") m.image m.config watch tallies m.applied m.state

abbrev rows-due : MachineData → List Piece
rows-due m = access_pieces (access_rows_of m.image m.config.nodes m.state.committed)

module _ (shown m : MachineData) (image : ImageData) (nodes : ℕ) (records : List Record) (is : shown ≡ m) (image_is : image ≡ m.image) (nodes_is : nodes ≡ m.config.nodes) (records_is : records ≡ shown.state.committed) (watch : Option ℕ) (tallies : List (List ℕ)) where
  rows-are : access_pieces (access_rows_of image nodes records) ≡ rows-due m
  rows-are =
      ap (λ (i : ImageData). access_pieces (access_rows_of i nodes records)) image_is
      ∙ ap (λ (n : ℕ). access_pieces (access_rows_of m.image n records)) nodes_is
      ∙ ap (λ (rs : List Record). access_pieces (access_rows_of m.image m.config.nodes rs))
      (records_is ∙ ap (λ (t : MachineData). t.state.committed) is)

  pub end-put : (a b d : Ends) → b ≡ after a (access_pieces (access_rows_of image nodes records)) → d ≡ after b (summed m watch tallies) →
      d ≡ after a (end_pieces m.image m.config watch tallies m.applied m.state)
  unfolding end_pieces
  end-put a b d first second =
      second ∙ ap (λ (e : Ends). after e (summed m watch tallies)) (first ∙ ap (after a) rows-are)
      ∙ after-append a (rows-due m) (summed m watch tallies)

  pub rows-broken : (a b : Ends) → Breaks (access_pieces (access_rows_of image nodes records)) a b →
      Breaks (end_pieces m.image m.config watch tallies m.applied m.state) a b
  unfolding end_pieces
  rows-broken a b broken =
      Breaks-more (rows-due m) (summed m watch tallies) a b (subst (λ (ps : List Piece). Breaks ps a b) rows-are broken)

  pub summary-broken : (a b d : Ends) → b ≡ after a (access_pieces (access_rows_of image nodes records)) →
      Breaks (summed m watch tallies) b d → Breaks (end_pieces m.image m.config watch tallies m.applied m.state) a d
  unfolding end_pieces
  summary-broken a b d first broken =
      Breaks-after (rows-due m) (summed m watch tallies) a d
      (subst (λ (e : Ends). Breaks (summed m watch tallies) e d) (first ∙ ap (after a) rows-are) broken)
