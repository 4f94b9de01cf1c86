use Rattle.std.proofs.Common.{◌≡◌, ℕ, List, [], ◌∷◌, ◌++◌, map, refl, ap, sym, subst}
use Rattle.std.specs.Prelude.{option_to_list}
use Rattle.sn_base.specs.Image.{ImageData}
use Rattle.rv_core.specs.declared.state.CoreState.{CoreState}
use Rattle.rv_core.specs.declared.step.Record.{Record}
use Rattle.rv_core.specs.Flat.{flat_start, core_at, initial_memory}
use Rattle.sn_consistency.specs.Projections.{core_step}
use Rattle.access_check.specs.declared.access.Access.{Access}
use Rattle.access_check.specs.Legal.{AreLegal, memory_of}
use Rattle.access_check.specs.Executions.{access_of, accesses_from}
use Rattle.committed_accesses.specs.Rows.{AccessRow, access_rows_from, accesses_in}
use Rattle.committed_accesses.proofs.laws.rows_have_the_accesses.Goals as goal

cores_same : (image : ImageData) (c : ℕ → CoreState) (rs : List Record) →
    map (λ (row : AccessRow). row.core) (access_rows_from image c rs) ≡ map (λ (r : Record). r.core) rs
cores_same image c [] = refl
cores_same image c (r ∷ rs) = ap (λ (t : List ℕ). r.core ∷ t) (cores_same image (λ n. core_step image n (c n) r) rs)

accesses_same : (image : ImageData) (c : ℕ → CoreState) (rs : List Record) →
    accesses_in (access_rows_from image c rs) ≡ accesses_from image c rs
accesses_same image c [] = refl
accesses_same image c (r ∷ rs) =
    ap (λ (t : List Access). option_to_list (access_of image (c r.core) r) ++ t) (accesses_same image (λ n. core_step image n (c n) r) rs)

pub returns-clause-records : goal.returns-clause-records
returns-clause-records c = λ image nodes rs. cores_same image (core_at (flat_start image nodes)) rs

pub returns-clause-accesses : goal.returns-clause-accesses
returns-clause-accesses c = λ image nodes rs. accesses_same image (core_at (flat_start image nodes)) rs

pub returns-clause-legal : goal.returns-clause-legal
returns-clause-legal c = λ image nodes rs h.
    subst (λ (accesses : List Access). AreLegal (memory_of (initial_memory image)) accesses)
    (sym (accesses_same image (core_at (flat_start image nodes)) rs)) (c.accesses_of_executions_are_legal.ensures.legal image nodes rs h)
