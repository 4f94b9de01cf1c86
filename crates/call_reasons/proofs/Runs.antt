-- The flat machine runs through records, one after another.
use Rattle.std.proofs.Common.{◌≡◌, ℕ, ◌+◌, ◌<◌, ◌↔◌, List, ◌∷◌, drop, length, get_or, ap, sym, subst, ◌∙◌, arith}
use Rattle.std.proofs.lemmas.List.{drop_more, drop_all}
use Rattle.sn_base.specs.Image.{ImageData}
use Rattle.rv_core.specs.declared.step.Record.{Record}
use Rattle.rv_core.specs.Flat.{FlatState, HasStep, flat_step}
use Rattle.rv_core.specs.Execution.{Executes, state_after}

module _ (image : ImageData) (records : List Record) (i : ℕ) where
  here_is : (r : Record) → i < length records → r ≡ get_or records i r → drop i records ≡ r ∷ drop (i + 1) records
  here_is r below is = drop_more records i r below ∙ ap (λ e. e ∷ drop (i + 1) records) (sym is)

  -- one more
  pub run_next : (r : Record) → i < length records → r ≡ get_or records i r → (start flat next : FlatState) → next ≡ flat_step image flat r →
      state_after image flat (drop i records) ≡ state_after image start records →
      state_after image next (drop (i + 1) records) ≡ state_after image start records
  run_next r below is start flat next stepped h =
      ap (λ (x : FlatState). state_after image x (drop (i + 1) records)) stepped
      ∙ ap (state_after image flat) (sym (here_is r below is))
      ∙ h

  pub steps_next : (r : Record) → i < length records → r ≡ get_or records i r → (start flat next : FlatState) → next ≡ flat_step image flat r →
      HasStep image flat r → (Executes image flat (drop i records) ↔ Executes image start records) →
      (Executes image next (drop (i + 1) records) ↔ Executes image start records)
  steps_next r below is start flat next stepped has h =
      let here = here_is r below is in (
        λ e. h.0 (subst (Executes image flat) (sym here) (has, subst (λ (x : FlatState). Executes image x (drop (i + 1) records)) stepped e)),
        λ e. subst (λ (x : FlatState). Executes image x (drop (i + 1) records)) (sym stepped) (subst (Executes image flat) here (h.1 e)).1,
      )

  -- one that is no step
  pub steps_stop : (r : Record) → i < length records → r ≡ get_or records i r → (start flat : FlatState) → (HasStep image flat r → ⊥) →
      (Executes image flat (drop i records) ↔ Executes image start records) → Executes image start records → ⊥
  steps_stop r below is start flat fails h e = fails (subst (Executes image flat) (here_is r below is) (h.1 e)).0

  -- none is left
  pub run_last : length records ≡ i → (start flat : FlatState) → state_after image flat (drop i records) ≡ state_after image start records →
      flat ≡ state_after image start records
  run_last end start flat h = ap (state_after image flat) (sym (drop_all i records (omega (arith, end)))) ∙ h

  pub steps_last : length records ≡ i → (start flat : FlatState) → (Executes image flat (drop i records) ↔ Executes image start records) →
      Executes image start records
  steps_last end start flat h = h.0 (subst (Executes image flat) (sym (drop_all i records (omega (arith, end)))) tt)
