-- The rules of a run, by options that are the same.
use Rattle.std.proofs.Common.{◌≡◌, ℕ, refl, Option}
use Rattle.option_values.specs.Values.{Text}
use Rattle.option_values.specs.Runs.{run_rules_by}

pub same_rules : (nodes : ℕ) (a b c d e f i w l k g s : Option Text) → a ≡ i → b ≡ w → c ≡ l → d ≡ k → e ≡ g → f ≡ s
    → run_rules_by nodes a b c d e f ≡ run_rules_by nodes i w l k g s
same_rules nodes a b c d e f i w l k g s ai bw cl dk eg fs = rw (ai, bw, cl, dk, eg, fs) refl
