-- What is known of probes that are handed on.
use Rattle.std.proofs.Common.{◌≡◌, ℕ, List, ap}
use Rattle.std.specs.Prelude.{Vec}
use Rattle.std.specs.declared.alloc.Global.{Global}
use Rattle.std.specs.declared.dyn_box.DynBox.{DynBox}
use Rattle.sn_base.specs.declared.event.Event.{Event}
use Rattle.sn_base.specs.declared.event.Answer.{Answer}
use Rattle.sn_probe.specs.Probes.{meters_in}

-- the same probes in the same boxes
pub meters-same : {I : Type 0} {D : I → Type 0} (first tally : (x : I) × D x → List ℕ)
    (step : (x : I) × D x → List ℕ → ℕ → Event → Answer → List ℕ) (a b : Vec (DynBox I Global D) Global) → a ≡ b →
    meters_in first tally step a.items ≡ meters_in first tally step b.items
meters-same first tally step a b e = ap (λ v. meters_in first tally step v.items) e
