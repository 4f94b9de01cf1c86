-- What stays settled but for the touched frames: a frame is touched and gets a line, and a frame is freed.
use Rattle.std.proofs.Common.{◌≡◌, ◌≢◌, ℕ, ◌<◌, Bool, true, false, List, length, set, Some, None, refl, sym, ap, ◌∙◌}
use Rattle.std.proofs.Common.{arith, length-set}
use Rattle.std.specs.Prelude.{nat_eq}
use Rattle.std.proofs.lemmas.Bool.Decides.{nat_tests}
use Rattle.std.proofs.lemmas.List.{get_or-set_same, get_or-set_other}
use Rattle.std.proofs.lemmas.Option.{none-some}
use Rattle.touched_places.specs.Touched.{is_marked}
use Rattle.cache_array.specs.Slots.{FrameSlots, block_at, slots_with_block, slots_without_block}
use Rattle.sn_model.specs.declared.cache.LineState.TheVariants.{Modified}
use Rattle.mosi_cache.specs.Frames.{FrameLine, kept_at}
use Rattle.mosi_cache.specs.Unshared.{AreSettled}

-- frames that have the same blocks but for a touched one
pub settled-touched : (marks : List Bool) (d e : FrameSlots) (ks : List FrameLine) (f : ℕ) (x : FrameLine) → f < length ks →
    ((g : ℕ) → g ≢ f → block_at e g ≡ block_at d g) → AreSettled marks d ks → AreSettled (set marks f true) e (set ks f x)
settled-touched marks d e ks f x l same h = record {
  whole = length-set marks f true ∙ (h.whole ∙ sym (length-set ks f x));
  others = λ g b k j. by_test g b (nat_eq f g) refl k j;
}
  where
    by_test : (g b : ℕ) (t : Bool) → nat_eq f g ≡ t → is_marked (set marks f true) g ≡ false → block_at e g ≡ Some b →
        (kept_at (set ks f x) g).state ≡ Modified
    by_test g b true q k j =
        let s : f ≡ g = grind (arith, nat_tests) in
        let m : is_marked (set marks f true) f ≡ false = ap (is_marked (set marks f true)) s ∙ k in
        let n : is_marked (set marks f true) f ≡ true = get_or-set_same marks f true false (omega (arith, h.whole)) in
        absurd (grind arith)
    by_test g b false q k j =
        let n : g ≢ f = λ s. grind (arith, nat_tests) in
        ap (λ (y : FrameLine). y.state) (get_or-set_other ks f g x _ n)
        ∙ h.others g b (sym (get_or-set_other marks f g true false n) ∙ k) (sym (same g n) ∙ j)

-- a block in a frame changes no other
pub other-taken : (d : FrameSlots) (f b g : ℕ) → g ≢ f → block_at (slots_with_block d f b) g ≡ block_at d g
other-taken d f b g n = get_or-set_other d.slots f g (Some b) None n

-- a frame that is freed is settled
pub settled-freed : (marks : List Bool) (d : FrameSlots) (ks : List FrameLine) (f : ℕ) → f < length d.slots → AreSettled marks d ks →
    AreSettled marks (slots_without_block d f) ks
settled-freed marks d ks f l h = record { whole = h.whole; others = λ g b k j. by_test g b (nat_eq f g) refl k j }
  where
    by_test : (g b : ℕ) (t : Bool) → nat_eq f g ≡ t → is_marked marks g ≡ false → block_at (slots_without_block d f) g ≡ Some b →
        (kept_at ks g).state ≡ Modified
    by_test g b true q k j =
        let s : f ≡ g = grind (arith, nat_tests) in
        absurd (none-some b (sym (get_or-set_same d.slots f None None l) ∙ ap (block_at (slots_without_block d f)) s ∙ j))
    by_test g b false q k j =
        let n : g ≢ f = λ s. grind (arith, nat_tests) in h.others g b k (sym (get_or-set_other d.slots f g None None n) ∙ j)
