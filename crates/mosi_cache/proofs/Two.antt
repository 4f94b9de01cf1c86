-- A map of two blocks fits a cache of two ways whose recovery has begun.
use Rattle.std.proofs.Common.{◌≡◌, ℕ, zero, suc, ◌+◌, ◌<◌, ◌≤◌, ◌%◌, Bool, true, false, ◌&&◌, ◌||◌, sym, ap, ◌∙◌, subst, arith, ⊎_elim}
use Rattle.std.specs.Prelude.{nat_eq, nat_lt, if◌then◌else◌}
use Rattle.std.proofs.lemmas.Bool.{cases_eq}
use Rattle.std.proofs.lemmas.Bool.Decides.{nat_tests}
use Rattle.sn_base.specs.declared.log.Old.{Old}
use Rattle.sn_base.specs.declared.log.Old.TheVariants.{NotOwned}
use Rattle.sn_model.specs.Caches.{Line, Cache, no_line, line_of, is_present, takes_frame, block_count, frames_below, frames_taken}
use Rattle.sn_model.specs.Cuts.{owned_content}
use Rattle.mosi_cache.specs.Controller.{CacheData}
use Rattle.mosi_cache.specs.Restored.{line_holding, cache_holding, HeldFits}
use Rattle.mosi_cache.specs.PartsFit.{holding-at}
use Rattle.sn_model.specs.PointEvents.{restored_line}
use Rattle.mosi_cache.proofs.Restored.{begun, begun-at, content_of, holding-restored}

step : (n x y i : ℕ) (c t : Bool) → i ≤ (if nat_lt x n then 1 else 0) + (if nat_lt y n then 1 else 0) →
    ((n ≡ x → ⊥) → (n ≡ y → ⊥) → t ≡ false) →
    i + (if c && t then 1 else 0) ≤ (if nat_lt x (suc n) then 1 else 0) + (if nat_lt y (suc n) then 1 else 0)
step n x y i c t h z =
    ⊎_elim
    (λ (e : n ≡ x). grind (arith, nat_tests))
    (λ (e : n ≡ x → ⊥). ⊎_elim
    (λ (f : n ≡ y). grind (arith, nat_tests))
    (λ (f : n ≡ y → ⊥). let q : t ≡ false = z e f in grind (arith, nat_tests))
    (cases_eq n y))
    (cases_eq n x)

two_below : (n : ℕ) (c : Cache) (sets s x y : ℕ) → ((b : ℕ) → b < n → (b ≡ x → ⊥) → (b ≡ y → ⊥) → takes_frame c b ≡ false) →
    frames_below n c sets s ≤ (if nat_lt x n then 1 else 0) + (if nat_lt y n then 1 else 0)
two_below zero c sets s x y h = omega arith
two_below (suc n) c sets s x y h =
    step n x y (frames_below n c sets s) (nat_eq (n % sets) s) (takes_frame c n) (two_below n c sets s x y (λ b l. h b (omega arith)))
    (h n (omega arith))

at_most : (i : ℕ) (p q : Bool) → i ≤ (if p then 1 else 0) + (if q then 1 else 0) → i ≤ 2
at_most i true true h = h
at_most i true false h = omega arith
at_most i false true h = omega arith
at_most i false false h = omega arith

two_taken : (c : Cache) (sets y a b : ℕ) → ((k : ℕ) → k < block_count → (k ≡ a → ⊥) → (k ≡ b → ⊥) → takes_frame c k ≡ false) →
    frames_taken c sets y ≤ 2
unfolding frames_taken
two_taken c sets y a b h =
    at_most (frames_below block_count c sets (y % sets)) (nat_lt a block_count) (nat_lt b block_count)
    (two_below block_count c sets (y % sets) a b h)

none_there : (c : CacheData) (m : ℕ → Old) (k : ℕ) → k < block_count → m k ≡ NotOwned →
    takes_frame (cache_holding (begun c).cache m) k ≡ false
none_there c m k l h =
    let x = line_of c.cache k in
    let e : line_of (cache_holding (begun c).cache m) k ≡ no_line =
    holding-at (begun c).cache.lines m k l
    ∙ ap (λ (y : Line). line_holding y (m k)) (begun-at c.cache.lines k)
    ∙ holding-restored (owned_content x x.state) (m k)
    ∙ ap (λ (o : Old). restored_line (content_of o)) h in
    ap (λ (y : Line). is_present y.state || false) e

pub two-fit : (c d : CacheData) (m : ℕ → Old) (a b : ℕ) → d ≡ begun c → 2 ≤ d.ways →
    ((k : ℕ) → k < block_count → (k ≡ a → ⊥) → (k ≡ b → ⊥) → m k ≡ NotOwned) → HeldFits d m
two-fit c d m a b q w h =
    subst (λ (x : CacheData). 2 ≤ x.ways → HeldFits x m) (sym q)
    (λ v y. omega (arith, v, two_taken (cache_holding (begun c).cache m) c.sets y a b (λ k l e f. none_there c m k l (h k l e f)))) w
