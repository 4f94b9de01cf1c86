use Rattle.std.proofs.Common.{◌≡◌, ◌+◌, ◌*◌, ◌%◌, ◌<◌, ℕ, Bool, true, false, Option, Some, None, List, sym, ap, ◌∙◌, subst}
use Rattle.cache_array.specs.Slots.{FrameSlots, first_of}
use Rattle.mosi_cache.specs.Frames.{FrameLine, LinesData, leaves, leaving_at, IsLeastLeaving}
use Rattle.mosi_cache.proofs.Least.{least-none, least-some}
use Rattle.sn_model.specs.Caches.{line_at}
use Rattle.mosi_cache.proofs.lines.Lines.least.Goals as goal

-- the frames that were looked at are those of the block's set
of_set : (d : FrameSlots) (js ks : List FrameLine) (spared : Option ℕ) (owned_too : Bool) (b n m s w : ℕ) (o : Option ℕ) →
    IsLeastLeaving (leaving_at d js spared owned_too) (m * w) (m * w + w) o →
    js ≡ ks → m ≡ n % s → n ≡ b → s ≡ d.sets → w ≡ d.ways →
    IsLeastLeaving (leaving_at d ks spared owned_too) (first_of d b) (first_of d b + d.ways) o
of_set d js ks spared owned_too b n m s w o h e f g i j =
    subst (λ (xs : List FrameLine). IsLeastLeaving (leaving_at d xs spared owned_too) (first_of d b) (first_of d b + d.ways) o) e
    (subst (λ (v : ℕ). IsLeastLeaving (leaving_at d js spared owned_too) ((b % d.sets) * v) ((b % d.sets) * v + v) o) j
    (subst (λ (k : ℕ). IsLeastLeaving (leaving_at d js spared owned_too) (k * w) (k * w + w) o)
    (f ∙ ap (λ k. k % s) g ∙ ap (λ k. b % k) i) h))

pub returns-in_err-number-clause-none : goal.returns-in_err-number-clause-none
returns-in_err-number-clause-none c = λ _ k _.
    subst (λ (d : LinesData). leaves d.sets (c.args.block % d.sets) c.args.spared c.args.owned_too k (line_at d.lines k).state
    ≡ false) c.self.view_is
    (least-none c.self.inside.frames c.self.inside.kept.items c.args.spared c.args.owned_too c.args.block c.self.invariant.0
    (of_set c.self.inside.frames c.deref.result.now c.self.inside.kept.items c.args.spared c.args.owned_too c.args.block c.number.result c.from.result c.self.inside.sets c.from-ways.result None
    (subst (IsLeastLeaving (leaving_at c.self.inside.frames c.deref.result.now c.args.spared c.args.owned_too)
    (c.from.result * c.from-ways.result) (c.from.result * c.from-ways.result + c.from-ways.result)) c.in_err-number.was c.least_of.ensures)
    c.deref.ensures.value c.from.ensures c.number.ensures.same c.self.invariant.1 (c.from-ways.ensures ∙ c.self.invariant.2)) k)

pub returns-clause-some : goal.returns-clause-some
returns-clause-some c =
    subst (λ (d : LinesData).
    (leaves d.sets (c.args.block % d.sets) c.args.spared c.args.owned_too c.new.result (line_at d.lines c.new.result).state ≡ true)
    × ((k : ℕ) → k < c.new.result →
    leaves d.sets (c.args.block % d.sets) c.args.spared c.args.owned_too k (line_at d.lines k).state ≡ false)) c.self.view_is
    (least-some c.self.inside.frames c.self.inside.kept.items c.args.spared c.args.owned_too c.args.block c.new.result c.self.invariant.0
    (of_set c.self.inside.frames c.deref.result.now c.self.inside.kept.items c.args.spared c.args.owned_too c.args.block c.number.result c.from.result c.self.inside.sets c.from-ways.result (Some c.new.result)
    (subst (IsLeastLeaving (leaving_at c.self.inside.frames c.deref.result.now c.args.spared c.args.owned_too)
    (c.from.result * c.from-ways.result) (c.from.result * c.from-ways.result + c.from-ways.result))
    (c.in_ok-number.was ∙ ap (λ (m : ℕ). let s : Option ℕ = Some m in s) (sym c.new.ensures)) c.least_of.ensures)
    c.deref.ensures.value c.from.ensures c.number.ensures.same c.self.invariant.1 (c.from-ways.ensures ∙ c.self.invariant.2)))
