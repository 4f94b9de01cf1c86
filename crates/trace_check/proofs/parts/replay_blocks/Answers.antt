use Rattle.std.proofs.Common.{◌≡◌, ℕ, ◌≤◌, Result, Ok, List, ◌++◌, length, take, drop, replicate, subst, ap, ◌∙◌, arith}
use Rattle.std.specs.Prelude.{IfOk}
use Rattle.std.proofs.lemmas.List.{length-take-le, take-append-le}
use Rattle.sn_base.specs.declared.memory.Memory.{Memory}
use Rattle.rv_core.specs.Flat.{flat_start}
use Rattle.projection_places.specs.Passes.{Passes, BlocksPass}
use Rattle.trace_check.specs.Slots.{HasEffects}
use Rattle.trace_check.proofs.parts.replay_blocks.Goals as goal

-- the first places of a list, after they were written
written : (n : ℕ) (old new : List (Result ℕ Memory)) → n ≤ length old → length new ≡ length (take n old) → length (take n (new ++ drop n old)) ≡ n
written n old new l size =
    let m : n ≤ length new = let t = length-take-le n old l in omega (arith, size, t) in
    ap length (take-append-le n new (drop n old) m) ∙ length-take-le n new m

-- there are as many results as parts
pub returns : goal.returns
returns g c =
    let few : c.from-parts.result ≤ 16 = let h = c.requires.few in let f = c.from-parts.ensures in omega (arith, h, f) in
    subst (λ parts. IfOk c.least_of.result (λ p. (nodes : ℕ) → HasEffects c.args.image.now nodes parts c.args.records.now c.args.count c.args.slots.now →
    Passes (BlocksPass c.args.image.now (flat_start c.args.image.now nodes) c.args.records.now) c.args.count p))
    (written c.from-parts.result (replicate 16 (Ok 0)) c.replay_parts.new.passed few c.replay_parts.ensures.size ∙ c.from-parts.ensures) c.least_of.ensures
