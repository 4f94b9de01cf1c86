use Rattle.std.proofs.Common.{◌≡◌, ℕ, ◌<◌, get_or, replicate, refl}
use Rattle.std.proofs.lemmas.List.{get_or-replicate}
use Rattle.route_plan.proofs.Growth.{first_table}
use Rattle.route_plan.proofs.Levels.{level-first}
use Rattle.route_plan.proofs.distances.first_level.Goals as goal

all_apart : (s : ℕ) → s < 32 → ◌≡◌ {A = ℕ} (get_or (replicate 32 32) s 0) 32
all_apart s l = get_or-replicate 32 s 32 0 l

pub returns : goal.returns
returns c = λ s l.
    rw (
      c.from.ensures,
      c.from-2.ensures,
      c.number.ensures.same,
      c.number-2.ensures.same,
      c.start.ensures,
      c.start-2.ensures,
      c.a.ensures,
      c.b.ensures,
      level-first (record { nodes = c.args.grid.now; dead = c.args.dead }) c.args.to s,
    )
    (first_table (record { nodes = c.args.grid.now; dead = c.args.dead }) c.args.to s
    (replicate 32 32) refl all_apart c.requires.few c.requires.there l)
