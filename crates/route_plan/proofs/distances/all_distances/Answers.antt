use Rattle.std.proofs.Common.{◌≡◌, ℕ, ◌<◌, ◌≢◌, [], List, length, get_or, set, inl, inr, ap, ◌∙◌, arith}
use Rattle.std.proofs.lemmas.Bool.{cases_eq}
use Rattle.std.proofs.lemmas.Grind.{common_steps}
use Rattle.route_plan.specs.Distances.{distance}
use Rattle.route_plan.proofs.distances.all_distances.Goals as goal

written : (tables : List (List ℕ)) (table : List ℕ) (i : ℕ) → i < length tables → get_or (set tables i table) i [] ≡ table
written tables table i l = grind (arith, common_steps)

kept : (tables : List (List ℕ)) (table : List ℕ) (i k : ℕ) → k ≢ i → get_or (set tables i table) k [] ≡ get_or tables k []
kept tables table i k d = grind (arith, common_steps)

pub nodes-preserved : goal.nodes-preserved
nodes-preserved c = record {
  long = grind (arith, common_steps);
  all = λ to l s n.
      rw c.from.ensures (elim (cases_eq to c.nodes.to) [
        | inl e ↦ rw (e, written c.nodes.tables c.distances_to.result c.nodes.to (omega arith))
            (c.distances_to.ensures s n ∙ ap (λ t. distance (record { nodes = c.args.grid.now; dead = c.args.dead }) t s) c.numbered.ensures)
        | inr d ↦ rw (kept c.nodes.tables c.distances_to.result c.nodes.to to d) (c.nodes.invariant.all to (omega arith) s n)
      ]);
}
