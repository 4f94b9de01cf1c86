use Rattle.std.proofs.Common.{ℕ, List, ◌+◌, length, ap, sym, subst, ◌∙◌}
use Rattle.std.proofs.lemmas.List.{length_push}
use Rattle.home_directory.specs.Home.{HomeData}
use Rattle.sn_fabric.specs.Parts.{home_at}
use Rattle.sn_fabric.specs.Resumed.{IsHomeWith}
use Rattle.sn_fabric.proofs.HomesBack.{homes_more}
use Rattle.sn_fabric.proofs.resuming.resumed_homes.Goals as goal

pub nodes-preserved : goal.nodes-preserved
nodes-preserved c = record {
  count =
      ap (λ (xs : List HomeData). length xs) c.in_ok-push.ensures.items
      ∙ (length_push c.nodes.homes.items c.in_ok-home.home ∙ ap (λ (n : ℕ). n + 1) c.nodes.invariant.count);
  homes =
      λ n l. subst (λ (xs : List HomeData). IsHomeWith n c.args.nodes c.args.contents.now c.args.owners.now (home_at xs n))
      (sym c.in_ok-push.ensures.items)
      (homes_more c.args.nodes c.nodes.number c.args.contents.now c.args.owners.now c.nodes.homes.items c.in_ok-home.home c.nodes.invariant.count
      c.nodes.invariant.homes
      (subst (λ (k : ℕ). IsHomeWith k c.args.nodes c.args.contents.now c.args.owners.now c.in_ok-home.home) c.numbered-node.ensures c.in_ok-home.ensures)
      n l);
}
