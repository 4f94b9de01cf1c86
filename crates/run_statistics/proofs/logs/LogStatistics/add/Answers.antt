use Rattle.std.proofs.Common.{◌≡◌, ℕ, List, ap, ◌∙◌}
use Rattle.run_statistics.specs.declared.logs.LogStatistics.{LogStatistics}
use Rattle.run_statistics.specs.Logs.{entries_of, checkpoints_of}
use Rattle.run_statistics.proofs.Covering.{none-raised, one-raised}
use Rattle.run_statistics.proofs.logs.LogStatistics.add.Goals as goal

abbrev logs_of : List ℕ → List ℕ → LogStatistics
logs_of entries checkpoints = record { most_entries = entries; most_checkpoints = checkpoints }

both-are : (a b d e : List ℕ) → a ≡ b → d ≡ e → logs_of a d ≡ logs_of b e
both-are a b d e p q = ap (λ (t : List ℕ). logs_of t d) p ∙ ap (λ (t : List ℕ). logs_of b t) q

pub returns-in-Nobody : goal.returns-in-Nobody
returns-in-Nobody c =
    let s = c.args.machine.now.state.fabric in
    let nodes = c.args.machine.now.config.nodes in
    both-are _ _ _ _
    (none-raised (entries_of s) nodes c.args.reach.now c.args.self.now.most_entries c.requires.entries c.in-Nobody.is)
    (none-raised (checkpoints_of s) nodes c.args.reach.now c.args.self.now.most_checkpoints c.requires.checkpoints c.in-Nobody.is)

pub returns-in-One : goal.returns-in-One
returns-in-One c =
    let s = c.args.machine.now.state.fabric in
    let nodes = c.args.machine.now.config.nodes in
    c.add_node.ensures
    ∙ both-are _ _ _ _
    (one-raised (entries_of s) nodes c.args.reach.now c.args.self.now.most_entries c.requires.entries c.in-One.node c.in-One.is c.requires.reach)
    (one-raised (checkpoints_of s) nodes c.args.reach.now c.args.self.now.most_checkpoints c.requires.checkpoints c.in-One.node c.in-One.is c.requires.reach)
