use Rattle.std.proofs.Common.{◌≡◌, ℕ, ◌%◌, ◌<◌, true, false, length, get_or, ap, ◌∙◌, arith}
use Rattle.std.specs.Prelude.{nat_eq}
use Rattle.std.proofs.lemmas.Bool.Decides.{nat_tests}
use Rattle.std.proofs.lemmas.List.{get_or_default}
use Rattle.sn_base.specs.declared.log.Old.TheVariants.{WasCache}
use Rattle.rollback.specs.Unwound.{contents_with_old}
use Rattle.home_directory.specs.Restored.{is_here, had}
use Rattle.sn_fabric.proofs.HomesBack.{named_next, named_elsewhere}
use Rattle.sn_fabric.proofs.resuming.name_owners.Goals as goal
use Rattle.sn_fabric.proofs.resuming.name_owners.Goals.{then-eq, else-eq}

pub owners-preserved : goal.owners-preserved
owners-preserved c =
    let l : c.owners.place < length c.args.owners.now = omega (arith, c.owners-test.true) in
    let o = get_or c.args.owners.now c.owners.place c.index-owners-place.result in
    let p = get_or c.args.owners.now c.owners.place c.index-owners-place-in-owners.result in
    let same : p ≡ o = get_or_default c.args.owners.now c.owners.place c.index-owners-place-in-owners.result c.index-owners-place.result l in
    let there : is_here c.owners.home o.0 ≡ nat_eq (o.0 % c.args.nodes) c.args.node =
    ap (λ (n : ℕ). nat_eq (o.0 % n) c.owners.home.node) c.owners.invariant.nodes
    ∙ ap (λ (n : ℕ). nat_eq (o.0 % c.args.nodes) n) c.owners.invariant.node in
    elim c.if-eq.branch [
      | then-eq w ↦
          let here : nat_eq (o.0 % c.args.nodes) c.args.node ≡ true =
          let a = w.if-eq.true in let b = c.eq.ensures in let h = c.home.ensures in grind (arith, nat_tests) in
          rw w.home-is
          (named_next c.args.node c.args.nodes c.args.contents.now c.args.owners.now c.owners.place c.index-owners-place.result c.requires.order l
          c.owners.home w.put_back.new.self w.put_back.ensures.stays (there ∙ here)
          (λ b. w.put_back.ensures.held b
          ∙ ap (λ (x : ℕ × ℕ). contents_with_old true (had c.owners.home) o.0 (WasCache x.1) b) same) c.owners.invariant)
      | else-eq w ↦
          let other : nat_eq (o.0 % c.args.nodes) c.args.node ≡ false =
          let a = w.if-eq.false in let b = c.eq.ensures in let h = c.home.ensures in grind (arith, nat_tests) in
          rw w.home-is
          (named_elsewhere c.args.node c.args.nodes c.args.contents.now c.args.owners.now c.owners.place c.index-owners-place.result c.requires.order l
          c.owners.home (there ∙ other) c.owners.invariant)
    ]
