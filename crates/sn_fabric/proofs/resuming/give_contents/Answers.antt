use Rattle.std.proofs.Common.{◌≡◌, ℕ, List, [], ◌%◌, ◌<◌, true, false, length, ap, ◌∙◌, arith}
use Rattle.std.specs.Prelude.{nat_eq}
use Rattle.std.proofs.lemmas.Bool.Decides.{nat_tests}
use Rattle.std.proofs.lemmas.List.{get_or_read}
use Rattle.sn_base.specs.declared.log.Old.TheVariants.{WasHome}
use Rattle.rollback.specs.Unwound.{contents_with_old}
use Rattle.home_directory.specs.Restored.{is_here, had, stays-same, stays-along}
use Rattle.sn_fabric.specs.Resumed.{content_in}
use Rattle.sn_fabric.proofs.HomesBack.{can_put, next_content, skipped_content, contents_back}
use Rattle.sn_fabric.proofs.resuming.give_contents.Goals as goal
use Rattle.sn_fabric.proofs.resuming.give_contents.Goals.{then-eq, else-eq}

pub numbers-init : goal.numbers-init
numbers-init c = record { held = λ b l here. absurd (omega (arith, l)); stays = stays-same c.args.home.now }

pub put_back-requires : goal.put_back-requires
put_back-requires c =
    let b = c.new-block.result in
    let there : is_here c.numbers.home b ≡ nat_eq (b % c.args.nodes) c.args.node =
    ap (λ (n : ℕ). nat_eq (b % n) c.numbers.home.node) (c.numbers.invariant.stays.nodes ∙ c.requires.nodes)
    ∙ ap (λ (n : ℕ). nat_eq (b % c.args.nodes) n) (c.numbers.invariant.stays.node ∙ c.requires.node) in
    let here : nat_eq (b % c.args.nodes) c.args.node ≡ true =
    let a = c.if-eq.true in let e = c.eq.ensures in let h = c.home.ensures in grind (arith, nat_tests) in
    can_put c.numbers.home b (WasHome c.index-contents-number.result) (there ∙ here)

pub numbers-preserved : goal.numbers-preserved
numbers-preserved c =
    let k = c.numbers.number in
    let there : is_here c.numbers.home k ≡ nat_eq (k % c.args.nodes) c.args.node =
    ap (λ (n : ℕ). nat_eq (k % n) c.numbers.home.node) (c.numbers.invariant.stays.nodes ∙ c.requires.nodes)
    ∙ ap (λ (n : ℕ). nat_eq (k % c.args.nodes) n) (c.numbers.invariant.stays.node ∙ c.requires.node) in
    let at : c.new-block.result ≡ k = c.new-block.ensures in
    elim c.if-eq.branch [
      | then-eq w ↦
          let here : nat_eq (k % c.args.nodes) c.args.node ≡ true =
          let a = w.if-eq.true in let e = c.eq.ensures in let h = c.home.ensures in grind (arith, nat_tests, at) in
          let inside : k < length c.args.contents.now = omega (arith, c.requires.all, c.numbers-test.true) in
          let content : w.index-contents-number.result ≡ content_in c.args.contents.now k =
          get_or_read c.args.contents.now k w.index-contents-number.result inside w.index-contents-number.is [] in
          rw w.home-is (record {
            held =
                next_content c.args.contents.now c.numbers.home w.put_back.new.self k w.put_back.ensures.stays (there ∙ here)
                (λ b. w.put_back.ensures.held b
                ∙ ap (λ (n : ℕ). contents_with_old true (had c.numbers.home) n (WasHome w.index-contents-number.result) b) at
                ∙ ap (λ (v : List ℕ). contents_with_old true (had c.numbers.home) k (WasHome v) b) content) c.numbers.invariant.held;
            stays = stays-along c.args.home.now c.numbers.home w.put_back.new.self c.numbers.invariant.stays w.put_back.ensures.stays;
          })
      | else-eq w ↦
          let other : nat_eq (k % c.args.nodes) c.args.node ≡ false =
          let a = w.if-eq.false in let e = c.eq.ensures in let h = c.home.ensures in grind (arith, nat_tests, at) in
          rw w.home-is (record {
            held = skipped_content c.args.contents.now c.numbers.home k (there ∙ other) c.numbers.invariant.held;
            stays = c.numbers.invariant.stays;
          })
    ]

pub returns : goal.returns
returns c =
    contents_back c.requires.rest.0 c.args.node c.args.nodes c.args.contents.now c.args.home.now c.numbers.home c.requires.rest.1
    c.numbers.invariant.stays (λ b l here. c.numbers.invariant.held b (omega (arith, l, c.numbers-test.false)) here)
