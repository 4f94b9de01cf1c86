use Rattle.std.proofs.Common.{◌≡◌, ◌≢◌, ℕ, ◌↔◌, true, Result, Ok, Err, ap, subst, ◌∙◌}
use Rattle.std.specs.Prelude.{IfOk, IfSome, IsTrue}
use Rattle.trace_check.specs.declared.cell.Cell.{Cell}
use Rattle.trace_check.specs.Cells.{Finds, IsAfter}
use Rattle.trace_check.specs.CellPlaces.{cell_at, IsReplay}
use Rattle.trace_check.specs.Tags.{wanted_block}
use Rattle.trace_check.proofs.blocks.replay_access.Goals as goal

all_three : {A E : Type 0} (x : Result A E) (P Q R S : A → Type 0) → ((a : A) → P a → Q a → R a → S a) → IfOk x P → IfOk x Q → IfOk x R → IfOk x S
all_three (Ok a) P Q R S f p q r = f a p q r
all_three (Err e) P Q R S f p q r = p

pub returns-clause-done : goal.returns-clause-done
returns-clause-done c =
    let cell : ℕ → Cell = λ b. cell_at c.args.image.now c.args.cells.now b in
    let later : ℕ → Cell = λ b. cell_at c.args.image.now c.replay.new.self b in
    let want = c.args.effect.now.want in
    let block = c.unwrap-block.result in
    let same : block ≡ wanted_block want = subst (λ o. IfSome o (λ b. b ≡ wanted_block c.want.result)) c.unwrap-block.ensures c.block_in.ensures.block ∙ ap wanted_block c.want.ensures in
    all_three c.replay.result (λ found. IsTrue found ↔ Finds (cell block) want c.args.taken.now)
    (λ found. found ≡ true → IsAfter (cell block) c.args.effect.now c.args.taken.now (later block))
    (λ found. (b : ℕ) → b ≢ block → later b ≡ cell b)
    (λ found. IsReplay c.args.image.now c.args.cells.now c.args.effect.now c.args.taken.now found c.replay.new.self)
    (λ found f a o. record {
      finds = subst (λ b. IsTrue found ↔ Finds (cell b) want c.args.taken.now) same f;
      after = λ t. subst (λ b. IsAfter (cell b) c.args.effect.now c.args.taken.now (later b)) same (a t);
      others = λ b n. o b (λ e. n (e ∙ same));
    })
    c.replay.ensures.finds c.replay.ensures.after c.replay.ensures.others
