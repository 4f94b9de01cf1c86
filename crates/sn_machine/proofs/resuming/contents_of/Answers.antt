use Rattle.std.proofs.Common.{◌≡◌, ◌∙◌, ℕ, List, ◌+◌, ◌<◌, [], ap, sym, subst, length, arith}
use Rattle.std.specs.Prelude.{slice_index_or}
use Rattle.std.proofs.lemmas.List.{length_push}
use Rattle.sn_model.specs.RecoveryPoint.{block_in}
use Rattle.sn_machine.proofs.ResumedLists.{pushed-at}
use Rattle.sn_machine.proofs.resuming.contents_of.Goals as goal

pub numbers-preserved : goal.numbers-preserved
numbers-preserved c =
    let memory = c.args.flat.now.memory in
    let n = c.numbers.number in
    let long = length_push c.numbers.contents.items c.block.result in
    let count = c.numbers.invariant.count in
    record {
      count = ap length c.in_ok-push.ensures.items ∙ omega (arith, long, count);
      blocks =
          subst (λ (xs : List (List ℕ)). (block : ℕ) → block < n + 1 → slice_index_or xs block [] ≡ block_in memory block)
          (sym c.in_ok-push.ensures.items)
          (pushed-at (block_in memory) c.numbers.contents.items c.block.result [] n count c.numbers.invariant.blocks
          (c.block.ensures ∙ ap (block_in memory) c.new.ensures));
    }

pub returns : goal.returns
returns c = record {
  count = let count = c.numbers.invariant.count in omega (arith, count);
  blocks = λ block l. c.numbers.invariant.blocks block (omega (arith, l));
}
