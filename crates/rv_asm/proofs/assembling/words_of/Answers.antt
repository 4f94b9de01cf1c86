use Rattle.std.proofs.Common.{◌≡◌, ◌*◌, length, arith}
use Rattle.std.proofs.lemmas.Result.{err_from_is_err_and}
use Rattle.rv_asm.specs.Lists.{place_in}
use Rattle.rv_asm.proofs.Passes.{writer-next, writer-refuses, writer-ends}
use Rattle.rv_asm.proofs.assembling.words_of.Goals as goal

pub returns-in_err-word-clause-refused : goal.returns-in_err-word-clause-refused
returns-in_err-word-clause-refused c =
    let p = err_from_is_err_and c.from_residual.result c.from_residual.ensures.1 in
    let here : 4 * c.len.result ≡ 4 * length c.items.words.items = omega (arith, c.len.ensures, c.items.words.ok) in
    rw (p.1, p.2) (writer-refuses
    (place_in c.args.labels.now) c.items.words.items _ c.items.item-index c.args.items.now _ c.in_err-word.field-0.0 c.items-test.true here c.in_err-word.ensures.refused c.items.invariant.same)

pub items-preserved : goal.items-preserved
items-preserved c =
    let here : 4 * c.len.result ≡ 4 * length c.items.words.items = omega (arith, c.len.ensures, c.items.words.ok) in
    record {
      same =
          rw c.in_ok-push.ensures.items
          (writer-next
          (place_in c.args.labels.now) c.items.words.items _ c.items.item-index c.args.items.now _ c.in_ok-word.word c.items-test.true here c.in_ok-word.ensures.ok c.items.invariant.same);
      many = omega (arith, c.in_ok-push.ensures.len, c.items.invariant.many);
    }

pub returns-clause-ok : goal.returns-clause-ok
returns-clause-ok c =
    writer-ends
    (place_in c.args.labels.now) c.items.words.items c.items.item-index c.args.items.now c.items-test.false c.items.invariant.same
