use Rattle.std.proofs.Common.{arith, ◌++◌, take, drop, length, ◌-◌, ◌≡◌}
use Rattle.std.proofs.lemmas.Result.{on_err_weaker}
use Rattle.std.proofs.lemmas.Grind.{common_steps}
use Rattle.sn_console.specs.Ends.{bytes_taken}
use Rattle.sn_console.proofs.Begun.{IsBegun-take}
use Rattle.sn_console.proofs.settling.settle.Goals as goal

pub returns-clause-err : goal.returns-clause-err
returns-clause-err g c =
    let n = c.meet-waiting.new.outbox.count - c.meet-waiting.result in
    let released = c.args.released.now in
    let whole : bytes_taken c.args.inbox ++ take (length released - n) (drop n released) ≡ released =
    grind (
      arith,
      common_steps,
      c.meet-waiting.ensures.all,
      c.meet-waiting.ensures.same,
      c.meet-waiting.new.outbox.counted,
      c.requires.passed.whole,
    ) in
    on_err_weaker c.put.result (λ e. IsBegun-take _ _ _ e.0 _ _ whole e.2) c.put.ensures.part
