use Rattle.std.proofs.Common.{◌≡◌, ◌<◌, ap, length, arith}
use Rattle.std.specs.Prelude.{max}
use Rattle.sn_machine.specs.Input.{InputData}
use Rattle.sn_machine.proofs.FirstParts.{roomier-one, done-one}
use Rattle.sn_machine.proofs.start.reserve_inputs.Goals as goal

pub processors-preserved : goal.processors-preserved
processors-preserved c =
    let e : c.reserve.new.self
    ≡ record c.index_mut-processor.result.now.input { room = max c.index_mut-processor.result.now.input.room c.args.bytes } = c.in_ok-reserve.ensures.ok in
    let room : c.reserve.new.self.room ≡ max c.index_mut-processor.result.now.input.room c.args.bytes = ap (λ (i : InputData). i.room) e in
    let l : c.processors.place < length c.processors.processors.items = omega
    (arith, c.processors-test.true, c.len-count.ensures, c.processors.invariant.same.count) in
    record {
      same =
          roomier-one c.args.processors.now.items c.processors.processors.items c.processors.place c.index_mut-processor.result.now c.reserve.new.self l c.index_mut-processor.ensures.value (ap (λ (i : InputData). i.given) e)
          c.processors.invariant.same (omega (arith, room));
      done =
          done-one c.args.processors.now.items c.processors.processors.items c.processors.place c.index_mut-processor.result.now c.reserve.new.self l c.index_mut-processor.ensures.value (ap (λ (i : InputData). i.given) e)
          c.args.bytes (omega (arith, room)) c.processors.invariant.done;
    }
