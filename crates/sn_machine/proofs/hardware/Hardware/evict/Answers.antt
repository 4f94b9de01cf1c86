use Rattle.std.proofs.Common.{refl, sym, ◌∙◌, arith}
use Rattle.sn_model.specs.NodeEvents.{step_of_eviction}
use Rattle.consistent_cuts.proofs.Hearings.{rightly_evicted}
use Rattle.sn_machine.proofs.Units.{evicted-tells, hearing-none, hearing-lost-at}
use Rattle.sn_machine.proofs.hardware.Hardware.evict.Goals as goal

pub returns-in_default : goal.returns-in_default
returns-in_default c = record {
  done =
      hearing-none c.args.self.now _ c.evict-answer.result
      (step_of_eviction c.args.self.now.fabric.fabric c.args.node c.args.block) c.requires.whole c.evict-answer.ensures
      (rightly_evicted c.args.self.now.fabric.fabric c.args.node c.args.block c.requires.here)
      ((evicted-tells c.args.self.now.fabric.fabric c.args.node c.args.block).1
      (λ e. c.in_default.not-Evicted (c.evict-answer.ensures.answer ∙ e)))
      (record { processors = refl; controller = refl; history = refl; output = refl }) refl;
  low = omega (arith, c.number-number.ensures.same, c.number-number.ensures.small);
}

pub returns-clause-done : goal.returns-clause-done
returns-clause-done c =
    hearing-lost-at c.args.self.now _ c.evict-answer.result
    (step_of_eviction c.args.self.now.fabric.fabric c.args.node c.args.block) c.args.node c.args.block c.from.result c.index_mut-processor.result.now c.unreserve.new.core c.requires.whole c.requires.here
    c.evict-answer.ensures (rightly_evicted c.args.self.now.fabric.fabric c.args.node c.args.block c.requires.here)
    ((evicted-tells c.args.self.now.fabric.fabric c.args.node c.args.block).0 (sym c.evict-answer.ensures.answer ∙ c.in-Evicted.is))
    (c.from.ensures ∙ c.number.ensures.same) c.index_mut-processor.ensures.value
    (record { processors = refl; controller = refl; history = refl; output = refl }) c.unreserve.ensures refl
