use Rattle.std.proofs.Common.{length, ap, ◌∙◌}
use Rattle.script_replay.specs.Machine.{MachineData}
use Rattle.sink_pieces.specs.Pieces.{after}
use Rattle.shown_states.proofs.Puts.{had-few, pieces-same, turn-is}
use Rattle.shown_states.proofs.play.turn_with_state.Goals as goal

pub tell_and_put-requires : goal.tell_and_put-requires
tell_and_put-requires g c = record {
  few = had-few c.args.machine.now c.apply_and_write.new.machine c.args.event.now c.in-Ok.answer _ c.recovered.ensures.consistent
      c.requires.whole c.in-Ok.ensures.next
      (ap length (c.released-had.ensures ∙ ap (λ (t : MachineData). t.state.released) c.recovered.ensures.shown));
}

pub returns-in-Ok-tell_and_put-clause-ok : goal.returns-in-Ok-tell_and_put-clause-ok
returns-in-Ok-tell_and_put-clause-ok g c =
    c.in-Ok-tell_and_put.ensures.ok
    ∙ ap (after _)
    (turn-is c.args.machine.now c.apply_and_write.new.machine c.args.only.now c.args.event.now c.in-Ok.answer _ c.as_slice.result.now
    c.in-Ok.ensures.next
    (ap length (c.released-had.ensures ∙ ap (λ (t : MachineData). t.state.released) c.recovered.ensures.shown))
    (c.as_slice.ensures.value ∙ c.in-Ok.ensures.text))

pub returns-in-Err-tell_and_put-clause-sink : goal.returns-in-Err-tell_and_put-clause-sink
returns-in-Err-tell_and_put-clause-sink g c = λ e.
    pieces-same _ _ _ _
    (turn-is c.args.machine.now c.apply_and_write.new.machine c.args.only.now c.args.event.now c.in-Ok.answer _ c.as_slice.result.now
    c.in-Ok.ensures.next
    (ap length (c.released-had.ensures ∙ ap (λ (t : MachineData). t.state.released) c.recovered.ensures.shown))
    (c.as_slice.ensures.value ∙ c.in-Ok.ensures.text))
    c.in-Err-tell_and_put.ensures.err
