use Rattle.std.proofs.Common.{arith, refl, drop, length, ◌-◌}
use Rattle.std.proofs.lemmas.List.{length-take, length-drop}
use Rattle.sn_io.proofs.Written.{appends-more, appends-nothing}
use Rattle.sn_io.proofs.std_sink.write_piece.Goals as goal

pub loop-written-init : goal.loop-written-init
loop-written-init g c = record {
  within = omega arith;
  so_far = appends-nothing (g.W.Write.contents c.args.writer.now);
  unmoved = λ _. refl;
}

pub loop-written-preserved : goal.loop-written-preserved
loop-written-preserved g c = record {
  within =
      omega (
        arith,
        c.in-Ok.ensures.bound,
        length-take (length c.args.piece.now - c.loop-written.written) (drop c.loop-written.written c.args.piece.now),
        length-drop c.loop-written.written c.args.piece.now,
        c.loop-written-test.true,
      );
  so_far =
      appends-more (g.W.Write.contents c.args.writer.now) (g.W.Write.contents c.loop-written.writer) (g.W.Write.contents c.write.new.self)
      c.args.piece.now c.loop-written.written c.in-Ok.n c.loop-written.invariant.so_far c.in-Ok.ensures.bytes;
  unmoved = λ e. absurd (omega (arith, e, c.loop-written-test.true));
}
