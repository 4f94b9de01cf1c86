use Rattle.std.proofs.Common.{refl, ap, ◌∙◌}
use Rattle.line_source.specs.Lines.{Line, TooLong}
use Rattle.driven_replay.specs.Said.{said_in}
use Rattle.driven_replay.proofs.SoFar.{read-whole, read-longer}
use Rattle.driven_replay.proofs.driving.next_said.Goals as goal

pub returns-in-Ok-Whole : goal.returns-in-Ok-Whole
returns-in-Ok-Whole g c = record {
  next = (
    Line c.next_line.new.into,
    c.said_in.ensures.same ∙ ap (said_in c.args.nodes) c.bytes.ensures,
    read-whole c.in-Ok-Whole.field-0 c.next_line.new.into _ _ c.in-Ok-Whole.field-0-is c.in-Ok-Whole.ensures.read c.in-Ok-Whole.ensures.left,
  );
  fits = c.said_in.ensures.fits;
  failed = tt;
  later = c.in-Ok-Whole.ensures.later;
  cause = tt;
}

pub returns-in-Ok-Longer : goal.returns-in-Ok-Longer
returns-in-Ok-Longer g c = record {
  next = (
    TooLong,
    refl,
    read-longer c.in-Ok-Longer.field-0 c.next_line.new.into _ _ c.in-Ok-Longer.field-0-is c.in-Ok-Longer.ensures.read c.in-Ok-Longer.ensures.left,
  );
  fits = tt;
  failed = tt;
  later = c.in-Ok-Longer.ensures.later;
  cause = tt;
}
