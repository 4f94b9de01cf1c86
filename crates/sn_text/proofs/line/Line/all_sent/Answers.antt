use Rattle.std.proofs.Common.{arith, sym, ap, ◌∙◌, ◌++◌, drop, ◌+◌}
use Rattle.sn_text.specs.Text.{sent_line, sent_lines}
use Rattle.sn_text.proofs.Texts.{sent_lines-more, sent_lines-end}
use Rattle.sn_text.proofs.line.Line.all_sent.Goals as goal

pub messages-preserved : goal.messages-preserved
messages-preserved c = record {
  same =
      ap (λ t. t ++ sent_lines (drop (c.messages.one-index + 1) c.args.sent.now))
      (c.sent.ensures.text ∙ ap (λ t. c.messages.self ++ sent_line t) c.one-item.is)
      ∙ sym (sent_lines-more c.messages.self c.args.sent.now c.messages.one-index c.one-item.result c.messages-test.true)
      ∙ c.messages.invariant.same;
  short = omega (arith, c.sent.ensures.short, c.messages.invariant.short);
}

pub returns-clause-text : goal.returns-clause-text
returns-clause-text c =
    sym (sent_lines-end c.messages.self c.args.sent.now c.messages.one-index c.messages-test.false) ∙ c.messages.invariant.same
