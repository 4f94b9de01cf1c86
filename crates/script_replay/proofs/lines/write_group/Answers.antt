use Rattle.std.proofs.Common.{◌∙◌, ◌-◌, ap, ◌++◌}
use Rattle.script_replay.specs.Played.{since}
use Rattle.sn_text.specs.Text.{sent_lines}
use Rattle.script_replay.proofs.Groups.{line-is, group-recovered, group-sent}
use Rattle.script_replay.proofs.lines.write_group.Goals as goal

pub returns-in-Recovered : goal.returns-in-Recovered
returns-in-Recovered c =
    group-recovered (since c.args.before c.args.machine.now) c.args.watch c.args.event.now c.args.answer.now c.in-Recovered.field-0 c.write_cut.new.line
    c.event.new.self c.in-Recovered.is c.requires.alone
    (line-is (since c.args.before c.args.machine.now) c.args.event.now c.args.answer.now c.clear.new.self c.event.new.self c.from.result c.clear.ensures
    (c.from.ensures ∙ ap (λ k. k - c.args.before) c.applied.ensures.same) c.event.ensures.text) c.write_cut.ensures

pub returns-in_default : goal.returns-in_default
returns-in_default c =
    group-sent (since c.args.before c.args.machine.now) c.args.watch c.args.event.now c.args.answer.now c.all_sent.new.self c.event.new.self
    c.in_default.not-Recovered
    (line-is (since c.args.before c.args.machine.now) c.args.event.now c.args.answer.now c.clear.new.self c.event.new.self c.from.result c.clear.ensures
    (c.from.ensures ∙ ap (λ k. k - c.args.before) c.applied.ensures.same) c.event.ensures.text)
    (c.all_sent.ensures.text ∙ ap (λ t. c.event.new.self ++ sent_lines t) c.sent.ensures.same)
