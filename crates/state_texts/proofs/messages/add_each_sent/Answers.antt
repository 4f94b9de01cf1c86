use Rattle.std.proofs.Common.{◌∙◌, sym, ap, ◌++◌, drop, ◌+◌, true}
use Rattle.std.specs.Prelude.{map}
use Rattle.state_json.specs.Json.{comma_after, with_commas}
use Rattle.state_json.specs.Messages.{sent_text}
use Rattle.state_texts.proofs.Lists.{commas-more, commas-end}
use Rattle.state_texts.proofs.messages.add_each_sent.Goals as goal

pub messages-preserved : goal.messages-preserved
messages-preserved c =
    ap (λ t. t ++ with_commas true (map sent_text (drop (c.messages.one-index + 1) c.args.sent.now)))
    (c.in_ok-add_sent.ensures ∙ ap (λ t. t ++ sent_text c.one-item.result) c.in_ok-add_comma.ensures
    ∙ ap (λ t. (c.messages.text.items ++ comma_after c.messages.others) ++ sent_text t) c.one-item.is)
    ∙ sym (commas-more sent_text c.messages.text.items c.messages.others c.args.sent.now c.messages.one-index c.one-item.result c.messages-test.true)
    ∙ c.messages.invariant

pub returns : goal.returns
returns c =
    sym (commas-end sent_text c.messages.text.items c.messages.others c.args.sent.now c.messages.one-index c.messages-test.false)
    ∙ c.messages.invariant
