use Rattle.std.proofs.Common.{◌≡◌, ◌++◌, drop, false}
use Rattle.std.specs.Prelude.{map}
use Rattle.state_json.specs.Json.{with_commas}
use Rattle.state_json.specs.Messages.{sent_text}
use Rattle.state_texts.proofs.messages.add_each_sent.Given as goal

abbrev pub invariant-messages : goal.invariant-messages
invariant-messages l =
    l.text.items ++ with_commas l.others (map sent_text (drop l.one-index l.sent))
    ≡ l.initial.text.items ++ with_commas false (map sent_text l.sent)
