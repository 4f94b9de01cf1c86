-- What is counted of messages.
use Rattle.std.specs.Prelude.{ℕ, ◌-◌, List, map, count_by}
use Rattle.sn_base.specs.declared.event.Answer.{Answer}
use Rattle.sn_base.specs.declared.event.Answer.TheVariants.{Killed}
use Rattle.sn_model.specs.declared.net.Sent.{Sent}
use Rattle.run_statistics.specs.declared.messages.MessageStatistics.{MessageStatistics}
use Rattle.run_statistics.specs.Numbers.{bounded_sum, with_one_each, no_numbers}
use Rattle.run_statistics.specs.Places.{place_of_kind}

abbrev pub no_messages : MessageStatistics
no_messages = record { sent = no_numbers; lost_at_once = 0; lost_in_switch = 0 }

-- the kinds of messages that were sent
abbrev pub kinds_of : List Sent → List ℕ
kinds_of sent = map (λ (m : Sent). place_of_kind m.message.body) sent

-- those of which the entry switch was dead
abbrev pub lost_among : List Sent → ℕ
lost_among sent = count_by (λ (m : Sent). m.lost) sent

-- how many fewer are in flight after a switch died
abbrev pub killed_by : Answer → ℕ → ℕ → ℕ
killed_by Killed before after = before - after
killed_by _ before after = 0

-- with those that an event sent, which had this answer, and before and after which so many were in flight
abbrev pub messages_with : MessageStatistics → Answer → List Sent → ℕ → ℕ → MessageStatistics
messages_with x answer sent before after = record {
  sent = with_one_each x.sent (kinds_of sent);
  lost_at_once = bounded_sum x.lost_at_once (lost_among sent);
  lost_in_switch = bounded_sum x.lost_in_switch (killed_by answer before after);
}
