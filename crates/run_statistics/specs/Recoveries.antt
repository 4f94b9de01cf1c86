-- What each recovery took back, and what led to it.
use Rattle.std.specs.Prelude.{ℕ, nat_lt, if◌then◌else◌, List, [], ◌∷◌, ◌++◌}
use Rattle.sn_base.specs.declared.event.Undo.{Undo}
use Rattle.sn_base.specs.declared.event.Answer.{Answer}
use Rattle.sn_base.specs.declared.event.Answer.TheVariants.{LostInDead, Lost, Killed, Validated, Recovered}
use Rattle.sn_model.specs.declared.net.Sent.{Sent}
use Rattle.run_statistics.specs.declared.recoveries.Lead.{Lead}
use Rattle.run_statistics.specs.declared.recoveries.Lead.TheVariants.{Loss, DeadSwitch, Wait}
use Rattle.run_statistics.specs.declared.recoveries.RecoveryStatistics.{RecoveryStatistics}
use Rattle.run_statistics.specs.Numbers.{with_more, no_numbers}
use Rattle.run_statistics.specs.Messages.{lost_among}
use Rattle.run_statistics.specs.Spreads.{no_spread, spread_with}

abbrev pub no_recoveries : RecoveryStatistics
no_recoveries = record {
  lead = Wait;
  leads = no_numbers;
  instructions = no_spread;
  entries = no_spread;
  messages = no_spread;
  all = [];
}

-- the first trouble since the last validation or recovery stands
abbrev pub or_first : Lead → Lead → Lead
or_first Wait other = other
or_first Loss other = Loss
or_first DeadSwitch other = DeadSwitch

-- what an answer tells of trouble
abbrev pub lead_by : Answer → Lead → Lead
lead_by Lost lead = or_first lead Loss
lead_by LostInDead lead = or_first lead DeadSwitch
lead_by Killed lead = or_first lead DeadSwitch
lead_by (Validated k) lead = Wait
lead_by (Recovered undo) lead = Wait
lead_by _ lead = lead

-- and then messages of which one was lost in its entry switch
abbrev pub lead_after : Answer → List Sent → Lead → Lead
lead_after answer sent lead =
    if nat_lt 0 (lost_among sent) then or_first (lead_by answer lead) DeadSwitch else lead_by answer lead

abbrev pub place_of_lead : Lead → ℕ
place_of_lead Loss = 0
place_of_lead DeadSwitch = 1
place_of_lead Wait = 2

-- the recovery of the event of this number, before which so many records waited
abbrev pub with_undo : RecoveryStatistics → ℕ → ℕ → Undo → RecoveryStatistics
with_undo x number waiting undo = record x {
  leads = with_more x.leads (place_of_lead x.lead) 1;
  instructions = spread_with x.instructions waiting;
  entries = spread_with x.entries undo.undone;
  messages = spread_with x.messages undo.dropped;
  all = x.all ++ record { at = number; to = undo.to; instructions = waiting; entries = undo.undone; messages = undo.dropped } ∷ [];
}

abbrev pub with_any_undo : RecoveryStatistics → ℕ → ℕ → Answer → RecoveryStatistics
with_any_undo x number waiting (Recovered undo) = with_undo x number waiting undo
with_any_undo x number waiting _ = x

abbrev pub recoveries_with : RecoveryStatistics → ℕ → ℕ → Answer → List Sent → RecoveryStatistics
recoveries_with x number waiting answer sent =
    record (with_any_undo x number waiting answer) { lead = lead_after answer sent x.lead }
